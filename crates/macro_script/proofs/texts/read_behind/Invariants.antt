use Rattle.std.proofs.Common.{◌-◌, length}
use Rattle.macro_script.proofs.Plain.{IsReadSoFar}
use Rattle.macro_script.proofs.texts.read_behind.Given as goal

abbrev pub invariant-loop-text : goal.invariant-loop-text
invariant-loop-text l = IsReadSoFar l.spelling l.at l.text.items

abbrev pub decreases-loop-text : goal.decreases-loop-text
decreases-loop-text l = length l.spelling - l.at
