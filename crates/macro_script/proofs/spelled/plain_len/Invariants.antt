use Rattle.macro_script.proofs.Plain.{ArePlainBefore}
use Rattle.macro_script.proofs.spelled.plain_len.Given as goal

abbrev pub invariant-loop-i : goal.invariant-loop-i
invariant-loop-i l = ArePlainBefore l.text l.i
