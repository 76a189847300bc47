use Rattle.macro_script.proofs.ListedLengths.{IsLengthSoFar}
use Rattle.macro_script.proofs.lengths.text_len.Given as goal

abbrev pub invariant-loop-byte : goal.invariant-loop-byte
invariant-loop-byte l = IsLengthSoFar l.text l.byte-index l.len
