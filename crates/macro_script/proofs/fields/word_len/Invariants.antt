use Rattle.macro_script.proofs.Words.{NoSpaceBefore}
use Rattle.macro_script.proofs.fields.word_len.Given as goal

abbrev pub invariant-loop-i : goal.invariant-loop-i
invariant-loop-i l = NoSpaceBefore l.line l.i
