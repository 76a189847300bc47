use Rattle.macro_script.proofs.Names.{arith, sym, ap, ◌∙◌, Some, w64, to_z_pos}
use Rattle.macro_script.proofs.SpelledNumbers.{integer_some}
use Rattle.macro_script.proofs.numbers.integer.Goals as goal

pub returns : goal.returns
returns c = ap Some (to_z_pos w64 c.in_ok-value.value (omega arith)) ∙ sym (integer_some c.args.word.now c.in_ok-value.value c.in_ok-value.ensures.only (omega arith))
