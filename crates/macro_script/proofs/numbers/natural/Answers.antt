use Rattle.std.proofs.Common.{arith, sym}
use Rattle.macro_script.proofs.SpelledNumbers.{natural_some}
use Rattle.macro_script.proofs.numbers.natural.Goals as goal

pub returns : goal.returns
returns c = sym (natural_some c.args.word.now c.in_ok-value.value c.in_ok-value.ensures.only (omega arith))
