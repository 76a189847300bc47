use Rattle.std.proofs.Common.{arith, refl}
use Rattle.macro_script.proofs.LeadingNumbers.{digit_at_front}
use Rattle.macro_script.proofs.fields.lone_digit.Goals as goal

pub returns-then-ends_word : goal.returns-then-ends_word
returns-then-ends_word c = digit_at_front c.args.line.now _ (omega arith) c.if-first-ne32.false (c.if-not-is_ascii_digit.ensures).cases refl (c.if-ends_word.ensures refl)
