use Rattle.macro_script.proofs.Names.{arith, sym, ◌∙◌, length, eqb-false}
use Rattle.macro_script.proofs.SpelledNumbers.{spelling_of, magnitude_only, magnitude_each}
use Rattle.macro_script.proofs.numbers.magnitude.Goals as goal

pub returns-then-word-gt-MOST_DIGITS-clause-each : goal.returns-then-word-gt-MOST_DIGITS-clause-each
returns-then-word-gt-MOST_DIGITS-clause-each c = λ n low is. let spelling = spelling_of c.args.word.now n low is in absurd (omega arith)

pub returns-then-has_leading_zero-clause-each : goal.returns-then-has_leading_zero-clause-each
returns-then-has_leading_zero-clause-each c = λ n low is.
    let spelling = spelling_of c.args.word.now n low is in
    let leading = c.if-has_leading_zero.ensures in
    absurd (omega (arith, spelling.lone leading.1))

pub returns-clause-only : goal.returns-clause-only
returns-clause-only c =
    let some = eqb-false (length c.args.word.now) 0 (sym c.is_empty.ensures ∙ c.if-is_empty.false) in
    magnitude_only c.args.word.now c.value_of_digits.result c.value_of_digits.ensures (omega arith) (omega arith) c.if-has_leading_zero.ensures

pub returns-clause-each : goal.returns-clause-each
returns-clause-each c = magnitude_each c.args.word.now c.value_of_digits.result c.value_of_digits.ensures
