use Rattle.std.proofs.Common.{arith}
use Rattle.macro_script.proofs.SpelledNumbers.{not_all_digits, value_below, one_digit_more}
use Rattle.macro_script.proofs.numbers.value_of_digits.Goals as goal

pub returns-then-not-is_ascii_digit : goal.returns-then-not-is_ascii_digit
returns-then-not-is_ascii_digit c = not_all_digits c.args.digits.now c.loop-digit.digit-index c.loop-digit-test.true (c.if-not-is_ascii_digit.ensures).cases

pub overflow_mul-value : goal.overflow_mul-value
overflow_mul-value c =
    let below = value_below c.args.digits.now c.loop-digit.digit-index c.requires c.loop-digit-test.true c.loop-digit.invariant.all in
    let is = c.loop-digit.invariant.is in
    omega arith

pub overflow_add-value : goal.overflow_add-value
overflow_add-value c =
    let below = value_below c.args.digits.now c.loop-digit.digit-index c.requires c.loop-digit-test.true c.loop-digit.invariant.all in
    let is = c.loop-digit.invariant.is in
    let range = (c.if-not-is_ascii_digit.ensures).cases in
    omega arith

pub loop-digit-preserved : goal.loop-digit-preserved
loop-digit-preserved c =
    let more = one_digit_more c.args.digits.now c.loop-digit.digit-index c.loop-digit.value c.from.result c.loop-digit-test.true (c.if-not-is_ascii_digit.ensures).cases c.from.ensures c.loop-digit.invariant.all c.loop-digit.invariant.is in
    record { all = more.0; is = more.1 }
