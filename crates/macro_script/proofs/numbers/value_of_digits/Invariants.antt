use Rattle.macro_script.proofs.Names.{◌≡◌, take, AllDigits, digits_value}
use Rattle.macro_script.proofs.numbers.value_of_digits.Given as goal

-- The bytes so far are digits, and this is their value.
abbrev pub invariant-loop-digit : goal.invariant-loop-digit
invariant-loop-digit l = record { all : AllDigits 10 (take l.digit-index l.digits); is : l.value ≡ digits_value 10 (take l.digit-index l.digits) }
