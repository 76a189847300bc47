use Rattle.macro_script.proofs.Names.{arith, sym, ap, ◌∙◌, Some, ◌≡◌, pos, negsuc, to_z, of_z, w64, suc, ◌-◌, ◌-ℤ◌, ints, spelled}
use Rattle.macro_script.proofs.SpelledNumbers.{negative_some}
use Rattle.macro_script.proofs.numbers.negative.Goals as goal

pub returns : goal.returns
returns c =
    let value = c.in_ok-value.value in
    let some : value ≡ suc (value - 1) = omega arith in
    let least : to_z w64 (of_z w64 (to_z w64 (of_z w64 (pos 0 -ℤ to_z w64 (value - 1))) -ℤ pos 1)) ≡ negsuc (value - 1) = omega (arith, ints) in
    ap Some least ∙ sym (negative_some c.args.digits.now (value - 1) (c.in_ok-value.ensures.only ∙ ap spelled some) (omega arith))
