-- What a clear bit tells of the place that it stands for.
use Rattle.std.proofs.Common.{◌≡◌, ℕ, Bool, true, false, cond, refl, arith}

-- if the bit is the answer of a test, a clear bit says that the test fails
pub clear_false : (b : Bool) (m : ℕ) → m ≡ cond b 1 0 → m ≡ 0 → b ≡ false
clear_false true m e z = absurd (omega arith)
clear_false false m e z = refl
