-- A number that is found in a range lies in this range.
use Rattle.std.proofs.Common.{◌≡◌, ℕ, zero, suc, ◌+◌, ◌<◌, ◌≤◌, Bool, true, false, cond, reverse, refl, arith}
use Rattle.std.specs.Prelude.{pos, Some, None, find, nat_le, ◌&&◌}
use Rattle.std.specs.List.{range_with_len, AllByRecursion}
use Rattle.std.proofs.lemmas.Bool.Decides.{nat_tests}
use Rattle.ed_model.specs.Numbers.{within}
use Rattle.ed_model.specs.proved.Elements.{found_all, all_reverse}

-- a number that is not in the range from 0 to `high` is above `high`
pub outside : (high n : ℕ) → within 0 high (pos n) ≡ None → high < n
outside high n e = go (nat_le 0 n && nat_le n high) refl e
  where
    go : (b : Bool) → (nat_le 0 n && nat_le n high) ≡ b → cond b (Some n) None ≡ None → high < n
    go true t e = absurd (cc)
    go false t e = grind (arith, nat_tests)

pub all_range : (from n top : ℕ) → (0 < n → from + n ≤ top) → AllByRecursion (λ k. k < top) (range_with_len from n)
all_range from zero top h = tt
all_range from (suc n) top h = let g = h (omega arith) in (omega (arith, g), all_range (from + 1) n top (λ _. omega (arith, g)))

pub found_in_range : (test : ℕ → Bool) (from n top k : ℕ) → (0 < n → from + n ≤ top) → find test (range_with_len from n) ≡ Some k → k < top
found_in_range test from n top k h e = found_all (λ k. k < top) test (range_with_len from n) k (all_range from n top h) e

pub found_back_in_range : (test : ℕ → Bool) (from n top k : ℕ) → (0 < n → from + n ≤ top) → find test (reverse (range_with_len from n)) ≡ Some k → k < top
found_back_in_range test from n top k h e =
    found_all (λ k. k < top) test (reverse (range_with_len from n)) k (all_reverse (λ k. k < top) (range_with_len from n) (all_range from n top h)) e
