-- How many bits of a mask are set, and how many numbers it has.
use Rattle.document.proofs.Names.{◌≡◌, ℕ, zero, suc, ◌+◌, ◌<◌, ◌/◌, ◌^◌, ◌==◌, Bool, true, false, cond, List, ◌∷◌, length, refl, ap, ◌∙◌, arith, filter, count_ones, range_with_len, has_bit, numbers_in}
use Rattle.std.specs.Int.{bit_at}
use Rattle.std.proofs.lemmas.Nat.{ones_le_self}
use Rattle.std.proofs.lemmas.Nat.Bits.{bit_at-suc, bit_at-lt, bit_at_lowest}
use lib.Count.{ones_step}

counted : (s t : Bool) (x y : ℕ) (xs ys : List ℕ) → s ≡ t → length xs ≡ length ys → length (cond s (x ∷ xs) xs) ≡ length (cond t (y ∷ ys) ys)
counted true true x y xs ys e h = ap suc h
counted false false x y xs ys e h = h
counted true false x y xs ys e h = absurd (cc)
counted false true x y xs ys e h = absurd (cc)

-- the numbers of a mask above 0 are those of its half, each raised by one
halved : (mask k j n : ℕ) → j ≡ suc k → length (filter (has_bit mask) (range_with_len j n)) ≡ length (filter (has_bit (mask / 2)) (range_with_len k n))
halved mask k j zero e = refl
halved mask k j (suc n) e =
    let bit : has_bit mask j ≡ has_bit (mask / 2) k = ap (λ b. b == 1) (ap (bit_at mask) e ∙ bit_at-suc mask k) in
    counted (has_bit mask j) (has_bit (mask / 2) k) j k (filter (has_bit mask) (range_with_len (j + 1) n)) (filter (has_bit (mask / 2)) (range_with_len (k + 1) n)) bit
    (halved mask (k + 1) (j + 1) n (omega (arith, e)))

first : (b : ℕ) (xs : List ℕ) → b < 2 → length (cond (b == 1) (0 ∷ xs) xs) ≡ b + length xs
first zero xs h = omega arith
first (suc zero) xs h = omega arith
first (suc (suc b)) xs h = absurd (omega arith)

ones_below : (k mask : ℕ) → mask < 2 ^ k → count_ones mask ≡ length (filter (has_bit mask) (range_with_len 0 k))
ones_below zero mask h = omega (arith, ones_le_self mask)
ones_below (suc k) mask h =
    let rest = filter (has_bit mask) (range_with_len 1 k) in
    let half = ones_below k (mask / 2) (omega arith) in
    let others = halved mask 0 1 k refl in
    let lowest = first (bit_at mask 0) rest (bit_at-lt mask 0) in
    let step = ones_step mask in
    let bit = bit_at_lowest mask in
    omega arith

pub ones_are_numbers : (mask : ℕ) → mask < 2 ^ 32 → count_ones mask ≡ length (numbers_in mask)
ones_are_numbers mask h = ones_below 32 mask h
