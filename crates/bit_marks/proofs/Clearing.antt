-- A word without one of its bits, and the bits above its highest one.
use Rattle.std.proofs.Common.{◌≡◌, ℕ, suc, ◌-◌, ◌*◌, ◌/◌, ◌%◌, ◌^◌, ◌<◌, ◌≤◌, sym, ap, ◌∙◌, arith, subst, bit_and, pow_pos, pow_mono, div-lt_iff_lt-mul, le-div_iff_mul-le}
use Rattle.std.specs.Int.{bit_at}
use Rattle.std.proofs.lemmas.Nat.{and-not, and_comm}
use Rattle.std.proofs.lemmas.Nat.Bits.{and_pow}
use Rattle.std.proofs.Math.Nat.{two-pow-succ, div-eq_of_lt}

-- the marks without one of their bits are fewer
pub cleared_smaller : (m k : ℕ) → m < 2 ^ 64 → k < 64 → bit_at m k ≡ 1 → bit_and m (2 ^ 64 - 1 - 1 * 2 ^ k % 2 ^ 64) < m
cleared_smaller m k fits l there =
    let small : 2 ^ k < 2 ^ 64 = omega (arith, two-pow-succ k, pow_pos k, pow_mono {i = suc k} {j = 64} (omega arith)) in
    let one : 1 * 2 ^ k % 2 ^ 64 ≡ 2 ^ k = omega arith in
    let parts = and-not 64 (2 ^ k) m small fits in
    let both : bit_and (2 ^ k) m ≡ 1 * 2 ^ k = and_comm _ _ ∙ and_pow m k ∙ ap (λ x. x * 2 ^ k) there in
    subst (λ x. bit_and m (2 ^ 64 - 1 - x) < m) (sym one) (omega (arith, and_comm m (2 ^ 64 - 1 - 2 ^ k), pow_pos k))

-- the highest bit that is set
pub top_set : (m k : ℕ) → 2 ^ k ≤ m → m < 2 * 2 ^ k → bit_at m k ≡ 1
top_set m k low high =
    let p = pow_pos k in
    let a : m / 2 ^ k < 2 = (div-lt_iff_lt-mul p).1 high in
    let b : 1 ≤ m / 2 ^ k = (le-div_iff_mul-le p).1 (omega arith) in
    omega arith

-- the bits above it
pub clear_above : (m j k : ℕ) → m < 2 * 2 ^ j → j < k → bit_at m k ≡ 0
clear_above m j k high l =
    let a : m < 2 ^ k = omega (arith, two-pow-succ j, pow_mono {i = suc j} {j = k} (omega arith)) in
    ap (λ x. x % 2) (div-eq_of_lt a)
