-- The lines of folds: the first one behind a line, and the last one before it, that passes a test.
use Rattle.contraction.proofs.Names.{◌≡◌, ℕ, suc, ◌+◌, ◌-◌, ◌<◌, Bool, true, false, reverse, Option, Some, refl, ap, ◌∙◌, arith, find, range_with_len}
use Rattle.ed_model.specs.proved.Rising.{reverse_next}

-- the first number from one on, up to another, that passes
abbrev pub first_from : (ℕ → Bool) → ℕ → ℕ → Option ℕ
first_from test n a = find test (range_with_len a (n - a))

pub first_later : (test : ℕ → Bool) (n a : ℕ) → a < n → test a ≡ false → first_from test n a ≡ first_from test n (a + 1)
first_later test n a l t = let e : n - a ≡ suc (n - (a + 1)) = omega arith in rw (e, t) refl

-- the last number before one that passes
abbrev pub last_before : (ℕ → Bool) → ℕ → Option ℕ
last_before test a = find test (reverse (range_with_len 0 a))

pub last_here : (test : ℕ → Bool) (a m : ℕ) → m + 1 ≡ a → test m ≡ true → last_before test a ≡ Some m
last_here test a m e t = let next : suc m ≡ a = omega arith in rw (← next) (ap (find test) (reverse_next m) ∙ rw t refl)

pub last_earlier : (test : ℕ → Bool) (a m : ℕ) → m + 1 ≡ a → test m ≡ false → last_before test a ≡ last_before test m
last_earlier test a m e t = let next : suc m ≡ a = omega arith in rw (← next) (ap (find test) (reverse_next m) ∙ rw t refl)
