-- What a contract says of the bits of a word of marks.
use Rattle.std.specs.Prelude.{◌≡◌, ◌≢◌, ℕ, ◌<◌}
use Rattle.std.specs.Int.{bit_at}

-- no bit below this one is set
abbrev pub NoneBelow : ℕ → ℕ → Type 0
NoneBelow marks bit = (k : ℕ) → k < bit → bit_at marks k ≡ 0

-- no bit above this one is set
abbrev pub NoneAbove : ℕ → ℕ → Type 0
NoneAbove marks bit = (k : ℕ) → bit < k → bit_at marks k ≡ 0

-- all other bits of 64 are the same
abbrev pub SameBitsBut : ℕ → ℕ → ℕ → Type 0
SameBitsBut bit old new = (k : ℕ) → k < 64 → k ≢ bit → bit_at new k ≡ bit_at old k
