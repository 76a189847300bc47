-- A letter in both cases.
use Rattle.std.specs.Prelude.{◌≡◌, ℕ, ◌+◌, ◌<◌, Bool, false, ◌==◌, ◌&&◌, ◌||◌, List, slice_index}
use Rattle.std.specs.Int.{bit_at}

-- whether a byte is one of these two
abbrev pub is_either : ℕ × ℕ → ℕ → Bool
is_either cases byte = byte == cases.0 || byte == cases.1

-- whether a byte of the text is one of two, and another byte is one of two others
abbrev pub are_either : List ℕ → ℕ × ℕ → ℕ → ℕ × ℕ → ℕ → Bool
are_either text first first_at second second_at = is_either first (slice_index text first_at) && is_either second (slice_index text second_at)

-- of 64 pairs of such places, with the same distance, only those whose bit is set can have such bytes
abbrev pub MarkPairs : List ℕ → ℕ × ℕ → ℕ → ℕ × ℕ → ℕ → ℕ → Type 0
MarkPairs text first first_at second second_at marks =
    (k : ℕ) → k < 64 → bit_at marks k ≡ 0 → are_either text first (first_at + k) second (second_at + k) ≡ false
