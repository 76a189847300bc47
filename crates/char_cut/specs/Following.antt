-- What must follow the first byte of a character.
use Rattle.std.specs.Prelude.{ℕ, zero, suc, ◌+◌, ◌==◌, nat_lt, ◌||◌, Bool, false, List, [], ◌∷◌, replicate, slice_get, if◌then◌else◌, Option, Some, None}
use Rattle.ed_model.specs.Characters.{sequences}
use Rattle.ed_model.specs.Matches.{is_from_to}
use Rattle.char_cut.specs.declared.sequences.Following.{Following}

-- of the first row whose first range has the byte: the ranges behind that one
abbrev pub following_among : ℕ → List (List (ℕ × ℕ)) → List (ℕ × ℕ)
following_among b [] = []
following_among b ([] ∷ rows) = following_among b rows
following_among b ((r ∷ rs) ∷ rows) = if is_from_to r.0 r.1 b then rs else following_among b rows

abbrev pub following_of : ℕ → List (ℕ × ℕ)
following_of b = following_among b sequences

abbrev pub so_many : ℕ → ℕ × ℕ → List (ℕ × ℕ)
so_many zero first = []
so_many (suc n) first = first ∷ replicate n (0x80, 0xBF)

abbrev pub ranges : Following → List (ℕ × ℕ)
ranges f = so_many f.count (f.least, f.greatest)

abbrev pub is_some_from_to : ℕ → ℕ → Option ℕ → Bool
is_some_from_to low high None = false
is_some_from_to low high (Some b) = is_from_to low high b

-- whether the byte that must stand so many bytes behind the place stands there; true if none must
abbrev pub follows_at : ℕ → ℕ → ℕ → List ℕ → ℕ → ℕ → Bool
follows_at count least greatest text place behind =
    nat_lt count behind
    || (if behind == 1 then is_some_from_to least greatest (slice_get text (place + behind)) else is_some_from_to 0x80 0xBF (slice_get text (place + behind)))
