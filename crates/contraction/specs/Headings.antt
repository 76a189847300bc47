-- Headers among fold levels.
use Rattle.std.specs.Prelude.{◌≡◌, ℕ, nat_lt, ◌&&◌, Bool, false, List, find, reverse, slice_index, Option}
use Rattle.std.specs.List.{range_with_len, All}
use Rattle.ed_model.specs.Folding.{level_number, is_header_level}

-- whether a level is that of a header with a smaller number than this one
abbrev pub heads : ℕ → ℕ → Bool
heads number level = is_header_level level && nat_lt (level_number level) number

-- the place of the last one of the first n levels that is such a level
abbrev pub last_heading : ℕ → List ℕ → ℕ → Option ℕ
last_heading number levels n = find (λ k. heads number (slice_index levels k)) (reverse (range_with_len 0 n))

-- no level is that of a header with a smaller number than this one
abbrev pub HeadFrom : ℕ → List ℕ → Type 0
HeadFrom least levels = All (λ level. heads least level ≡ false) levels
