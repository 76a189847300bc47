-- Bytes of a pattern in both cases.
use Rattle.std.specs.Prelude.{◌≡◌, ℕ, ◌<◌, true, List, length, slice_index}
use Rattle.ed_model.specs.Matches.{folded}
use Rattle.target_search.specs.Cases.{is_either}
use Rattle.target_search.specs.declared.rare.RareByte.{RareByte}

-- the byte is one of the pattern's, and only its two cases are equal without case
pub record IsRareOf (rare : RareByte) (pattern : List ℕ) : Type 0 where
  pub within : rare.place < length pattern
  pub no_other : (flags other : ℕ) → folded flags other ≡ folded flags (slice_index pattern rare.place) → is_either rare.cases other ≡ true
