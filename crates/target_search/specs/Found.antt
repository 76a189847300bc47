-- The results of the parts of a search.
use Rattle.std.specs.Prelude.{◌≡◌, ℕ, ◌+◌, ◌<◌, ◌≤◌, ◌==◌, not, ◌&&◌, ◌||◌, Bool, true, false, List, length, map, slice_range, slice_index, Option, MatchOption}
use Rattle.std.specs.List.{starts_with}
use Rattle.ed_model.specs.Numbers.{meets}
use Rattle.ed_model.specs.Matches.{folded, whole_word, word_start, word_before, word_after}

-- whether the bytes from the place on are those of the pattern
abbrev pub stands_at : ℕ → List ℕ → List ℕ → ℕ → Bool
stands_at flags text pattern place = starts_with ◌==◌ (map (folded flags) (slice_range text place (place + length pattern))) (map (folded flags) pattern)

-- whether the flags allow the bytes around what lies from one place to another
abbrev pub words_pass : ℕ → List ℕ → ℕ → ℕ → Bool
words_pass flags text place end =
    not ((meets flags whole_word || meets flags word_start) && word_before text place) && not (meets flags whole_word && word_after text end)

-- these bytes stand in the text from `offset` on
pub record IsPart (text part : List ℕ) (offset : ℕ) : Type 0 where
  pub within : offset + length part ≤ length text
  pub reads : (k : ℕ) → k < length part → slice_index part k ≡ slice_index text (offset + k)

-- no place from one up to another passes
abbrev pub NonePasses : (ℕ → Bool) → ℕ → ℕ → Type 0
NonePasses test from to = (k : ℕ) → from ≤ k → k < to → test k ≡ false

-- the place is the first from one up to another that passes
pub record IsFirstOf (test : ℕ → Bool) (from to place : ℕ) : Type 0 where
  pub low : from ≤ place
  pub high : place < to
  pub passes : test place ≡ true
  pub before : NonePasses test from place

-- the place is the last from one up to another that passes
pub record IsLastOf (test : ℕ → Bool) (from to place : ℕ) : Type 0 where
  pub low : from ≤ place
  pub high : place < to
  pub passes : test place ≡ true
  pub behind : NonePasses test (place + 1) to

abbrev pub FindsFirst : (ℕ → Bool) → ℕ → ℕ → Option ℕ → Type 0
FindsFirst test from to found = MatchOption found (NonePasses test from to) (IsFirstOf test from to)

abbrev pub FindsLast : (ℕ → Bool) → ℕ → ℕ → Option ℕ → Type 0
FindsLast test from to found = MatchOption found (NonePasses test from to) (IsLastOf test from to)
