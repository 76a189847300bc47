-- A set of lines of a text: their numbers, in rising order, and how many lines the text has.
use Rattle.std.specs.Prelude.{◌≡◌, ℕ, ◌+◌, ◌-◌, ◌<◌, ◌≤◌, ◌==◌, ◌||◌, not, nat_lt, if◌then◌else◌, Bool, true, false, List, [], ◌∷◌, length, slice_index, filter}
use Rattle.std.specs.List.{range_with_len}
use Rattle.std.specs.List.Sorted.{IsStrictlyIncreasing}
use Rattle.ed_model.specs.Folding.{is_between}
use Rattle.rising_numbers.specs.Numbers.{Numbers}

-- whether the line is in the set
abbrev pub holds : List ℕ → ℕ → Bool
holds [] line = false
holds (l ∷ ls) line = l == line || holds ls line

-- each line is below the next, and the text has them all
pub record AreLines (lines : List ℕ) (count : ℕ) : Type 0 where
  pub rising : IsStrictlyIncreasing lines
  pub within : (line : ℕ) → holds lines line ≡ true → line < count

-- the first i lines of the set lie before the line, and the others do not
pub record AreBefore (lines : List ℕ) (line i : ℕ) : Type 0 where
  pub some : i ≤ length lines
  pub before : (k : ℕ) → k < i → slice_index lines k < line
  pub behind : (k : ℕ) → i ≤ k → k < length lines → line ≤ slice_index lines k

-- a set has become one of so many lines, of which those are in it that pass a test; its capacity stays
pub record Becomes (count : ℕ) (test : ℕ → Bool) (old new : Numbers) : Type 0 where
  pub told : (k : ℕ) → holds new.numbers k ≡ test k
  pub lines : new.length ≡ count
  pub capacity : new.capacity ≡ old.capacity

-- whether the line is in the set after `count` lines outside it were inserted before `line`
abbrev pub holds_with_fresh : List ℕ → ℕ → ℕ → ℕ → Bool
holds_with_fresh lines line count k =
    if nat_lt k line then holds lines k else (if nat_lt k (line + count) then false else holds lines (k - count))

-- whether the line is in the set after `count` lines from `line` on were deleted
abbrev pub holds_without : List ℕ → ℕ → ℕ → ℕ → Bool
holds_without lines line count k = if nat_lt k line then holds lines k else holds lines (k + count)

-- whether the line is in the set after the lines from `first` up to `past` were added to it, or removed from it
abbrev pub holds_after : Bool → List ℕ → ℕ → ℕ → ℕ → Bool
holds_after added lines first past k = if is_between first past k then added else holds lines k

-- of so many lines, those that are not in the set
abbrev pub lines_outside : List ℕ → ℕ → List ℕ
lines_outside lines count = filter (λ line. not (holds lines line)) (range_with_len 0 count)
