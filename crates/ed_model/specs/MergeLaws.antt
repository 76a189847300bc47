-- Carry as a walk: one pass over the old lines and the new ones.
use Rattle.std.specs.Prelude.{ℕ, ◌≡◌, ◌+◌, ◌-◌, ◌<◌, nat_lt, List, [], ◌∷◌, ◌++◌, length, map, take, drop, All, fold}
use Rattle.std.specs.List.{prefix_len}
use Rattle.std.specs.List.Sorted.{IsNonDecreasing, IsStrictlyIncreasing}
use Rattle.ed_model.specs.Steps.{Step, Insert, Delete, place_of}
use Rattle.ed_model.specs.Carry.{carried}
use Rattle.ed_model.specs.NeighbourLaws.{count_before}

-- the number of old lines, from the first on, whose moved starts are before `place`
abbrev pub lines_before : (ℕ → ℕ) → ℕ → List ℕ → ℕ
lines_before moved place old = prefix_len (λ start. nat_lt (moved start) place) old

-- each new line takes the next old rows whose moved starts are before the start of the next new line; the last line takes the rest
abbrev pub merged : {R : Type 0} → (List R → R) → (ℕ → ℕ) → List ℕ → List ℕ → List R → List R
merged together moved old [] rows = []
merged together moved old (start ∷ []) rows = together rows ∷ []
merged together moved old (start ∷ next ∷ new) rows =
    together (take (lines_before moved next old) rows)
    ∷ merged together moved (drop (lines_before moved next old) old) (next ∷ new) (drop (lines_before moved next old) rows)

-- What the laws require of `together`: one row alone stays as it is, and rows that meet can be joined one at a time, from the first on.
pub record JoinsRows {R : Type 0} (together : List R → R) : Type 0 where
  pub alone : (row : R) → together (row ∷ []) ≡ row
  pub one_by_one : (first second : R) (rows : List R) → together (first ∷ second ∷ rows) ≡ together (together (first ∷ second ∷ []) ∷ rows)

-- rows that meet give what joining them two at a time gives, from the first on
abbrev pub RowsJoinPairwise : Type 0 → Type 0
RowsJoinPairwise R =
    (together : List R → R) → JoinsRows together → (row : R) (rows : List R)
    → together (row ∷ rows) ≡ fold (λ first second. together (first ∷ second ∷ [])) row rows

-- if each line keeps its start, the rows stay as they are
abbrev pub RowsOfLinesThatStay : Type 0 → Type 0
RowsOfLinesThatStay R =
    (together : List R → R) → JoinsRows together → (moved : ℕ → ℕ) (old : List ℕ) (rows : List R)
    → IsStrictlyIncreasing (map moved old) → length old ≡ length rows
    → carried together moved old (map moved old) rows ≡ rows

-- a new line gets a fresh row, between the rows of its neighbours
abbrev pub OneLineComes : Type 0 → Type 0
OneLineComes R =
    (together : List R → R) → JoinsRows together → (moved : ℕ → ℕ) (old : List ℕ) (start : ℕ) (later : List ℕ) (rows rest : List R)
    → IsStrictlyIncreasing (map moved old ++ (start ∷ map moved later)) → length old ≡ length rows → length later ≡ length rest
    → carried together moved (old ++ later) (map moved old ++ (start ∷ map moved later)) (rows ++ rest) ≡ rows ++ (together [] ∷ rest)

-- if a line is joined to the one before it, their rows are joined
abbrev pub OneLineGoes : Type 0 → Type 0
OneLineGoes R =
    (together : List R → R) → JoinsRows together → (moved : ℕ → ℕ) (old : List ℕ) (kept gone : ℕ) (later : List ℕ) (rows : List R) (first second : R) (rest : List R)
    → IsStrictlyIncreasing (map moved old ++ (moved kept ∷ map moved later)) → IsNonDecreasing (map moved (old ++ (kept ∷ gone ∷ later)))
    → All (λ start. moved gone < moved start) later → length old ≡ length rows → length later ≡ length rest
    → carried together moved (old ++ (kept ∷ gone ∷ later)) (map moved old ++ (moved kept ∷ map moved later)) (rows ++ (first ∷ second ∷ rest))
    ≡ rows ++ (together (first ∷ second ∷ []) ∷ rest)

-- the end of the range that a step deletes, and the bytes that it inserts
abbrev pub end_of : Step → ℕ
end_of (Insert p bytes) = p
end_of (Delete p bytes) = p + length bytes

abbrev pub put_in : Step → List ℕ
put_in (Insert p bytes) = bytes
put_in (Delete p bytes) = []

-- the line of the byte before a step, the first line whose row may change
abbrev pub first_line_about : Step → List ℕ → ℕ
first_line_about step starts = count_before (place_of step) starts - 1

-- the first line that starts at least three bytes after the step; from it on rows stay
abbrev pub first_line_behind : Step → List ℕ → ℕ
first_line_behind step starts = count_before (end_of step + 3) starts
