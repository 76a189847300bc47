-- Edits of lines, and their effect on a list with an item for each line.
use Rattle.std.specs.Prelude.{ℕ, ◌+◌, ◌-◌, ◌<◌, ◌≤◌, List, [], ◌∷◌, ◌++◌, take, drop, replicate, slice_range, fold}
use Rattle.line_index.specs.declared.edit.LineEdit.{LineEdit}
use Rattle.line_index.specs.declared.edit.LineEdit.TheVariants.{Come, Join, Restart}

-- `count` fresh items inserted before the line's
abbrev pub with_fresh : {R : Type 0} → (List R → R) → ℕ → ℕ → List R → List R
with_fresh together line count rows = take line rows ++ (replicate count (together []) ++ drop line rows)

-- the items of the `count` lines behind the line joined to its own
abbrev pub with_joined : {R : Type 0} → (List R → R) → ℕ → ℕ → List R → List R
with_joined together line count rows =
    take line rows ++ (together (slice_range rows line (line + (count + 1))) ∷ drop (line + (count + 1)) rows)

abbrev pub after_edit : {R : Type 0} → (List R → R) → List R → LineEdit → List R
after_edit together rows (Come line count) = with_fresh together line count rows
after_edit together rows (Join line count) = with_joined together line count rows
after_edit together rows Restart = together [] ∷ []

-- the items after all edits, made one after the other
abbrev pub after_edits : {R : Type 0} → (List R → R) → List LineEdit → List R → List R
after_edits together edits rows = fold (after_edit together) rows edits

-- how many lines there are afterwards
abbrev pub lines_after_edit : ℕ → LineEdit → ℕ
lines_after_edit lines (Come line count) = lines + count
lines_after_edit lines (Join line count) = lines - count
lines_after_edit lines Restart = 1

-- the edit names lines that exist
abbrev pub FitsLines : ℕ → LineEdit → Type 0
FitsLines lines (Come line count) = line ≤ lines
FitsLines lines (Join line count) = line + count < lines
FitsLines lines Restart = Unit {0}

-- each of several edits does so, after those before it
abbrev pub FitLines : ℕ → List LineEdit → Type 0
FitLines lines [] = Unit {0}
FitLines lines (edit ∷ edits) = FitsLines lines edit × FitLines (lines_after_edit lines edit) edits

-- how many fresh lines an edit inserts
abbrev pub fresh_by : LineEdit → ℕ
fresh_by (Come line count) = count
fresh_by (Join line count) = 0
fresh_by Restart = 1

abbrev pub fresh_lines : List LineEdit → ℕ
fresh_lines [] = 0
fresh_lines (edit ∷ edits) = fresh_by edit + fresh_lines edits
