-- How many lines a step adds at most. It requires room for them.
use Rattle.std.specs.Prelude.{ℕ, ◌+◌, ◌≤◌, List, ◌++◌, length, take, drop}
use Rattle.ed_model.specs.declared.plan.LineEndTypes.{LineEndTypes}
use Rattle.ed_model.specs.Lines.{line_count}
use Rattle.ed_model.specs.Steps.{Step, Insert, Delete, edited}

-- An insertion: as many lines as the bytes have on their own and one. A line end of Unicode may form on either side of
-- them, and their first line is the rest of one that is there. If they split a CR LF, that is one line end more, but then
-- none of Unicode forms.
abbrev pub lines_for_insertion : LineEndTypes → List ℕ → ℕ
lines_for_insertion types bytes = line_count types bytes + 1

-- a deletion: one, since a line end of Unicode may form of the bytes that it brings together
abbrev pub lines_for_deletion : ℕ
lines_for_deletion = 1

abbrev pub lines_for_step : LineEndTypes → Step → ℕ
lines_for_step types (Insert place bytes) = lines_for_insertion types bytes
lines_for_step types (Delete place bytes) = lines_for_deletion

-- steps add no more lines than that
abbrev pub InsertionAddsFewLines : Type 0
InsertionAddsFewLines =
    (types : LineEndTypes) (place : ℕ) (bytes text : List ℕ) → place ≤ length text
    → line_count types (edited (Insert place bytes) text) ≤ line_count types text + lines_for_insertion types bytes

abbrev pub DeletionAddsFewLines : Type 0
DeletionAddsFewLines =
    (types : LineEndTypes) (place count : ℕ) (text : List ℕ) → place + count ≤ length text
    → line_count types (take place text ++ drop (place + count) text) ≤ line_count types text + lines_for_deletion

-- the first bytes of a text have no more lines than all of it
abbrev pub FirstBytesHaveFewLines : Type 0
FirstBytesHaveFewLines = (types : LineEndTypes) (bytes : List ℕ) (count : ℕ) → count ≤ length bytes → line_count types (take count bytes) ≤ line_count types bytes
