-- How steps move positions, by their place and length alone. [Scintilla: text modification; ties of movement: own]
use Rattle.std.specs.Prelude.{ℕ, ◌+◌, nat_le, if◌then◌else◌, length}
use Rattle.ed_model.specs.Steps.{Step, Insert, Delete, moved_back}
use Rattle.selection.specs.declared.movements.Movement.{Movement}
use Rattle.selection.specs.declared.movements.Movement.TheVariants.{Inserted, Deleted}
use Rattle.selection.specs.declared.selections.Selection.{Selection}

-- how many bytes are inserted or deleted
abbrev pub count_of : Movement → ℕ
count_of (Inserted p n) = n
count_of (Deleted p n) = n

-- an insertion moves what is behind its place; a deletion moves what is inside the deleted bytes to their start
abbrev pub moved_by : Movement → ℕ → ℕ
moved_by (Inserted p n) q = if nat_le q p then q else q + n
moved_by (Deleted p n) q = moved_back p n q

-- both ends of a selection move so
abbrev pub selection_moved_by : Movement → Selection → Selection
selection_moved_by m s = record { anchor = moved_by m s.anchor; caret = moved_by m s.caret }

-- the effect of a step on positions
abbrev pub movement_of : Step → Movement
movement_of (Insert p bytes) = Inserted p (length bytes)
movement_of (Delete p bytes) = Deleted p (length bytes)
