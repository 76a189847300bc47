-- A view follows a step by its place, its length and its effect on the lines. It does not read the text.
use Rattle.std.specs.Prelude.{◌≡◌, ℕ, ◌≤◌, List, length}
use Rattle.ed_model.specs.Steps.{Step}
use Rattle.ed_model.specs.Rows.{flags_together}
use Rattle.ed_model.specs.Session.{Document, View, text_of, lines_in, attached_to}
use Rattle.ed_model.specs.Performing.{moved_view}
use Rattle.ed_model.specs.MergeLaws.{end_of}
use Rattle.line_index.specs.declared.edit.LineEdit.{LineEdit}
use Rattle.line_index.specs.Edits.{after_edits, FitLines}
use Rattle.line_index.specs.StepEdits.{edits_of, change_of}
use Rattle.selection.specs.declared.movements.Movement.{Movement}
use Rattle.selection.specs.Positions.{moved_by, movement_of}

abbrev pub with_edited_lines : List LineEdit → View → View
with_edited_lines edits v = record v { flags = after_edits flags_together edits v.flags }

abbrev pub view_moved : Movement → List LineEdit → View → View
view_moved movement edits v = record v {
  anchor = moved_by movement v.anchor;
  caret = moved_by movement v.caret;
  target_start = moved_by movement v.target_start;
  target_end = moved_by movement v.target_end;
  flags = after_edits flags_together edits v.flags;
}

-- the new view is the model's once it is attached to any document with this id and so many lines
abbrev pub IsAttached : (document lines : ℕ) → View → View → Type 0
IsAttached document lines old new = (d : Document) → d.id ≡ document → lines_in d ≡ lines → new ≡ attached_to d old

-- the effect of a step on the lines of the document
abbrev pub step_edits : Step → Document → List LineEdit
step_edits step d = edits_of (change_of d.line_end_types step (text_of d))

-- a view of a document follows a step of it like the model's view
abbrev pub MovesAreThoseOfSteps : Type 0
MovesAreThoseOfSteps =
    (step : Step) (d : Document) (v : View) → end_of step ≤ length (text_of d) → length v.flags ≡ lines_in d
    → view_moved (movement_of step) (step_edits step d) v ≡ moved_view step d v

-- the lines that the step names are lines of the view
abbrev pub StepsFitViews : Type 0
StepsFitViews =
    (step : Step) (d : Document) (v : View) → end_of step ≤ length (text_of d) → length v.flags ≡ lines_in d
    → FitLines (length v.flags) (step_edits step d)
