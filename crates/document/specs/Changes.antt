-- Changes of a document that are no steps of its text: their needs, and their results.
use Rattle.std.specs.Prelude.{◌≡◌, ℕ, ℤ, ◌+◌, ◌++◌, ◌==◌, if◌then◌else◌, not, max, Bool, true, false, List, [], ◌∷◌, length, Option, Some, None}
use Rattle.ed_model.specs.declared.plan.DocumentChange.{DocumentChange}
use Rattle.ed_model.specs.declared.plan.DocumentChange.TheVariants.{SetLevel, SetState}
use Rattle.ed_model.specs.declared.plan.LineEndTypes.{LineEndTypes}
use Rattle.ed_model.specs.History.{History, emptied, collecting_set}
use Rattle.ed_model.specs.Indicators.{changed_range}
use Rattle.ed_model.specs.LinePlans.{numbers_in}
use Rattle.ed_model.specs.Rows.{Row}
use Rattle.ed_model.specs.Changes.{changed_document, marker_count, line_with_handle, with_markers, new_markers}
use Rattle.ed_model.specs.Session.{Document, keeps_no_styles, text_of}
use Rattle.ed_model.specs.Text.{styles_of}
use Rattle.line_index.specs.declared.edit.LineEdit.{LineEdit}
use Rattle.line_index.specs.Settings.{edits_of_setting}
use Rattle.line_rows.specs.Kept.{KeptRows, row_at}
use Rattle.line_rows.specs.Values.{stored_after}
use Rattle.undo_history.specs.Kept.{history_capacity}
use Rattle.document.specs.declared.need.DocumentNeed.{DocumentNeed}
use Rattle.document.specs.Kept.{Kept, Stored, document_need}

-- the document with this history
abbrev pub with_history : History → Kept → Kept
with_history history k = record k { document = record k.document { history = history } }

-- the document after the change, which reads this text of the message
abbrev pub after_change : List ℕ → DocumentChange → Kept → Kept
after_change text what k = record k { document = changed_document text what k.document }

-- the document once its history is forgotten, or once the collection of steps is turned off: the history holds no memory

abbrev pub without_history_memory : Kept → Kept
without_history_memory k = record k { capacity = record k.capacity { history = history_capacity 0 0 } }

abbrev pub with_forgotten_history : Kept → Kept
with_forgotten_history k = with_history (emptied k.document.history) (without_history_memory k)

abbrev pub with_collecting : Bool → Kept → Kept
with_collecting on k = with_history (collecting_set on k.document.history) (if on then k else without_history_memory k)

-- the document with so many references that callers hold
abbrev pub with_held_by_callers : ℕ → Kept → Kept
with_held_by_callers count k = record k { document = record k.document { held_by_callers = count } }

-- the document with the view attached behind the others
abbrev pub with_attached_view : ℕ → Kept → Kept
with_attached_view view k = record k { document = record k.document { views = k.document.views ++ view ∷ [] } }

-- The level of a line is set, or its state: those of the lines up to it are stored then.

abbrev pub with_level : ℕ → ℕ → Kept → Kept
with_level line level k = record (after_change [] (SetLevel line level) k) { stored = record k.stored { levels = max k.stored.levels (line + 1) } }

abbrev pub with_state : ℕ → ℤ → Kept → Kept
with_state line state k = record (after_change [] (SetState line state) k) { stored = record k.stored { states = max k.stored.states (line + 1) } }

-- the smallest range with all bytes whose styles changed
abbrev pub changed_styles : Kept → Kept → Option (ℕ × ℕ)
changed_styles old new = changed_range (styles_of old.document.cells) (styles_of new.document.cells)

-- the edits of the document's lines when these line ends count
abbrev pub line_type_edits : LineEndTypes → Document → List LineEdit
line_type_edits types d = edits_of_setting d.line_end_types types (text_of d)

-- what is stored after edits of the lines: the levels and the states of fewer lines where lines were joined, and of more where some came between
abbrev pub stored_by : List LineEdit → Stored → Stored
stored_by edits s = record s { levels = stored_after edits s.levels; states = stored_after edits s.states }

-- whether there are more markers, or fewer
abbrev pub markers_changed : List Row → List Row → Bool
markers_changed old new = not (marker_count old == marker_count new)

-- the line that the markers with the handle left, if there were some
abbrev pub line_it_left : ℕ → List Row → List Row → Option ℕ
line_it_left handle old new = if marker_count old == marker_count new then None else Some (line_with_handle handle 0 old)

-- cells can be styled: their styles are stored, or the document keeps none
abbrev pub CanStyle : Kept → Type 0
CanStyle k = keeps_no_styles k.document ≡ false → k.stored.styles ≡ true

-- what a container's step needs, which has no bytes
abbrev pub container_need : DocumentNeed
container_need = document_need 0 0 0 1 0

-- the numbers of a mask, as one name that is not computed
unfoldable pub numbers_of : ℕ → List ℕ
numbers_of mask = numbers_in mask

-- rows with markers of these numbers behind those of the line
abbrev pub with_more_markers : ℕ → List ℕ → KeptRows → KeptRows
with_more_markers line numbers rows = record rows {
  rows = with_markers line ((row_at rows.rows line).markers ++ new_markers rows.next_handle numbers) rows.rows;
  next_handle = rows.next_handle + length numbers;
}
