-- Changes of a document that are no edit of its text, changes of a view, and changes of the session. [Scintilla: markers,
-- styling, indicators, folding, document pointers]
use Rattle.std.specs.Prelude.{ℕ, ◌+◌, ◌-◌, ◌==◌, min, not, if◌then◌else◌, Bool, true, ℤ, pos, negsuc, List, [], ◌∷◌, ◌++◌, length, map, filter, take, drop, replicate, slice_range, slice_set, slice_index_or, Option, Some, None, sum_by, bit_or}
use Rattle.ed_types.specs.Notices.{Notice, Response}
use Rattle.ed_model.specs.declared.plan.DocumentChange.{DocumentChange}
use Rattle.ed_model.specs.declared.plan.DocumentChange.TheVariants as change
use Rattle.ed_model.specs.declared.plan.ViewChange.{ViewChange}
use Rattle.ed_model.specs.declared.plan.ViewChange.TheVariants as view_change
use Rattle.ed_model.specs.declared.plan.SessionChange.{SessionChange}
use Rattle.ed_model.specs.declared.plan.SessionChange.TheVariants as session_change
use Rattle.ed_model.specs.Numbers.{is_same}
use Rattle.ed_model.specs.Text.{Cell, styles_of}
use Rattle.ed_model.specs.Lines.{start_of_line}
use Rattle.ed_model.specs.Carry.{regrouped}
use Rattle.ed_model.specs.Rows.{Marker, Row, fresh_row, rows_together, flags_together}
use Rattle.ed_model.specs.Indicators.{filled, changed_range}
use Rattle.ed_model.specs.History.{group_begun, group_ended, emptied, collecting_set, saved, with_container_step}
use Rattle.ed_model.specs.Folding.{lines_shown, lines_hidden, with_expanded, contracted, expanded, revealed}
use Rattle.ed_model.specs.Session.{Session, View, Document, text_of, with_view, with_document, watching, keeps_no_styles, attached_to, new_document, living, left_by, document_at}
use Rattle.ed_model.specs.Notes as notes
use Rattle.ed_model.specs.LinePlans.{numbers_in}
use Rattle.ed_model.specs.FoldingPlans.{levels_of}
use Rattle.ed_model.specs.Performing.{leaving}

-- Markers.

abbrev pub with_markers : ℕ → List Marker → List Row → List Row
with_markers line markers rows = let row = slice_index_or rows line fresh_row in slice_set rows line (record row { markers = markers })

-- markers with these numbers, whose handles count from `handle` on
abbrev pub new_markers : ℕ → List ℕ → List Marker
new_markers handle [] = []
new_markers handle (n ∷ ns) = record { handle = handle; number = n } ∷ new_markers (handle + 1) ns

abbrev pub with_new_markers : ℕ → List ℕ → Document → Document
with_new_markers line numbers d =
    let old = (slice_index_or d.rows line fresh_row).markers in
    record d { rows = with_markers line (old ++ new_markers d.next_handle numbers) d.rows; next_handle = d.next_handle + length numbers }

abbrev pub without_first : ℕ → List Marker → List Marker
without_first number [] = []
without_first number (m ∷ ms) = if m.number == number then ms else m ∷ without_first number ms

-- the markers without the first copy of the number; None removes all
abbrev pub without_marker : Option ℕ → List Marker → List Marker
without_marker None markers = []
without_marker (Some number) markers = without_first number markers

abbrev pub is_of_number : Option ℕ → Marker → Bool
is_of_number None m = true
is_of_number (Some number) m = m.number == number

abbrev pub without_markers : (Marker → Bool) → List Row → List Row
without_markers drops rows = map (λ (row : Row). record row { markers = filter (λ m. not (drops m)) row.markers }) rows

abbrev pub marker_count : List Row → ℕ
marker_count rows = sum_by (λ (row : Row). length row.markers) rows

-- Styles.

abbrev pub restyled : List ℕ → List Cell → List Cell
restyled [] cells = cells
restyled (s ∷ ss) [] = []
restyled (s ∷ ss) (c ∷ cells) = record c { style = s } ∷ restyled ss cells

-- the document after styling from end styled on, which moves end styled to the end of the styled bytes; a document that keeps no
-- styles only moves end styled
abbrev pub styled : List ℕ → Document → Document
styled new d =
    let cells = if keeps_no_styles d then d.cells else take d.end_styled d.cells ++ restyled new (drop d.end_styled d.cells) in
    record d { cells = cells; end_styled = d.end_styled + length new }

-- The document after a change; `bytes` is the message's text.
abbrev pub changed_document : List ℕ → DocumentChange → Document → Document
changed_document bytes (change.SetReadOnly on) d = record d { read_only = on }
changed_document bytes (change.SetLineEnd to) d = record d { line_end = to }
changed_document bytes (change.SetLineEndTypes to) d =
    record d { line_end_types = to; rows = regrouped rows_together d.line_end_types to (text_of d) d.rows }
changed_document bytes change.SetSavePoint d = record d { history = saved d.history }
changed_document bytes change.BeginGroup d = record d { history = group_begun d.history }
changed_document bytes change.EndGroup d = record d { history = group_ended d.history }
changed_document bytes change.ForgetHistory d = record d { history = emptied d.history }
changed_document bytes (change.CollectUndo on) d = record d { history = collecting_set on d.history }
changed_document bytes (change.AppendContainer token coalesce) d = record d { history = with_container_step token coalesce d.history }
changed_document bytes (change.AddMarker line number) d = with_new_markers line (number ∷ []) d
changed_document bytes (change.AddMarkers line mask) d = with_new_markers line (numbers_in mask) d
changed_document bytes (change.DeleteMarker line number) d =
    record d { rows = with_markers line (without_marker number (slice_index_or d.rows line fresh_row).markers) d.rows }
changed_document bytes (change.DeleteMarkers number) d = record d { rows = without_markers (is_of_number number) d.rows }
changed_document bytes (change.DeleteHandle handle) d = record d { rows = without_markers (λ m. m.handle == handle) d.rows }
changed_document bytes (change.SetLevel line level) d =
    let row = slice_index_or d.rows line fresh_row in record d { rows = slice_set d.rows line (record row { level = level }) }
changed_document bytes (change.SetState line state) d =
    let row = slice_index_or d.rows line fresh_row in record d { rows = slice_set d.rows line (record row { state = state }) }
changed_document bytes (change.SetEndStyled place) d = record d { end_styled = place }
changed_document bytes (change.StyleRun count style) d = styled (replicate count style) d
changed_document bytes (change.StyleBytes count) d = styled (take count bytes) d
changed_document bytes (change.NeedStyle start past) d = record d { end_styled = min d.end_styled start }
changed_document bytes (change.FillIndicator indicator start count value) d =
    record d { indicators = slice_set d.indicators indicator (filled start count value (slice_index_or d.indicators indicator [])) }

-- A view after a change of its document: new line end types regroup its flags; other changes leave it as it is.
abbrev pub changed_lines : DocumentChange → Document → View → View
changed_lines (change.SetLineEndTypes to) d v =
    if v.document == d.id then record v { flags = regrouped flags_together d.line_end_types to (text_of d) v.flags } else v
changed_lines other d v = v

-- The notes of a change.

abbrev pub line_note : ℕ → ℕ → Notice
line_note kind line = let n = notes.change_note kind in record n { line = pos line }

-- the notes that the line's markers changed (SC_MOD_CHANGEMARKER), if their number did
abbrev pub marker_note : ℕ → Document → Document → List View → List Notice
marker_note line old new views =
    if marker_count old.rows == marker_count new.rows then []
    else (let n = line_note notes.change_marker line in notes.heard views (record n { position = pos (start_of_line old.line_end_types (text_of old) line) }))

abbrev pub all_markers_note : Document → Document → List View → List Notice
all_markers_note old new views =
    if marker_count old.rows == marker_count new.rows then []
    else (let n = notes.change_note notes.change_marker in notes.heard views (record n { line = negsuc 0 }))

abbrev pub fold_note : ℕ → ℕ → ℕ → List View → List Notice
fold_note line old new views =
    if old == new then [] else (let n = line_note notes.change_fold line in notes.heard views (record n { now = pos new; prev = pos old }))

abbrev pub range_notes : ℕ → Option (ℕ × ℕ) → List View → List Notice
range_notes kind None views = []
range_notes kind (Some range) views = notes.heard views (notes.range_note (bit_or kind notes.performed_user) range.0 range.1)

abbrev pub line_with_handle : ℕ → ℕ → List Row → ℕ
line_with_handle handle line [] = line
line_with_handle handle line (row ∷ rows) =
    if length (filter (λ (m : Marker). m.handle == handle) row.markers) == 0 then line_with_handle handle (line + 1) rows else line

abbrev pub state_note : ℕ → ℤ → ℤ → List View → List Notice
state_note line old new views = if is_same old new then [] else notes.heard views (line_note notes.change_line_state line)

abbrev pub document_row : Document → ℕ → Row
document_row d line = slice_index_or d.rows line fresh_row

-- The notes of a change that made the document `new` of `old`, to these views of it; `sender` is the sending view.
abbrev pub change_told : View → List View → Document → Document → DocumentChange → List Notice
change_told sender views old new (change.SetReadOnly on) = []
change_told sender views old new (change.SetLineEnd to) = []
change_told sender views old new (change.SetLineEndTypes to) = []
change_told sender views old new change.SetSavePoint = notes.told views (notes.blank notes.save_point_reached)
change_told sender views old new change.BeginGroup = []
change_told sender views old new change.EndGroup = []
change_told sender views old new change.ForgetHistory = []
change_told sender views old new (change.CollectUndo on) = []
change_told sender views old new (change.AppendContainer token coalesce) = leaving views old.history
change_told sender views old new (change.AddMarker line number) = marker_note line old new views
change_told sender views old new (change.AddMarkers line mask) = marker_note line old new views
change_told sender views old new (change.DeleteMarker line number) = marker_note line old new views
change_told sender views old new (change.DeleteMarkers number) = all_markers_note old new views
change_told sender views old new (change.DeleteHandle handle) = marker_note (line_with_handle handle 0 old.rows) old new views
change_told sender views old new (change.SetLevel line level) = fold_note line (document_row old line).level level views
change_told sender views old new (change.SetState line state) = state_note line (document_row old line).state state views
change_told sender views old new (change.SetEndStyled place) = []
change_told sender views old new (change.StyleRun count style) = range_notes notes.change_style (changed_range (styles_of old.cells) (styles_of new.cells)) views
change_told sender views old new (change.StyleBytes count) = range_notes notes.change_style (changed_range (styles_of old.cells) (styles_of new.cells)) views
change_told sender views old new (change.NeedStyle start past) = let n = notes.blank notes.style_needed in notes.told (sender ∷ []) (record n { position = pos past })
change_told sender views old new (change.FillIndicator indicator start count value) =
    range_notes notes.change_indicator (changed_range (slice_index_or old.indicators indicator []) (slice_index_or new.indicators indicator [])) views

abbrev pub document_change_performed : Session → View → Document → List ℕ → DocumentChange → ℤ → Session × Response
document_change_performed s v d bytes what value =
    let new = changed_document bytes what d in (
      record s { documents = with_document new s.documents; views = map (changed_lines what d) s.views },
      record { value = value; text = []; notes = change_told v (watching s.views d) d new what },
    )

-- The view after a change; `levels` are the fold levels of its document's lines.
abbrev pub changed_view : List ℕ → ViewChange → View → View
changed_view levels (view_change.Select anchor caret) v = record v { anchor = anchor; caret = caret }
changed_view levels (view_change.SetTarget start past) v = record v { target_start = start; target_end = past }
changed_view levels (view_change.SetSearchFlags flags) v = record v { search_flags = flags }
changed_view levels (view_change.SetMask mask) v = record v { mask = mask }
changed_view levels (view_change.SetIndicator indicator) v = record v { indicator = indicator }
changed_view levels (view_change.SetIndicatorValue value) v = record v { indicator_value = value }
changed_view levels (view_change.SetPasteConversion on) v = record v { converts_pastes = on }
changed_view levels (view_change.SetRecording on) v = record v { records = on }
changed_view levels (view_change.ShowLines first past) v = record v { flags = lines_shown first past v.flags }
changed_view levels (view_change.HideLines first past) v = record v { flags = lines_hidden first past v.flags }
changed_view levels (view_change.SetExpanded line on) v = record v { flags = with_expanded line on v.flags }
changed_view levels (view_change.Contract line) v = record v { flags = contracted levels line v.flags }
changed_view levels (view_change.Expand line) v = record v { flags = expanded levels line v.flags }
changed_view levels (view_change.EnsureVisible line) v = record v { flags = revealed levels line v.flags }

abbrev pub view_change_performed : Session → View → Document → ViewChange → Session
view_change_performed s v d what = record s { views = with_view (changed_view (levels_of d) what v) s.views }

-- The session after a change; `bytes` is the message's text.

-- a document after the view is detached from it; the document `id` then lists the view last
abbrev pub attached_last : ℕ → ℕ → Document → Document
attached_last view id d = let left = left_by view d in if d.id == id then record left { views = left.views ++ view ∷ [] } else left

abbrev pub with_attached : Option Document → View → Session → Session
with_attached None v s = s
with_attached (Some d) v s =
    record s { documents = living (map (attached_last v.id d.id) s.documents); views = with_view (attached_to d v) s.views }

abbrev pub attached : ℕ → View → Session → Session
attached id v s = with_attached (document_at s.documents id) v s

abbrev pub with_new_document : Document → Session → Session
with_new_document d s = record s { documents = s.documents ++ d ∷ []; next_document = s.next_document + 1 }

abbrev pub held_more : ℕ → Document → Document
held_more id d = if d.id == id then record d { held_by_callers = d.held_by_callers + 1 } else d

abbrev pub held_less : ℕ → Document → Document
held_less id d = if d.id == id then record d { held_by_callers = d.held_by_callers - 1 } else d

abbrev pub session_changed : Session → View → Document → List ℕ → SessionChange → Session
session_changed s v d bytes (session_change.Copy start count) = record s { clipboard = slice_range (text_of d) start (start + count) }
session_changed s v d bytes (session_change.CopyText count) = record s { clipboard = take count bytes }
session_changed s v d bytes (session_change.Attach document) = attached document v s
session_changed s v d bytes session_change.AttachNew = attached s.next_document v (with_new_document (new_document s.next_document 0) s)
session_changed s v d bytes (session_change.Create options) =
    let new = new_document s.next_document options in with_new_document (record new { held_by_callers = 1 }) s
session_changed s v d bytes (session_change.AddReference document) = record s { documents = map (held_more document) s.documents }
session_changed s v d bytes (session_change.Release document) = record s { documents = living (map (held_less document) s.documents) }
