-- What a change needs: room for notes, and room in its document.
use Rattle.std.specs.Prelude.{◌≡◌, ℕ, Bool, true, false, List, [], length, Option, Some, None}
use Rattle.ed_model.specs.declared.plan.DocumentChange.{DocumentChange}
use Rattle.ed_model.specs.declared.plan.DocumentChange.TheVariants as change
use Rattle.ed_model.specs.History.{History}
use Rattle.ed_model.specs.LinePlans.{numbers_in}
use Rattle.ed_model.specs.Notes as notes
use Rattle.ed_model.specs.Session.{View}
use Rattle.document.specs.Changes.{CanStyle, container_need, line_type_edits}
use Rattle.document.specs.Kept.{Kept, HasFillRoom, HasHistoryRoom, HasLevelRoom, HasLineRoom, HasMarkerRoom, HasStateRoom}
use Rattle.id_table.specs.Entries.{Entries}
use Rattle.ed_view.specs.Kept.{KeptView}
use Rattle.scene.specs.Scenes.{watchers}
use Rattle.scene.specs.Hearing.{hearers}
use Rattle.scene.specs.Needs.{leaving_count}
use Rattle.performing.specs.Notes.{indicator_kind, style_kind}

-- the kind of the notes of the change, if the views that hear of that kind get one each
abbrev pub heard_kind : DocumentChange → Option ℕ
heard_kind (change.AddMarker line number) = Some notes.change_marker
heard_kind (change.AddMarkers line mask) = Some notes.change_marker
heard_kind (change.DeleteMarker line number) = Some notes.change_marker
heard_kind (change.DeleteMarkers number) = Some notes.change_marker
heard_kind (change.DeleteHandle handle) = Some notes.change_marker
heard_kind (change.SetLevel line level) = Some notes.change_fold
heard_kind (change.SetState line state) = Some notes.change_line_state
heard_kind (change.StyleRun count style) = Some style_kind
heard_kind (change.StyleBytes count) = Some style_kind
heard_kind (change.FillIndicator indicator start count value) = Some indicator_kind
heard_kind other = None

-- how many notes the change has at most, if these views watch the document
abbrev pub notes_of_change : DocumentChange → History → List View → ℕ
notes_of_change change.SetSavePoint h views = length views
notes_of_change (change.AppendContainer token coalesce) h views = leaving_count views h
notes_of_change (change.AddMarker line number) h views = hearers notes.change_marker views
notes_of_change (change.AddMarkers line mask) h views = hearers notes.change_marker views
notes_of_change (change.DeleteMarker line number) h views = hearers notes.change_marker views
notes_of_change (change.DeleteMarkers number) h views = hearers notes.change_marker views
notes_of_change (change.DeleteHandle handle) h views = hearers notes.change_marker views
notes_of_change (change.SetLevel line level) h views = hearers notes.change_fold views
notes_of_change (change.SetState line state) h views = hearers notes.change_line_state views
notes_of_change (change.StyleRun count style) h views = hearers style_kind views
notes_of_change (change.StyleBytes count) h views = hearers style_kind views
notes_of_change (change.NeedStyle start past) h views = 1
notes_of_change (change.FillIndicator indicator start count value) h views = hearers indicator_kind views
notes_of_change other h views = 0

-- how many notes the change has at most in the document as it is kept, with these views of the session
abbrev pub change_note_need : DocumentChange → Kept → Entries KeptView → ℕ
change_note_need what k views = notes_of_change what k.document.history (watchers k.document views)

-- The document has room for the change, which then allocates nothing in it. Other line ends take memory unless they change no line.
abbrev pub IsReady : DocumentChange → Kept → Type 0
IsReady (change.SetLineEndTypes to) k = (line_type_edits to k.document ≡ []) × HasLineRoom 0 k
IsReady (change.AppendContainer token coalesce) k = HasHistoryRoom container_need k
IsReady (change.AddMarker line number) k = HasMarkerRoom 1 k
IsReady (change.AddMarkers line mask) k = HasMarkerRoom (length (numbers_in mask)) k
IsReady (change.SetLevel line level) k = HasLevelRoom line k
IsReady (change.SetState line state) k = HasStateRoom line k
IsReady (change.StyleRun count style) k = CanStyle k
IsReady (change.StyleBytes count) k = CanStyle k
IsReady (change.FillIndicator indicator start count value) k = HasFillRoom indicator k
IsReady other k = Unit {0}

-- whether the change needs room in its document
abbrev pub needs_room : DocumentChange → Bool
needs_room (change.SetLineEndTypes to) = true
needs_room (change.AppendContainer token coalesce) = true
needs_room (change.AddMarker line number) = true
needs_room (change.AddMarkers line mask) = true
needs_room (change.SetLevel line level) = true
needs_room (change.SetState line state) = true
needs_room (change.StyleRun count style) = true
needs_room (change.StyleBytes count) = true
needs_room (change.FillIndicator indicator start count value) = true
needs_room other = false

-- whether the change sets which line ends count
abbrev pub is_of_types : DocumentChange → Bool
is_of_types (change.SetLineEndTypes to) = true
is_of_types other = false
