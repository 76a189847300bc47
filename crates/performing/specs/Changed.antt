-- The effect of a change on a document, its views and the notes; and its memory: what is reserved for it, and what it leaves of that.
use Rattle.std.specs.Prelude.{◌≡◌, ◌⊎◌, ℕ, length, List, ◌++◌, map, Result, Ok, Err}
use Rattle.ed_model.specs.declared.plan.DocumentChange.{DocumentChange}
use Rattle.ed_model.specs.LinePlans.{numbers_in}
use Rattle.line_index.specs.Edits.{fresh_lines}
use Rattle.line_rows.specs.Kept.{most_for_level, most_for_markers, most_for_state}
use Rattle.document.specs.Changes.{line_type_edits, with_collecting, with_forgotten_history}
use Rattle.document.specs.Kept.{Kept, rows_in}
use Rattle.document.specs.Memory.{KeepsMemoryFilling, ReservesFill, ReservesLines, ReservesRows, ReservesStep, ReservesStyles}
use Rattle.notify.specs.Gathered.{Gathered, with_room}
use Rattle.std.specs.declared.alloc.AllocError.{AllocError}
use Rattle.ed_model.specs.Session.{Document, View}
use Rattle.ed_model.specs.Changes.{changed_document, changed_lines, change_told}
use Rattle.id_table.specs.Entries.{Entries, id_of}
use Rattle.ed_view.specs.Kept.{KeptView}
use Rattle.scene.specs.Scenes.{views_of, watchers, IsWatched, ViewsStay}
use Rattle.performing.specs.declared.note.ChangeNote.{ChangeNote}
use Rattle.performing.specs.ChangeNeeds.{IsReady}
use Rattle.performing.specs.Notes.{IsFitNote, notes_of}
use Rattle.ed_model.specs.declared.plan.DocumentChange.TheVariants as change

-- At most what the change needs was reserved, and nothing else is another. A history that is forgotten holds no memory.
abbrev pub ReservesFor : DocumentChange → Kept → Kept → Type 0
ReservesFor (change.SetLineEndTypes to) old new = ReservesLines (fresh_lines (line_type_edits to old.document)) old new
ReservesFor change.ForgetHistory old new = new.capacity ≡ (with_forgotten_history old).capacity
ReservesFor (change.CollectUndo on) old new = new.capacity ≡ (with_collecting on old).capacity
ReservesFor (change.AppendContainer token coalesce) old new = ReservesStep old new
ReservesFor (change.AddMarker line number) old new = ReservesRows (most_for_markers 1 (rows_in old)) old new
ReservesFor (change.AddMarkers line mask) old new = ReservesRows (most_for_markers (length (numbers_in mask)) (rows_in old)) old new
ReservesFor (change.SetLevel line level) old new = ReservesRows (most_for_level line (rows_in old)) old new
ReservesFor (change.SetState line state) old new = ReservesRows (most_for_state line (rows_in old)) old new
ReservesFor (change.StyleRun count style) old new = ReservesStyles old new
ReservesFor (change.StyleBytes count) old new = ReservesStyles old new
ReservesFor (change.FillIndicator indicator start count value) old new = ReservesFill indicator old new
ReservesFor other old new = new ≡ old

-- Room was made for a fill of the indicator, which may have dropped its runs, or given it the spare ones.
pub record FillsWithin (indicator : ℕ) (old new : Kept) : Type 0 where
  pub ready : Kept
  pub reserved : ReservesFill indicator old ready
  pub kept : KeepsMemoryFilling indicator ready new

-- At most what the change needs was reserved for it, before it was made.
abbrev pub TakesMemory : DocumentChange → Kept → Kept → Type 0
TakesMemory (change.SetLineEndTypes to) old new = ReservesFor (change.SetLineEndTypes to) old (record old { capacity = new.capacity })
TakesMemory (change.FillIndicator indicator start count value) old new = FillsWithin indicator old new
TakesMemory other old new = ReservesFor other old (record old { stored = record old.stored { styles = new.stored.styles }; capacity = new.capacity })

-- only the notes and the room for them may be others: room for so many more was made, or none
abbrev pub ReservesNotes : ℕ → Gathered → Gathered → Type 0
ReservesNotes count old new = (new ≡ record old { notes = new.notes; capacity = new.capacity }) × ((new.capacity ≡ old.capacity) ⊎ (new.capacity ≡ (with_room count 0 old).capacity))

-- The change was made, which makes `after` of the document, and `note` is what there is to tell of it.
pub record IsMadeOf (after : Document) (what : DocumentChange) (old new : Kept) (note : ChangeNote) : Type 0 where
  pub document : new.document ≡ after
  pub told : (sender : View) (views : List View) → change_told sender views old.document new.document what ≡ notes_of sender views new.document note
  pub fits : IsFitNote new.document note
  pub memory : TakesMemory what old new

-- the same of a change that reads this text of the message
abbrev pub IsMade : List ℕ → DocumentChange → Kept → Kept → ChangeNote → Type 0
IsMade text what old new note = IsMadeOf (changed_document text what old.document) what old new note

-- It was made, and this is what there is to tell; or there was no room for it, and nothing changed but how much fits in.
abbrev pub Makes : List ℕ → DocumentChange → Kept → Kept → Result ChangeNote AllocError → Type 0
Makes text what old new (Ok note) = IsMade text what old new note
Makes text what old new (Err e) = (IsReady what old → ⊥) × (new.document ≡ old.document) × ReservesFor what old new

-- The message with this text, from the view whose id is `sender`, made the change in the document, the views and the notes.
pub record Changes (text : List ℕ) (what : DocumentChange) (sender : ℕ) (old new : Kept) (views views' : Entries KeptView) (notes notes' : Gathered) : Type 0 where
  pub document : new.document ≡ changed_document text what old.document
  pub lines : views_of views'.entries ≡ map (changed_lines what old.document) (views_of views.entries)
  pub told : (v : View) → v.id ≡ sender → notes'.notes ≡ notes.notes ++ change_told v (watchers old.document views) old.document new.document what
  pub watched : IsWatched new.document views'
  pub stay : ViewsStay views views'

-- the change was made, whoever sent the message with this text, and no view was notified of it
abbrev pub IsMadeUnheard : List ℕ → DocumentChange → Kept → Kept → Entries KeptView → Type 0
IsMadeUnheard text what old new views = (sender : ℕ) (notes : Gathered) → Changes text what sender old new views views notes notes

-- The change was not made. All is as it was, but that more may fit in: into the document no more than the change needs.
pub record IsUnchanged (what : DocumentChange) (old new : Kept) (old_views new_views : Entries KeptView) (old_notes new_notes : Gathered) : Type 0 where
  pub document : new.document ≡ old.document
  pub reserved : (new ≡ old) ⊎ ReservesFor what old new
  pub views : new_views ≡ old_views
  pub notes : new_notes.notes ≡ old_notes.notes
