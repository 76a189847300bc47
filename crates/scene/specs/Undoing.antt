-- Undo and redo: the bits of their notes, and what they need.
use Rattle.std.specs.Prelude.{◌≡◌, ℕ, ◌+◌, ◌-◌, ◌*◌, ◌^◌, if◌then◌else◌, min, Bool, true, List, [], ◌∷◌, length, reverse, bit_or, Option, Some, None}
use Rattle.ed_model.specs.declared.plan.LineEndTypes.{LineEndTypes}
use Rattle.ed_model.specs.Steps.{Step, Insert, Delete, step_bytes}
use Rattle.ed_model.specs.History.{Change, TextStep, ContainerStep, latest_text_step}
use Rattle.ed_model.specs.Session.{View}
use Rattle.ed_model.specs.Notes as notes
use Rattle.ed_model.specs.Performing.{last_bits, place_behind}
use Rattle.document.specs.declared.undoing.Direction.{Direction}
use Rattle.document.specs.declared.undoing.Direction.TheVariants.{Undo, Redo}
use Rattle.document.specs.declared.undoing.ChangeOutline.{ChangeOutline}
use Rattle.document.specs.declared.undoing.ChangeOutline.TheVariants as outline
use Rattle.document.specs.declared.need.DocumentNeed.{DocumentNeed}
use Rattle.selection.specs.declared.movements.Movement.{Movement}
use Rattle.selection.specs.declared.movements.Movement.TheVariants.{Inserted, Deleted}
use Rattle.id_table.specs.Entries.{Entries}
use Rattle.ed_view.specs.Kept.{KeptView}
use Rattle.document.specs.Kept.{Kept, HasTextRoom, document_need, nothing_needed, amount_sum}
use Rattle.document.specs.TextSteps.{LeavesTextRoom}
use Rattle.document.specs.Undoing.{changes_of, need_of_change, outline_of, save_point_told}
use Rattle.scene.specs.declared.need.NoteRoom.{NoteRoom}
use Rattle.scene.specs.Scenes.{watchers}
use Rattle.scene.specs.Hearing.{step_kinds, hearers, bytes_shared}
use Rattle.scene.specs.Needs.{note_room}

-- the bit for undo or redo
abbrev pub bits_of : Direction → ℕ
bits_of Undo = notes.performed_undo
bits_of Redo = notes.performed_redo

-- all bits about its change that the note after a change may have
abbrev pub all_bits : ℕ → ℕ
all_bits who = bit_or (bit_or who notes.multi_step) (last_bits true true)

-- each kind of note that a change may have
abbrev pub performed_kinds : ℕ → Step → ℕ
performed_kinds who step = step_kinds who (all_bits who) step

abbrev pub container_kinds : ℕ → ℕ
container_kinds who = bit_or notes.container (all_bits who)

-- By its outline: the kinds of notes that a change may have, and its movement of positions. A container's step moves none.

abbrev pub outline_kinds : ℕ → ChangeOutline → ℕ
outline_kinds who (outline.Insert place count) = bit_or (bit_or notes.before_insert who) (bit_or notes.insert_text (all_bits who))
outline_kinds who (outline.Delete place count) = bit_or (bit_or notes.before_delete who) (bit_or notes.delete_text (all_bits who))
outline_kinds who (outline.Container token) = container_kinds who

abbrev pub outline_movement : ChangeOutline → Movement
outline_movement (outline.Insert place count) = Inserted place count
outline_movement (outline.Delete place count) = Deleted place count
outline_movement (outline.Container token) = Inserted 0 0

-- each kind of note that any change may have
abbrev pub every_kind : ℕ → ℕ
every_kind who =
    bit_or (bit_or (bit_or (bit_or (bit_or notes.before_insert notes.before_delete) notes.insert_text) notes.delete_text) notes.container) (all_bits who)

-- The need of one change, performed with the bit, and of changes in turn.

abbrev pub notes_of_change : List View → ℕ → Change → ℕ
notes_of_change views who (TextStep step) = 2 * hearers (performed_kinds who step) views
notes_of_change views who (ContainerStep token coalesce) = hearers (container_kinds who) views

abbrev pub bytes_of_change : List View → ℕ → Change → ℕ
bytes_of_change views who (TextStep step) = bytes_shared (performed_kinds who step) views (length (step_bytes step))
bytes_of_change views who (ContainerStep token coalesce) = 0

abbrev pub notes_of_changes : List View → ℕ → List Change → ℕ
notes_of_changes views who [] = 0
notes_of_changes views who (c ∷ cs) = notes_of_change views who c + notes_of_changes views who cs

abbrev pub bytes_of_changes : List View → ℕ → List Change → ℕ
bytes_of_changes views who [] = 0
bytes_of_changes views who (c ∷ cs) = bytes_of_change views who c + bytes_of_changes views who cs

abbrev pub both_rooms : DocumentNeed → DocumentNeed → DocumentNeed
both_rooms a b =
    document_need (a.text + b.text) (a.lines + b.lines) (a.insertions + b.insertions) (a.steps + b.steps) (a.bytes + b.bytes)

-- Where there was room for the change and for what comes after it, there is room for what comes after it.
abbrev pub LeavesRoomBehind : Change → Kept → Kept → Type 0
LeavesRoomBehind (TextStep step) old new = LeavesTextRoom step old new
LeavesRoomBehind (ContainerStep token coalesce) old new = (rest : DocumentNeed) → HasTextRoom rest old → HasTextRoom rest new

-- how many bytes are free after a change, with `free` before it: insertions use them, and deletions add theirs
abbrev pub free_behind : ℕ → Change → ℕ
free_behind free (TextStep (Insert place bytes)) = free - length bytes
free_behind free (TextStep (Delete place bytes)) = amount_sum free (length bytes)
free_behind free (ContainerStep token coalesce) = free

-- what a change needs beyond the free bytes
abbrev pub room_beside : LineEndTypes → ℕ → Change → DocumentNeed
room_beside types free c =
    let need = need_of_change types c in record need { text = need.text - free }

abbrev pub rooms_beside : LineEndTypes → ℕ → List Change → DocumentNeed
rooms_beside types free [] = nothing_needed
rooms_beside types free (c ∷ cs) = both_rooms (room_beside types free c) (rooms_beside types (free_behind free c) cs)

-- what changes in turn need; of the text it is the most that the length ever grows beyond the length now
abbrev pub room_of_changes : LineEndTypes → List Change → DocumentNeed
room_of_changes types cs = rooms_beside types 0 cs

-- how many notes tell the views that the save point is reached or left: none if it is neither
abbrev pub save_point_notes : Bool → ℕ → ℕ
save_point_notes told count = if told then count else 0

-- an amount, or the greatest `usize` if it is more
abbrev pub capped : ℕ → ℕ
capped amount = min amount (2 ^ 64 - 1)

abbrev pub capped_room : DocumentNeed → DocumentNeed
capped_room need = document_need (capped need.text) (capped need.lines) (capped need.insertions) (capped need.steps) (capped need.bytes)

abbrev pub capped_notes : ℕ → ℕ → NoteRoom
capped_notes notes bytes = note_room (capped notes) (capped bytes)

-- where the caret goes by the latest step of the text, if there is one
abbrev pub place_behind_any : Option Step → Option ℕ
place_behind_any None = None
place_behind_any (Some step) = Some (place_behind step)

-- where the caret goes by a change, or by the earlier ones if the change is no step of the text
abbrev pub place_by : ChangeOutline → Option ℕ → Option ℕ
place_by (outline.Insert place count) before = Some (place + count)
place_by (outline.Delete place count) before = Some place
place_by (outline.Container token) before = before

-- the room is what the notes of each change with this outline need
abbrev pub IsNoteNeed : Direction → ChangeOutline → Kept → Entries KeptView → NoteRoom → Type 0
IsNoteNeed direction shape k views room =
    (change : Change) → shape ≡ outline_of change
    → room
    ≡ note_room (notes_of_change (watchers k.document views) (bits_of direction) change)
    (bytes_of_change (watchers k.document views) (bits_of direction) change)

-- Undo or redo of a document, with all its changes.

-- what undo or redo needs of the document
abbrev pub history_room : Direction → Kept → DocumentNeed
history_room direction k = room_of_changes k.document.line_end_types (changes_of direction k.document.history)

-- how many notes undo or redo needs
abbrev pub history_notes : Direction → Kept → Entries KeptView → ℕ
history_notes direction k views =
    notes_of_changes (watchers k.document views) (bits_of direction) (changes_of direction k.document.history)
    + save_point_notes (save_point_told direction k.document.history) (length (watchers k.document views))

-- how many bytes are shared for these notes
abbrev pub history_bytes : Direction → Kept → Entries KeptView → ℕ
history_bytes direction k views =
    bytes_of_changes (watchers k.document views) (bits_of direction) (changes_of direction k.document.history)

-- both, with the greatest `usize` in place of a greater number
abbrev pub history_note_need : Direction → Kept → Entries KeptView → NoteRoom
history_note_need direction k views = capped_notes (history_notes direction k views) (history_bytes direction k views)

-- where the caret goes by undo or redo, if one of the changes is a step of the text
abbrev pub history_caret : Direction → Kept → Option ℕ
history_caret direction k = place_behind_any (latest_text_step (reverse (changes_of direction k.document.history)))
