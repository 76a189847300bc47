-- What a contract sees of a `NoteList`.
use Rattle.std.specs.Prelude.{ℕ, ◌+◌, ◌≤◌, ◌==◌, max, Bool, List, [], ◌∷◌, ◌++◌, length}
use Rattle.ed_types.specs.declared.reply.Note.{Note}
use Rattle.ed_types.specs.Notices.{Notice}
use Rattle.ed_types.specs.Heard.{with_text}

-- how many notes, and how many bytes of texts, fit in with no allocation
pub record NoteCapacity : Type 0 where
  pub notes : ℕ
  pub bytes : ℕ

-- the notes with their texts, the text that is shared, how many bytes of texts the list holds, and its capacity
pub record Gathered : Type 0 where
  pub notes : List Notice
  pub shared : List ℕ
  pub held : ℕ
  pub capacity : NoteCapacity

abbrev pub note_capacity : ℕ → ℕ → NoteCapacity
note_capacity notes bytes = record { notes = notes; bytes = bytes }

abbrev pub gathered : List Notice → List ℕ → ℕ → NoteCapacity → Gathered
gathered notes shared held capacity = record { notes = notes; shared = shared; held = held; capacity = capacity }

-- an empty list, which has no memory
abbrev pub no_notes : Gathered
no_notes = gathered [] [] 0 (note_capacity 0 0)

-- so many more notes fit in
abbrev pub CanPut : ℕ → Gathered → Type 0
CanPut count g = length g.notes + count ≤ g.capacity.notes

-- so many more bytes of texts fit in
abbrev pub CanShare : ℕ → Gathered → Type 0
CanShare bytes g = g.held + bytes ≤ g.capacity.bytes

-- whether no more notes fit in
abbrev pub is_full : Gathered → Bool
is_full g = length g.notes == g.capacity.notes

-- so many more notes and bytes of texts fit in, and no more than did before
abbrev pub with_room : (notes bytes : ℕ) → Gathered → Gathered
with_room notes bytes g =
    record g { capacity = note_capacity (max g.capacity.notes (length g.notes + notes)) (max g.capacity.bytes (g.held + bytes)) }

-- a text in two halves is shared
abbrev pub with_shared : (first second : List ℕ) → Gathered → Gathered
with_shared first second g = record g { shared = first ++ second; held = g.held + (length first + length second) }

-- the note is appended
abbrev pub with_note : Notice → Gathered → Gathered
with_note notice g = record g { notes = g.notes ++ notice ∷ [] }

-- the note is appended with a text of its own, which is then the shared one
abbrev pub with_own_text : Note → List ℕ → Gathered → Gathered
with_own_text note text g =
    record g { notes = g.notes ++ with_text note text ∷ []; shared = text; held = g.held + length text }

-- likewise, with a text in two halves
abbrev pub with_own_halves : Note → (first second : List ℕ) → Gathered → Gathered
with_own_halves note first second g = with_note (with_text note (first ++ second)) (with_shared first second g)
