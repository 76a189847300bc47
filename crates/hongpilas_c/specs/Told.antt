-- Notes as C sees them.
use Rattle.std.specs.Prelude.{◌≡◌, ℕ, List, [], length, Option, Some, None, slice_get}
use Rattle.ed_types.specs.Notices.{Notice, Response}
use Rattle.hongpilas_c.specs.declared.notes.NoteInC.{NoteInC}

-- the note with this text
abbrev pub notice_of : NoteInC → List ℕ → Notice
notice_of c text = record { view = c.view; code = c.code; kind = c.kind; position = c.position; length = c.length; lines = c.lines; line = c.line; now = c.now; prev = c.prev; token = c.token; message = c.message; w = c.w; l = c.l; text = text }

-- C sees this note, and the length of its text
abbrev pub IsTold : NoteInC → Notice → Type 0
IsTold c note = (notice_of c note.text ≡ note) × (c.text_length ≡ length note.text)

-- the text of the note, or nothing if there is none
abbrev pub text_told : Option Notice → List ℕ
text_told (Some note) = note.text
text_told None = []

-- the text of the note of the reply with this index, or nothing if there is none
abbrev pub note_text : Response → ℕ → List ℕ
note_text reply index = text_told (slice_get reply.notes index)
