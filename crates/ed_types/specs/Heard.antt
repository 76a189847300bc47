-- Notes with their texts.
use Rattle.std.specs.Prelude.{ℕ, List, map, slice_range}
use Rattle.ed_types.specs.declared.reply.Note.{Note}
use Rattle.ed_types.specs.Notices.{Notice}

-- the note with this text
abbrev pub with_text : Note → List ℕ → Notice
with_text n text = record { view = n.view; code = n.code; kind = n.kind; position = n.position; length = n.length; lines = n.lines; line = n.line; now = n.now; prev = n.prev; token = n.token; message = n.message; w = n.w; l = n.l; text = text }

-- the note with its own text, which stands in the pool
abbrev pub noticed : List ℕ → Note → Notice
noticed pool n = with_text n (slice_range pool n.text.start n.text.end)

abbrev pub heard_in : List ℕ → List Note → List Notice
heard_in pool notes = map (noticed pool) notes
