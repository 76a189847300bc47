-- The numbers of a note, in the order of its line.
use Rattle.std.specs.Prelude.{ℤ, pos, List, [], ◌∷◌}
use Rattle.ed_types.specs.declared.reply.Note.{Note}

abbrev pub numbers_of_note : Note → List ℤ
numbers_of_note note = pos note.view ∷ pos note.code ∷ pos note.kind ∷ note.position ∷ note.length ∷ note.lines ∷ note.line ∷ note.now ∷ note.prev ∷ note.token ∷ pos note.message ∷ note.w ∷ note.l ∷ []
