-- Bytes of the text of a view's document that are lent.
use Rattle.std.specs.Prelude.{ℕ, ◌+◌, nat_le, List, length, slice_range, Bool, true, false, Result, Ok, Err, Option, Some, None}
use Rattle.ed_types.specs.declared.refusal.Refusal.{Refusal}
use Rattle.ed_types.specs.declared.refusal.Refusal.TheVariants.{NoSuchView, NoSuchDocument, BadArgument}
use Rattle.ed_model.specs.Session.{Session, View, Document, view_at, document_at, text_of}

abbrev pub lent_if : Bool → ℕ → ℕ → Document → Result (List ℕ) Refusal
lent_if true start count d = Ok (slice_range (text_of d) start (start + count))
lent_if false start count d = Err BadArgument

-- the bytes of a document that are lent, or the refusal
abbrev pub lent_of : ℕ → ℕ → Option Document → Result (List ℕ) Refusal
lent_of start count None = Err NoSuchDocument
lent_of start count (Some d) = lent_if (nat_le (start + count) (length d.cells)) start count d

abbrev pub lent_from : Session → ℕ → ℕ → Option View → Result (List ℕ) Refusal
lent_from s start count None = Err NoSuchView
lent_from s start count (Some v) = lent_of start count (document_at s.documents v.document)

-- the `count` bytes from `start` on of the document of the view with this id, or the refusal
abbrev pub lent_range : Session → ℕ → ℕ → ℕ → Result (List ℕ) Refusal
lent_range s view start count = lent_from s start count (view_at s.views view)
