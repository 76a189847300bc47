-- Documents of a session as they are kept, by their ids.
use Rattle.std.specs.Prelude.{ℕ, IfSome, IsSomeAnd}
use Rattle.id_table.specs.Entries.{Entries, value_at}
use Rattle.document.specs.Kept.{Kept}

-- this holds of the document with the id, if the table has one
abbrev pub OfDocument : Entries Kept → ℕ → (Kept → Type 0) → Type 0
OfDocument documents id P = IfSome (value_at documents.entries id) P

-- the table has a document with the id, and this holds of it
abbrev pub HasDocument : Entries Kept → ℕ → (Kept → Type 0) → Type 0
HasDocument documents id P = IsSomeAnd (value_at documents.entries id) P
