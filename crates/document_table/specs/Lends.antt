-- How a table ends that lent one of its documents.
use Rattle.std.specs.Prelude.{ℕ, Option}
use Rattle.std.specs.Borrow.{Lends, LendsIf, Fml, MutBor}
use Rattle.id_table.specs.Entries.{Entries, with_value_at}
use Rattle.document.specs.Kept.{Kept}
use Rattle.document.specs.contracts.kept.Document.{the_row as document_row}
use Rattle.document_table.specs.contracts.table.DocumentTable.{the_row}

-- once the loan r ends, the id has the document that was written; at `None` nothing has changed
abbrev pub lends_document : MutBor (Entries Kept) → ℕ → Option (MutBor Kept) → Fml
lends_document t id r =
    LendsIf the_row document_row t r (λ w. record t.now { entries = with_value_at id w t.now.entries }) t.now

-- the same of an id that has a document
abbrev pub lends_document_at : MutBor (Entries Kept) → ℕ → MutBor Kept → Fml
lends_document_at t id r = Lends the_row document_row t r (λ w. record t.now { entries = with_value_at id w t.now.entries })
