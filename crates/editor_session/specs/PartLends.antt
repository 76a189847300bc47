-- What the parts of a session end as, once bytes that they lent have come back.
use Rattle.std.specs.Prelude.{◌≡◌, ⊤}
use Rattle.std.specs.Borrow.{Fml, MutBor, follows_so}
use mathlib.Core.Option.{none}
use Rattle.id_table.specs.Entries.{Entries}
use Rattle.document.specs.Kept.{Kept}
use Rattle.document_table.specs.contracts.table.DocumentTable.{the_row as table_row}
use Rattle.message_requests.specs.declared.state.SessionState.{SessionState}
use Rattle.message_requests.specs.contracts.state.SessionState.{the_row as state_row}

-- all documents are as they were
abbrev pub documents_back : MutBor (Entries Kept) → Fml
documents_back t = follows_so table_row table_row t.ghost_name none (λ _ _. ⊤) (λ n. n ≡ t.now)

-- all is as it was
abbrev pub state_back : MutBor SessionState → Fml
state_back s = follows_so state_row state_row s.ghost_name none (λ _ _. ⊤) (λ n. n ≡ s.now)
