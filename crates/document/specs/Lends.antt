-- How a document ends, once bytes that it lent have come back.
use Rattle.std.specs.Prelude.{◌≡◌, ⊤}
use Rattle.std.specs.Borrow.{Fml, MutBor, follows_so}
use mathlib.Core.Option.{none}
use Rattle.document.specs.Kept.{Kept}
use Rattle.document.specs.contracts.kept.Document.{the_row}

-- nothing has changed
abbrev pub lent_and_back : MutBor Kept → Fml
lent_and_back d = follows_so the_row the_row d.ghost_name none (λ _ _. ⊤) (λ n. n ≡ d.now)
