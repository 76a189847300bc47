-- What a session ends as, once bytes that it lent have come back, or once it lent none.
use Rattle.std.specs.Prelude.{◌≡◌, ⊤}
use Rattle.std.specs.Borrow.{Fml, MutBor, follows_so}
use mathlib.Core.Option.{none}
use Rattle.ed_model.specs.Session.{Session}
use Rattle.editor_session.specs.contracts.session.Session.{the_row}

-- all is as it was
abbrev pub lent_and_back : MutBor Session → Fml
lent_and_back s = follows_so the_row the_row s.ghost_name none (λ _ _. ⊤) (λ n. n ≡ s.now)
