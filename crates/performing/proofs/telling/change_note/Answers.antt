use Rattle.performing.proofs.Names.{[], ap, Notice}
use Rattle.performing.proofs.telling.change_note.Goals as goal

pub returns : goal.returns
returns c = ap (λ (n : Notice). record n { kind = c.args.kind }) (c.blank-note.ensures [])
