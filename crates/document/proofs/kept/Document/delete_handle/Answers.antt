use Rattle.document.proofs.Names.{◌∙◌, ap, KeptRows}
use Rattle.document.proofs.MarkerLines.{first_is_left}
use Rattle.document.proofs.kept.Document.delete_handle.Goals as goal

pub returns-clause-line : goal.returns-clause-line
returns-clause-line c =
    rw (← c.self.view_is) (c.delete_handle.ensures.line ∙ first_is_left c.args.handle c.self.inside.parts.rows.rows c.delete_handle.new.self.rows (ap (λ (k : KeptRows). k.rows) c.delete_handle.ensures.rows))
