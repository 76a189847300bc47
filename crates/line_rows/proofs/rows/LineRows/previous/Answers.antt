use Rattle.line_rows.proofs.Names.{◌∙◌, meets, mask_of}
use Rattle.line_rows.proofs.RowReads.{found_up_to}
use Rattle.line_rows.proofs.rows.LineRows.previous.Goals as goal

pub returns : goal.returns
returns c = c.previous.ensures ∙ found_up_to _ _ _ c.self.invariant _ c.self.view_is (λ ms. meets (mask_of ms) c.args.mask) c.args.from
