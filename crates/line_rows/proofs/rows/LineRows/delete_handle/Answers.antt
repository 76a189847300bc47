use Rattle.line_rows.proofs.Names.{◌==◌, ◌∙◌, Marker, list_any}
use Rattle.line_rows.proofs.RowReads.{found_from}
use Rattle.line_rows.proofs.rows.LineRows.delete_handle.Goals as goal

pub returns-clause-line : goal.returns-clause-line
returns-clause-line c = c.delete_handle.ensures.line ∙ found_from _ _ _ c.self.invariant _ c.self.view_is (λ ms. list_any (λ (m : Marker). m.handle == c.args.handle) ms) 0
