use Rattle.line_rows.proofs.Names.{List, length, ap, ◌∙◌, length-set, Marker, MarkedLines}
use Rattle.line_rows.proofs.RowReads.{some_went}
use Rattle.line_rows.proofs.rows.LineRows.delete.Goals as goal

pub returns-clause-went : goal.returns-clause-went
returns-clause-went c =
    let long = ap (λ (m : MarkedLines). length m.lines) c.delete.ensures.lines ∙ length-set {A = List Marker} c.self.inside.markers.lines c.args.line _ in
    some_went _ _ _ c.self.invariant _ c.self.view_is c.delete.result c.delete.new.self.lines long c.delete.ensures.went
