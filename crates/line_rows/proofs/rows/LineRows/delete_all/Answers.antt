use Rattle.line_rows.proofs.Names.{List, length, ap, ◌∙◌, length-map, Marker, MarkedLines}
use Rattle.line_rows.proofs.RowReads.{some_went}
use Rattle.line_rows.proofs.rows.LineRows.delete_all.Goals as goal

pub returns-clause-went : goal.returns-clause-went
returns-clause-went c =
    let long = ap (λ (m : MarkedLines). length m.lines) c.delete_all.ensures.lines ∙ length-map {A = List Marker} {B = List Marker} c.self.inside.markers.lines _ in
    some_went _ _ _ c.self.invariant _ c.self.view_is c.delete_all.result c.delete_all.new.self.lines long c.delete_all.ensures.went
