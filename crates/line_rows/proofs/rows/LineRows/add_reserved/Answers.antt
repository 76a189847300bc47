use Rattle.line_rows.proofs.Names.{◌<◌, ◌∙◌, arith, ap, sym, subst, length, length-set, List, Marker, HasRoomForMarkers, MarkedLines, kept_in}
use Rattle.line_rows.proofs.RowReads.{same_parts, marker_added, parts_length, room_left}
use Rattle.line_rows.proofs.rows.LineRows.add_reserved.Goals as goal

pub invariant_of-self : goal.invariant_of-self
invariant_of-self c = same_parts _ _ _ c.self.invariant _ (ap (λ (m : MarkedLines). length m.lines) c.add_reserved.ensures.lines ∙ length-set {A = List Marker} c.self.inside.markers.lines c.args.line _)

pub returns-clause-room : goal.returns-clause-room
returns-clause-room c = λ count h.
    let d = c.self.inside in
    let inside : c.args.line < length d.markers.lines = omega (arith, c.requires.line, parts_length _ _ _ c.self.invariant _ c.self.view_is) in
    let same = ap (λ (m : MarkedLines). kept_in m d.levels d.states) c.add_reserved.ensures.lines ∙ marker_added _ _ _ c.self.invariant _ c.self.view_is c.args.line c.args.number in
    subst (HasRoomForMarkers count) (sym same) (room_left _ _ _ c.self.invariant _ c.self.view_is c.args.line c.args.number count inside h)
