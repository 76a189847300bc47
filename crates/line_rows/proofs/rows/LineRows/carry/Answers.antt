use Rattle.line_rows.proofs.Names.{◌≡◌, sym, subst, HasRoomForLines, kept_in, rows_after}
use Rattle.line_rows.proofs.Carried.{carried_parts, carried_view, room_for_more}
use Rattle.line_rows.proofs.rows.LineRows.carry.Goals as goal

pub invariant_of-self : goal.invariant_of-self
invariant_of-self c = rw (c.carry_markers.ensures, c.carry.ensures, c.carry-2.ensures) (carried_parts c.args.edits.now _ _ _ c.self.invariant _ c.self.view_is)

pub returns-clause-room : goal.returns-clause-room
returns-clause-room c = λ count h.
    let edits = c.args.edits.now in
    let same : kept_in c.carry_markers.new.markers c.carry.new.self c.carry-2.new.self ≡ rows_after edits c.args.self.now
    = rw (c.carry_markers.ensures, c.carry.ensures, c.carry-2.ensures) (carried_view edits _ _ _ c.self.invariant _ c.self.view_is) in
    subst (HasRoomForLines count) (sym same) (room_for_more edits c.args.self.now count c.requires.lines h)
