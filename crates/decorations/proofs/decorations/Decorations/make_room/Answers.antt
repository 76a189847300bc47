use Rattle.decorations.proofs.Names.{◌+◌, refl, ap, nat_eq, HasRoom, HasRoomForInsertions, EachSlot, stored, seen}
use Rattle.decorations.proofs.Kept.{grown_slots, grown_seen}
use Rattle.decorations.proofs.Memory.{room_each, each_room, grown_runs, reserved_by, same_stored}
use Rattle.decorations.proofs.decorations.Decorations.make_room.Goals as goal

pub invariant_of-self : goal.invariant_of-self
invariant_of-self g c =
    let made = c.reserve_runs.ensures.grown in
    grown_slots (c.args.insertions + 2) g.P.Place.GREATEST c.self.inside.size c.self.inside.slots.items c.reserve_runs.new.slots.items c.self.invariant made.0 made.1

pub returns-clause-reserved : goal.returns-clause-reserved
returns-clause-reserved g c =
    let d = c.self.inside in
    let old = stored d.slots d.spare in
    let new = stored c.reserve_runs.new.slots d.spare in
    let count = c.args.insertions + 2 in
    rw (← c.self.view_is)
    (reserved_by (EachSlot (HasRoom nat_eq count)) (HasRoomForInsertions c.args.insertions) c.reserve_runs.result old.slots new.slots (seen d.size old) (seen d.size new) (each_room d.size count new)
    (room_each d.size count old c.self.invariant.few c.self.invariant.kept) (λ same. ap (seen d.size) (same_stored new old same c.reserve_runs.ensures.grown.2 refl)) c.reserve_runs.ensures.reserved)

pub returns-clause-grown : goal.returns-clause-grown
returns-clause-grown g c =
    let d = c.self.inside in
    let old = stored d.slots d.spare in
    let new = stored c.reserve_runs.new.slots d.spare in
    let made = c.reserve_runs.ensures.grown in
    rw (← c.self.view_is) (grown_seen (c.args.insertions + 2) d.size old new made.0, grown_runs d.size (c.args.insertions + 2) old new made.0 refl made.2)
