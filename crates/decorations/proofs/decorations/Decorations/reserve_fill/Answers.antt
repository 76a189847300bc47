use Rattle.decorations.proofs.Names.{ap, arith, HasRoomForFill, CanFillAt, stored, seen}
use Rattle.decorations.proofs.Kept.{grown_slots, grown_seen}
use Rattle.decorations.proofs.Memory.{can_fill, room_for_fill, grown_for_fill, reserved_by}
use Rattle.decorations.proofs.decorations.Decorations.reserve_fill.Goals as goal

pub invariant_of-self : goal.invariant_of-self
invariant_of-self g c =
    let made = c.reserve_one.ensures.grown in
    grown_slots 2 g.P.Place.GREATEST c.self.inside.size c.self.inside.slots.items c.reserve_one.new.slots.items c.self.invariant made.runs made.count

pub returns-clause-reserved : goal.returns-clause-reserved
returns-clause-reserved g c =
    let d = c.self.inside in
    let i = c.args.indicator in
    let old = stored d.slots d.spare in
    let new = stored c.reserve_one.new.slots c.reserve_one.new.spare in
    let made = c.reserve_one.ensures.grown in
    let are = grown_slots 2 g.P.Place.GREATEST d.size old.slots new.slots c.self.invariant made.runs made.count in
    rw (← c.self.view_is)
    (reserved_by (CanFillAt i) (HasRoomForFill i) c.reserve_one.result old new (seen d.size old) (seen d.size new) (room_for_fill d.size i new c.requires (are.kept i))
    (can_fill d.size i old c.requires (omega (arith, d.slots.ok.0, d.slots.ok.1)) (c.self.invariant.kept i)) (ap (seen d.size)) c.reserve_one.ensures.reserved)

pub returns-clause-grown : goal.returns-clause-grown
returns-clause-grown g c =
    let d = c.self.inside in
    let old = stored d.slots d.spare in
    let new = stored c.reserve_one.new.slots c.reserve_one.new.spare in
    let made = c.reserve_one.ensures.grown in
    rw (← c.self.view_is) (grown_seen 2 d.size old new made.runs, grown_for_fill d.size c.args.indicator old new c.requires made)
