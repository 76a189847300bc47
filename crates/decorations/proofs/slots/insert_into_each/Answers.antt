use Rattle.decorations.proofs.Names.{IfSome, refl, arith, InBoth, TookIn, CanTakeIn}
use Rattle.decorations.proofs.SlotLists.{slot_reached, loop_done}
use Rattle.decorations.proofs.slots.insert_into_each.Goals as goal

pub insert_into-requires : goal.insert_into-requires
insert_into-requires g c =
    let i = c.loop-slot.slot-index in
    slot_reached (λ s. IfSome s (CanTakeIn g.P.Place.GREATEST c.args.place c.args.count)) c.args.slots.now.items c.deref_mut-slot-items.result.now c.loop-slot.slot-items i c.slot-item.result
    c.deref_mut-slot-items.ensures.value (omega arith) (c.loop-slot.invariant.same i (omega arith)) (c.requires i)

pub returns : goal.returns
returns g c =
    let each = loop_done (InBoth (TookIn c.args.place c.args.count)) c.args.slots.now.items c.deref_mut-slot-items.result.now c.loop-slot.slot-items c.args.slots.now.len c.deref_mut-slot-items.ensures.value
    c.loop-slot.auto.slot-items (omega arith) refl (λ k h. c.loop-slot.invariant.done k (omega arith)) in
    (each.0, each.1, refl)
