use Rattle.decorations.proofs.Names.{◌+◌, ◌≤◌, IfSome, length, refl, arith, GaveAway}
use Rattle.decorations.proofs.SlotLists.{slot_reached, loop_done, done_more, same_more}
use Rattle.decorations.proofs.slots.delete_from_each.Goals as goal

pub delete_from-requires : goal.delete_from-requires
delete_from-requires g c =
    let i = c.loop-slot.slot-index in
    slot_reached (λ s. IfSome s (λ runs. c.args.place + c.args.count ≤ length runs.values)) c.args.slots.now.items c.deref_mut-slot-items.result.now c.loop-slot.slot-items i c.slot-item.result
    c.deref_mut-slot-items.ensures.value (omega arith) (c.loop-slot.invariant.same i (omega arith)) (c.requires i)

pub returns : goal.returns
returns g c =
    let each = loop_done (GaveAway c.args.place c.args.count) c.args.slots.now.items c.deref_mut-slot-items.result.now c.loop-slot.slot-items c.args.slots.now.len c.deref_mut-slot-items.ensures.value
    c.loop-slot.auto.slot-items (omega arith) refl (λ k h. c.loop-slot.invariant.done k (omega arith)) in
    (each.0, each.1, refl)

pub loop-slot-preserved : goal.loop-slot-preserved
loop-slot-preserved g c =
    let items = c.loop-slot.slot-items in
    let i = c.loop-slot.slot-index in
    let initial = c.deref_mut-slot-items.result.now in
    record {
      done = done_more (GaveAway c.args.place c.args.count) initial items i c.slot-item.result c.delete_from.new.slot (omega arith) (c.loop-slot.invariant.same i (omega arith)) c.delete_from.ensures c.loop-slot.invariant.done;
      same = same_more items initial i c.delete_from.new.slot c.loop-slot.invariant.same;
    }
