use Rattle.decorations.proofs.Names.{◌≡◌, ℕ, ◌+◌, ◌<◌, List, Option, length, set, subst, sym, ap, ◌∙◌, refl, arith, length-set, set-get_or, Runs, HasRoom, nat_eq, slot_at, EachSlot, SlotFits, InBoth, HaveGrown, rules}
use Rattle.decorations.proofs.SlotLists.{looped, loop_done, slot_reached, done_more, same_more}
use Rattle.decorations.proofs.Memory.{grown_so_far}
use Rattle.decorations.proofs.slots.reserve_runs.Goals as goal

pub loop-slot-preserved : goal.loop-slot-preserved
loop-slot-preserved g c =
    let items = c.loop-slot.slot-items in
    let i = c.loop-slot.slot-index in
    let initial = c.deref_mut-slot-items.result.now in
    let new = c.reserve_in.new.slot in
    let count = c.args.insertions + 2 in
    let kept = c.loop-slot.invariant in
    let inside : i < length items = omega arith in
    let same : slot_at items i ≡ slot_at initial i = kept.same i (omega arith) in
    record {
      room = done_more (λ old now. SlotFits count now) initial items i c.slot-item.result new inside same c.in_ok-reserve_in.ensures.reserved.0 kept.room;
      done = done_more (InBoth (HaveGrown count)) initial items i c.slot-item.result new inside same c.in_ok-reserve_in.ensures.grown kept.done;
      same = same_more items initial i new kept.same;
      kept = λ enough.
          ap (set items i) (c.in_ok-reserve_in.ensures.reserved.1 (slot_reached (SlotFits count) initial initial items i c.slot-item.result refl inside same (enough i))).1
          ∙ set-get_or items i c.slot-item.result ∙ kept.kept enough;
    }

pub returns-in_err-reserve_in-clause-reserved : goal.returns-in_err-reserve_in-clause-reserved
returns-in_err-reserve_in-clause-reserved g c =
    let i = c.loop-slot.slot-index in (
      search rules,
      λ enough.
          let room = slot_reached (SlotFits (c.args.insertions + 2)) c.args.slots.now.items c.deref_mut-slot-items.result.now c.loop-slot.slot-items i c.slot-item.result c.deref_mut-slot-items.ensures.value
          (omega arith) (c.loop-slot.invariant.same i (omega arith)) (enough i) in
          let refused = (c.in_err-reserve_in.ensures.reserved.1 room).0 in
          absurd (cc),
    )

pub returns-in_err-reserve_in-clause-grown : goal.returns-in_err-reserve_in-clause-grown
returns-in_err-reserve_in-clause-grown g c =
    let items = c.loop-slot.slot-items in
    let i = c.loop-slot.slot-index in
    let initial = c.deref_mut-slot-items.result.now in
    let new = c.reserve_in.new.slot in
    let R : Option (Runs ℕ) → Option (Runs ℕ) → Type 0 = InBoth (HaveGrown (c.args.insertions + 2)) in
    let all = grown_so_far (c.args.insertions + 2) (i + 1) initial (set items i new)
    (done_more R initial items i c.slot-item.result new (omega arith) (c.loop-slot.invariant.same i (omega arith)) c.in_err-reserve_in.ensures.grown c.loop-slot.invariant.done)
    (same_more items initial i new c.loop-slot.invariant.same) in
    let each = loop_done R c.args.slots.now.items initial (set items i new) c.args.slots.now.len c.deref_mut-slot-items.ensures.value (length-set items i new ∙ c.loop-slot.auto.slot-items) (omega arith) refl (λ k h. all k) in
    (each.0, each.1, refl)

pub returns-clause-reserved : goal.returns-clause-reserved
returns-clause-reserved g c =
    let items = c.loop-slot.slot-items in
    let old = c.args.slots.now.items in
    let value = c.deref_mut-slot-items.ensures.value in
    let P : Option (Runs ℕ) → Option (Runs ℕ) → Type 0 = λ before now. SlotFits (c.args.insertions + 2) now in
    let E : List (Option (Runs ℕ)) → Type 0 = EachSlot (HasRoom nat_eq (c.args.insertions + 2)) in
    let each = loop_done P old c.deref_mut-slot-items.result.now items c.args.slots.now.len value c.loop-slot.auto.slot-items (omega arith) tt (λ k h. c.loop-slot.invariant.room k (omega arith)) in (
      each.0,
      λ enough. (
        refl,
        looped items old c.args.slots.now.len (c.loop-slot.auto.slot-items ∙ ap length value) (omega arith) ∙ c.loop-slot.invariant.kept (subst E (sym value) enough) ∙ value,
      ),
    )

pub returns-clause-grown : goal.returns-clause-grown
returns-clause-grown g c =
    let each = loop_done (InBoth (HaveGrown (c.args.insertions + 2))) c.args.slots.now.items c.deref_mut-slot-items.result.now c.loop-slot.slot-items c.args.slots.now.len
    c.deref_mut-slot-items.ensures.value c.loop-slot.auto.slot-items (omega arith) refl (λ k h. c.loop-slot.invariant.done k (omega arith)) in
    (each.0, each.1, refl)
