use Rattle.decorations.proofs.Names.{◌≡◌, ℕ, ◌+◌, ◌<◌, ◌≤◌, nat_eq, HasRoom, slot_at, EachSlot, SlotFits, InBoth, HaveGrown}
use Rattle.decorations.proofs.slots.reserve_runs.Given as goal

-- the slots before this one have the room, and the others are unchanged; all are if the room was there
abbrev pub invariant-loop-slot : goal.invariant-loop-slot
invariant-loop-slot g l = record {
  room : (k : ℕ) → k < l.slot-index → SlotFits (l.insertions + 2) (slot_at l.slot-items k);
  done : (k : ℕ) → k < l.slot-index → InBoth (HaveGrown (l.insertions + 2)) (slot_at l.initial.slot-items k) (slot_at l.slot-items k);
  same : (k : ℕ) → l.slot-index ≤ k → slot_at l.slot-items k ≡ slot_at l.initial.slot-items k;
  kept : EachSlot (HasRoom nat_eq (l.insertions + 2)) l.initial.slot-items → l.slot-items ≡ l.initial.slot-items;
}
