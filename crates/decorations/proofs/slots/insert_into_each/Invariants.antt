use Rattle.decorations.proofs.Names.{◌≡◌, ℕ, ◌<◌, ◌≤◌, slot_at, InBoth, TookIn}
use Rattle.decorations.proofs.slots.insert_into_each.Given as goal

-- the slots before this one are done, and the others unchanged
abbrev pub invariant-loop-slot : goal.invariant-loop-slot
invariant-loop-slot g l = record {
  done : (k : ℕ) → k < l.slot-index → InBoth (TookIn l.place l.count) (slot_at l.initial.slot-items k) (slot_at l.slot-items k);
  same : (k : ℕ) → l.slot-index ≤ k → slot_at l.slot-items k ≡ slot_at l.initial.slot-items k;
}
