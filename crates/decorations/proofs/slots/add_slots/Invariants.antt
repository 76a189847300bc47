use Rattle.decorations.proofs.Names.{◌≡◌, ◌<◌, ◌≤◌, ◌-◌, ℕ, length, vec_capacity, slot_at}
use Rattle.decorations.proofs.slots.add_slots.Given as goal

abbrev pub invariant-loop-slots : goal.invariant-loop-slots
invariant-loop-slots g l = record {
  same : (k : ℕ) → slot_at l.slots.items k ≡ slot_at l.initial.slots.items k;
  few : (most : ℕ) → length l.initial.slots.items ≤ most → l.count ≤ most → length l.slots.items ≤ most;
  fits : length l.slots.items < l.count → l.count ≤ vec_capacity l.slots;
  capacity : vec_capacity l.slots ≡ vec_capacity l.initial.slots;
}

abbrev pub decreases-loop-slots : goal.decreases-loop-slots
decreases-loop-slots g l = l.count - length l.slots.items
