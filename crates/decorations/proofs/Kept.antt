-- The slots stay sound through the steps.
use Rattle.decorations.proofs.Names.{◌≡◌, ◌≢◌, ℕ, ◌+◌, ◌-◌, ◌<◌, ◌≤◌, List, length, set, replicate, Option, Some, None, refl, sym, ap, ◌∙◌, arith, inl, inr, get_or-set_same, get_or-set_other, length-set, cases_eq, indicator_after, indicators_after, Insert, Delete, decorated, Runs, Stored, seen, slot_at, shown, all_shown, AreKept, IsKept, AreSlots, InBoth, InEach, HaveGrown, TookIn, GaveAway, WasFilled}
use Rattle.decorations.proofs.Numbered.{numbered_both, numbered_same, numbered_set}
use Rattle.decorations.proofs.SlotLists.{in_both}
use Rattle.decorations.proofs.Values.{took_kept, took_shown, gave_shown, clear_zeros}

-- Room was made.

grown_keeps : (count size : ℕ) (old new : Runs ℕ) → HaveGrown count old new → AreKept size old → AreKept size new
grown_keeps count size old new grown kept = record {
  sized = ap (λ (r : Runs ℕ). length r.values) grown.0 ∙ kept.sized;
  default = ap (λ (r : Runs ℕ). r.default) grown.0 ∙ kept.default;
  used = rw (ap (λ (r : Runs ℕ). r.values) grown.0) kept.used;
}

grown_shown : (count size : ℕ) (old new : List (Option (Runs ℕ))) → InEach (InBoth (HaveGrown count)) old new → all_shown size new ≡ all_shown size old
grown_shown count size old new grown =
    numbered_same (λ k. shown size (slot_at new k)) (λ k. shown size (slot_at old k))
    (λ k. in_both (HaveGrown count) (λ o n. shown size n ≡ shown size o) refl (λ o n is. ap (λ (r : Runs ℕ). r.values) is.0) (slot_at old k) (slot_at new k) (grown k))

pub grown_seen : (count size : ℕ) (old new : Stored) → InEach (InBoth (HaveGrown count)) old.slots new.slots → seen size new ≡ record (seen size old) { capacity = (seen size new).capacity }
grown_seen count size old new grown = ap (λ values. decorated size values (seen size new).capacity) (grown_shown count size old.slots new.slots grown)

pub grown_slots : (count greatest size : ℕ) (old new : List (Option (Runs ℕ))) → AreSlots greatest size old → InEach (InBoth (HaveGrown count)) old new → length new ≡ length old → AreSlots greatest size new
grown_slots count greatest size old new slots grown same = record {
  fits = slots.fits;
  few = omega (arith, slots.few, same);
  kept = λ k. in_both (HaveGrown count) (λ o n. IsKept size o → IsKept size n) (λ none. none) (grown_keeps count size) (slot_at old k) (slot_at new k) (grown k) (slots.kept k);
}

-- Places were inserted.

pub took_slots : (greatest size place count : ℕ) (old new : List (Option (Runs ℕ))) → AreSlots greatest size old → place ≤ size → size + count ≤ greatest →
    InEach (InBoth (TookIn place count)) old new → length new ≡ length old → AreSlots greatest (size + count) new
took_slots greatest size place count old new are h fits took e = record {
  fits = fits;
  few = omega (arith, are.few);
  kept = λ k. in_both (TookIn place count) (λ o n. IsKept size o → IsKept (size + count) n) (λ none. none) (λ o n took kept. took_kept size place count o n h kept took) (slot_at old k) (slot_at new k) (took k) (are.kept k);
}

pub took_all : (size place count : ℕ) (bytes : List ℕ) (old new : List (Option (Runs ℕ))) → place ≤ size → length bytes ≡ count → ((k : ℕ) → IsKept size (slot_at old k)) → InEach (InBoth (TookIn place count)) old new →
    all_shown (size + count) new ≡ indicators_after (Insert place bytes) (all_shown size old)
took_all size place count bytes old new h e kept took =
    numbered_both (indicator_after (Insert place bytes)) (λ k. shown size (slot_at old k)) (λ k. shown (size + count) (slot_at new k)) (λ k. took_shown size place count bytes (slot_at old k) (slot_at new k) h e (kept k) (took k))

-- Places were deleted.

pub gave_all : (size place count : ℕ) (bytes : List ℕ) (old new : List (Option (Runs ℕ))) → place + count ≤ size → length bytes ≡ count → ((k : ℕ) → IsKept size (slot_at old k)) → InEach (GaveAway place count) old new →
    all_shown (size - count) new ≡ indicators_after (Delete place bytes) (all_shown size old)
gave_all size place count bytes old new h e kept gave =
    numbered_both (indicator_after (Delete place bytes)) (λ k. shown size (slot_at old k)) (λ k. shown (size - count) (slot_at new k)) (λ k. gave_shown size place count bytes (slot_at old k) (slot_at new k) h e (kept k) (gave k))

-- An indicator was filled.

filled_kept : (size : ℕ) (values : List ℕ) (slot : Option (Runs ℕ)) → length values ≡ size → WasFilled values slot → IsKept size slot
filled_kept size values None e was = tt
filled_kept size values (Some runs) e was = record { sized = ap length was.0 ∙ e; default = was.1; used = rw was.0 was.2 }

filled_shown : (size : ℕ) (values : List ℕ) (slot : Option (Runs ℕ)) → length values ≡ size → WasFilled values slot → shown size slot ≡ values
filled_shown size values None e was = sym (clear_zeros values was ∙ ap (λ n. replicate n 0) e)
filled_shown size values (Some runs) e was = was.0

-- empty slots were added before
module _ (size indicator : ℕ) (values : List ℕ) (old slots : List (Option (Runs ℕ))) (slot : Option (Runs ℕ)) (same : (k : ℕ) → slot_at slots k ≡ slot_at old k) (inside : indicator < length slots)
    (full : length values ≡ size) (was : WasFilled values slot) where
  here : slot_at (set slots indicator slot) indicator ≡ slot
  here = get_or-set_same slots indicator slot None inside

  pub elsewhere : (k : ℕ) → k ≢ indicator → slot_at (set slots indicator slot) k ≡ slot_at old k
  elsewhere k apart = get_or-set_other slots indicator k slot None apart ∙ same k

  pub filled_slots : (greatest : ℕ) → AreSlots greatest size old → length slots ≤ 32 → AreSlots greatest size (set slots indicator slot)
  filled_slots greatest are few = record {
    fits = are.fits;
    few = omega (arith, few, length-set slots indicator slot);
    kept = λ k.
        elim (cases_eq k indicator) [
          | inl at ↦ rw (at, here) (filled_kept size values slot full was)
          | inr apart ↦ rw (elsewhere k apart) (are.kept k)
        ];
  }

  pub filled_all : indicator < 32 → all_shown size (set slots indicator slot) ≡ set (all_shown size old) indicator values
  filled_all h =
      numbered_set (λ k. shown size (slot_at old k)) (λ k. shown size (slot_at (set slots indicator slot) k)) indicator h (λ k apart. ap (shown size) (elsewhere k apart))
      ∙ ap (set (all_shown size old) indicator) (ap (shown size) here ∙ filled_shown size values slot full was)
