-- The capacity for runs, and the room in it.
use Rattle.decorations.proofs.Names.{◌≡◌, ◌≢◌, ℕ, zero, suc, ◌+◌, ◌<◌, ◌≤◌, List, [], ◌∷◌, length, replicate, Option, Some, None, IfSome, Result, Ok, Err, refl, ap, ◌∙◌, arith, nat_eq, inl, inr, cases_lt, get_or_past, Runs, RunCapacity, Fit, HasRoom, GrowsFor, run_count, capacity_at, values_of, no_runs, IsClear, HasRoomForRuns, HasRoomForFill, IsCapacityForRuns, IsCapacityForFill, HasRunsFrom, KeepsRuns, WereFilledFrom, Stored, seen, slot_at, slot_capacity, source_capacity, spare_left, shown, all_shown, IsKept, CanFill, CanFillAt, EachSlot, InBoth, InEach, HaveGrown, GrowsForFill, SlotFits, TookIn, GaveAway, WasFilled, CanTakeIn, append-nil, with_space}
use Rattle.decorations.proofs.Numbered.{numbered_at, numbered_same}
use Rattle.decorations.proofs.Shown.{shown_at}
use Rattle.decorations.proofs.SlotLists.{in_both}
use Rattle.decorations.proofs.Values.{zeros_clear}
use Rattle.vec_room.specs.Reserved.{IsReserved}

pub zeros_run : (n : ℕ) → run_count nat_eq (replicate n 0) ≡ 1
zeros_run zero = refl
zeros_run (suc zero) = refl
zeros_run (suc (suc n)) = zeros_run (suc n)

-- places that are inserted into a list without a place are 0
pub spare_values : (d size : ℕ) (values : List ℕ) → length values ≡ 0 → d ≡ 0 → with_space nat_eq d values 0 size ≡ replicate size 0
spare_values d size [] e z = append-nil (replicate size d) ∙ ap (replicate size) z
spare_values d size (x ∷ xs) e z = absurd (omega (arith, e))

-- the capacity of one indicator
pub capacity_is : (size : ℕ) (s : Stored) (k : ℕ) → k < 32 → capacity_at (seen size s).capacity k ≡ slot_capacity (slot_at s.slots k)
capacity_is size s k h = numbered_at (λ j. slot_capacity (slot_at s.slots j)) k no_runs h

-- the capacity is the same if that of each slot is
pub capacity_same : (size size' : ℕ) (old new : Stored) → ((k : ℕ) → slot_capacity (slot_at new.slots k) ≡ slot_capacity (slot_at old.slots k)) → new.most ≡ old.most → new.spare ≡ old.spare →
    (seen size' new).capacity ≡ (seen size old).capacity
capacity_same size size' old new each most spare =
    rw (numbered_same (λ k. slot_capacity (slot_at new.slots k)) (λ k. slot_capacity (slot_at old.slots k)) each, most, spare)

-- Room in each slot is room for the indicators that are not 0 everywhere.

used_room : (size count : ℕ) (slot : Option (Runs ℕ)) → IsKept size slot → ((IsClear (shown size slot) → ⊥) → Fit (run_count nat_eq (shown size slot) + count) (slot_capacity slot)) → SlotFits count slot
used_room size count None kept room = tt
used_room size count (Some runs) kept room = room kept.used

room_used : (size count : ℕ) (slot : Option (Runs ℕ)) → SlotFits count slot → (IsClear (shown size slot) → ⊥) → Fit (run_count nat_eq (shown size slot) + count) (slot_capacity slot)
room_used size count None room used = absurd (used (zeros_clear size))
room_used size count (Some runs) room used = room

pub room_each : (size count : ℕ) (s : Stored) → length s.slots ≤ 32 → ((k : ℕ) → IsKept size (slot_at s.slots k)) → HasRoomForRuns count (seen size s) → EachSlot (HasRoom nat_eq count) s.slots
room_each size count s few kept room k =
    elim (cases_lt k 32) [
      | inl inside ↦ used_room size count (slot_at s.slots k) (kept k) (rw (shown_at size s.slots k inside, capacity_is size s k inside) at (room k inside))
      | inr past ↦ let past' : length s.slots ≤ k = omega (arith, few, past) in rw (get_or_past s.slots k None past') tt
    ]

pub each_room : (size count : ℕ) (s : Stored) → EachSlot (HasRoom nat_eq count) s.slots → HasRoomForRuns count (seen size s)
each_room size count s room k inside = rw (shown_at size s.slots k inside, capacity_is size s k inside) (room_used size count (slot_at s.slots k) (room k))

-- Room was made.

-- what a call reserves of what is stored, it reserves of what a contract sees
pub reserved_by :
    {S S' T E : Type 0} (Fits : S → Type 0) (Fits' : S' → Type 0) (result : Result T E) (old new : S) (old' new' : S') → (Fits new → Fits' new') → (Fits' old' → Fits old) → (new ≡ old → new' ≡ old')
    → IsReserved Fits result old new → IsReserved Fits' result old' new'
reserved_by Fits Fits' (Ok t) old new old' new' there back same is = (there is.0, λ fits. let was = is.1 (back fits) in (was.0, same was.1))
reserved_by Fits Fits' (Err e) old new old' new' there back same is = (tt, λ fits. let was = is.1 (back fits) in (was.0, same was.1))

pub same_stored : (s t : Stored) → s.slots ≡ t.slots → s.most ≡ t.most → s.spare ≡ t.spare → s ≡ t
same_stored s t a b c =
    ap (λ (slots : List (Option (Runs ℕ))). record s { slots = slots }) a ∙ ap (λ (most : ℕ). record s { slots = t.slots; most = most }) b
    ∙ ap (λ (spare : RunCapacity). record t { spare = spare }) c

-- a capacity that has not changed is within the bound
capacity_stays : (wanted : ℕ) (c : RunCapacity) → GrowsFor wanted c c
capacity_stays wanted c = ((omega arith, omega arith), record { starts = omega arith; values = omega arith; starts_there = λ _. refl; values_there = λ _. refl })

pub grown_none : (count : ℕ) (slot : Option (Runs ℕ)) → InBoth (HaveGrown count) slot slot
grown_none count None = refl
grown_none count (Some runs) = (refl, capacity_stays (run_count nat_eq runs.values + count) runs.capacity)

-- room was made in some slots, from the first on
pub grown_so_far : (count n : ℕ) (old new : List (Option (Runs ℕ))) → ((k : ℕ) → k < n → InBoth (HaveGrown count) (slot_at old k) (slot_at new k)) → ((k : ℕ) → n ≤ k → slot_at new k ≡ slot_at old k) →
    InEach (InBoth (HaveGrown count)) old new
grown_so_far count n old new done same k =
    elim (cases_lt k n) [
      | inl before ↦ done k before
      | inr behind ↦ rw (same k behind) (grown_none count (slot_at old k))
    ]

grown_in : (size count : ℕ) (old new : Option (Runs ℕ)) → InBoth (HaveGrown count) old new → GrowsFor (run_count nat_eq (shown size old) + count) (slot_capacity old) (slot_capacity new)
grown_in size count =
    in_both (HaveGrown count) (λ o n. GrowsFor (run_count nat_eq (shown size o) + count) (slot_capacity o) (slot_capacity n)) (capacity_stays (run_count nat_eq (shown size None) + count) no_runs) (λ o n grown. grown.1)

grown_at : (size count k : ℕ) (old new : Stored) → k < 32 → InEach (InBoth (HaveGrown count)) old.slots new.slots →
    GrowsFor (run_count nat_eq (values_of (all_shown size old.slots) k) + count) (capacity_at (seen size old).capacity k) (capacity_at (seen size new).capacity k)
grown_at size count k old new h grown =
    rw (shown_at size old.slots k h, capacity_is size old k h, capacity_is size new k h) (grown_in size count (slot_at old.slots k) (slot_at new.slots k) (grown k))

pub grown_runs : (size count : ℕ) (old new : Stored) → InEach (InBoth (HaveGrown count)) old.slots new.slots → new.spare ≡ old.spare → new.most ≡ old.most →
    IsCapacityForRuns count (seen size old) (seen size new).capacity
grown_runs size count old new grown spare most = record {
  runs = λ k h. (grown_at size count k old new h grown).1;
  kept = λ k h. (grown_at size count k old new h grown).0;
  spare = spare;
  slots = most;
}

-- the runs of an indicator that is not 0 everywhere leave the spare ones unchanged
spare_stays : (size : ℕ) (slot : Option (Runs ℕ)) (spare spare' : RunCapacity) → IfSome slot (λ _. spare' ≡ spare) → (IsClear (shown size slot) → ⊥) → spare' ≡ spare
spare_stays size None spare spare' stays used = absurd (used (zeros_clear size))
spare_stays size (Some runs) spare spare' stays used = stays

-- all slots but one are unchanged
same_elsewhere : (size indicator : ℕ) (old new : Stored) → ((k : ℕ) → k ≢ indicator → slot_at new.slots k ≡ slot_at old.slots k) →
    (k : ℕ) → k < 32 → k ≢ indicator → capacity_at (seen size new).capacity k ≡ capacity_at (seen size old).capacity k
same_elsewhere size indicator old new others k h apart = rw (capacity_is size new k h, capacity_is size old k h) (ap slot_capacity (others k apart))

pub grown_for_fill : (size indicator : ℕ) (old new : Stored) → indicator < 32 → GrowsForFill indicator old new → IsCapacityForFill indicator (seen size old) (seen size new).capacity
grown_for_fill size indicator old new h grown = record {
  others = same_elsewhere size indicator old new grown.others;
  runs = (grown_at size 2 indicator old new h grown.runs).1;
  kept = (grown_at size 2 indicator old new h grown.runs).0;
  spare = grown.spare.0.1;
  spare_kept = grown.spare.0.0;
  spare_stays = rw (shown_at size old.slots indicator h) (spare_stays size (slot_at old.slots indicator) old.spare new.spare grown.spare.1);
  slots = grown.most;
  slots_kept = grown.kept;
  slots_there = grown.there;
}

-- What a fill requires.

fill_in : (size indicator most : ℕ) (slot : Option (Runs ℕ)) (spare : RunCapacity) → IsKept size slot → (IfSome slot (λ _. indicator < most)) →
    ((IsClear (shown size slot) → ⊥) → Fit (run_count nat_eq (shown size slot) + 2) (slot_capacity slot)) → (IsClear (shown size slot) → (indicator < most) × Fit 3 spare) → (indicator < most) × CanFill slot spare
fill_in size indicator most None spare kept there used clear = clear (zeros_clear size)
fill_in size indicator most (Some runs) spare kept there used clear = (there, used kept.used)

always : (P : Type 0) (slot : Option (Runs ℕ)) → P → IfSome slot (λ _. P)
always P None p = tt
always P (Some runs) p = p

-- a slot with runs is one of the slots
there_if_some : (indicator most : ℕ) (slots : List (Option (Runs ℕ))) → length slots ≤ most → IfSome (slot_at slots indicator) (λ _. indicator < most)
there_if_some indicator most slots h =
    elim (cases_lt indicator (length slots)) [
      | inl inside ↦ always (indicator < most) (slot_at slots indicator) (omega arith)
      | inr past ↦ rw (get_or_past slots indicator None past) tt
    ]

pub can_fill : (size indicator : ℕ) (s : Stored) → indicator < 32 → length s.slots ≤ s.most → IsKept size (slot_at s.slots indicator) → HasRoomForFill indicator (seen size s) → CanFillAt indicator s
can_fill size indicator s h few kept room =
    fill_in size indicator s.most (slot_at s.slots indicator) s.spare kept (there_if_some indicator s.most s.slots few)
    (rw (shown_at size s.slots indicator h, capacity_is size s indicator h) at room.used) (rw (shown_at size s.slots indicator h) at room.clear)

room_fill : (size : ℕ) (slot : Option (Runs ℕ)) (spare : RunCapacity) → IsKept size slot → CanFill slot spare →
    ((IsClear (shown size slot) → ⊥) → Fit (run_count nat_eq (shown size slot) + 2) (slot_capacity slot)) × (IsClear (shown size slot) → Fit 3 spare)
room_fill size None spare kept can = (λ used. absurd (used (zeros_clear size)), λ clear. can)
room_fill size (Some runs) spare kept can = (λ used. can, λ clear. absurd (kept.used clear))

pub room_for_fill : (size indicator : ℕ) (s : Stored) → indicator < 32 → IsKept size (slot_at s.slots indicator) → CanFillAt indicator s → HasRoomForFill indicator (seen size s)
room_for_fill size indicator s h kept can =
    let room = room_fill size (slot_at s.slots indicator) s.spare kept can.1 in
    record {
      used = rw (shown_at size s.slots indicator h, capacity_is size s indicator h) room.0;
      clear = rw (shown_at size s.slots indicator h) (λ clear. (can.0, room.1 clear));
    }

-- Places were inserted or deleted.

pub can_take : (greatest size place count : ℕ) (slot : Option (Runs ℕ)) → place ≤ size → size + count ≤ greatest → IsKept size slot → SlotFits 3 slot → IfSome slot (CanTakeIn greatest place count)
can_take greatest size place count None within fits kept room = tt
can_take greatest size place count (Some runs) within fits kept room = record {
  within = omega (arith, kept.sized);
  fits = omega (arith, kept.sized);
  room = (omega (arith, room.0), omega (arith, room.1));
}

pub took_capacity : (place count : ℕ) (old new : Option (Runs ℕ)) → InBoth (TookIn place count) old new → slot_capacity new ≡ slot_capacity old
took_capacity place count = in_both (TookIn place count) (λ o n. slot_capacity n ≡ slot_capacity o) refl (λ o n took. ap (λ (r : Runs ℕ). r.capacity) took.0)

-- what fitted in fits in still, if the capacity has not changed
still_fits : (count count' : ℕ) (old new : RunCapacity) → new ≡ old → count' ≤ count → Fit count old → Fit count' new
still_fits count count' old new same less fit = rw same (omega (arith, fit.0), omega (arith, fit.1))

pub took_room : (place count n : ℕ) (old new : Option (Runs ℕ)) → InBoth (TookIn place count) old new → SlotFits (n + 1 + 2) old → SlotFits (n + 2) new
took_room place count n = in_both (TookIn place count) (λ o n'. SlotFits (n + 1 + 2) o → SlotFits (n + 2) n') (λ _. tt) (λ o n' took room. still_fits _ _ o.capacity n'.capacity (ap (λ (r : Runs ℕ). r.capacity) took.0) (omega (arith, took.1)) room)

pub gave_room : (place count n : ℕ) (old new : Option (Runs ℕ)) → GaveAway place count old new → SlotFits n old → SlotFits n new
gave_room place count n None None gave room = tt
gave_room place count n None (Some new) gave room = cc
gave_room place count n (Some old) None gave room = tt
gave_room place count n (Some old) (Some new) gave room = still_fits _ _ old.capacity new.capacity (ap (λ (r : Runs ℕ). r.capacity) gave.0) (omega (arith, gave.1)) room

-- the capacity of a slot, afterwards
pub record SlotHasRuns (size : ℕ) (was : RunCapacity) (new : Option (Runs ℕ)) : Type 0 where
  pub used : (IsClear (shown size new) → ⊥) → slot_capacity new ≡ was
  pub clear : IsClear (shown size new) → slot_capacity new ≡ no_runs

gone_runs : (size : ℕ) (was : RunCapacity) → SlotHasRuns size was None
gone_runs size was = record { used = λ used. absurd (used (zeros_clear size)); clear = λ _. refl }

pub gave_runs : (size place count : ℕ) (old new : Option (Runs ℕ)) → GaveAway place count old new → SlotHasRuns size (slot_capacity old) new
gave_runs size place count None None gave = gone_runs size no_runs
gave_runs size place count None (Some new) gave = cc
gave_runs size place count (Some old) None gave = gone_runs size old.capacity
gave_runs size place count (Some old) (Some new) gave = record { used = λ _. ap (λ (r : Runs ℕ). r.capacity) gave.0; clear = λ clear. absurd (gave.2 clear) }

pub took_runs : (size place count : ℕ) (old new : Option (Runs ℕ)) → InBoth (TookIn place count) old new → IsKept size new → SlotHasRuns size (slot_capacity old) new
took_runs size place count = in_both (TookIn place count) (λ o n. IsKept size n → SlotHasRuns size (slot_capacity o) n) (λ _. gone_runs size no_runs)
    (λ o n took kept. record { used = λ _. ap (λ (r : Runs ℕ). r.capacity) took.0; clear = λ clear. absurd (kept.used clear) })

pub filled_capacity : (size : ℕ) (was : RunCapacity) (values : List ℕ) (new : Option (Runs ℕ)) → WasFilled values new → IfSome new (λ (runs : Runs ℕ). runs.capacity ≡ was) → SlotHasRuns size was new
filled_capacity size was values None filled capacity = gone_runs size was
filled_capacity size was values (Some new) filled capacity = record {
  used = λ _. capacity;
  clear = λ clear. absurd (filled.2 (rw filled.0 at clear));
}

-- that of an indicator, afterwards
has_runs : (k size : ℕ) (new : Stored) (was : RunCapacity) → k < 32 → SlotHasRuns size was (slot_at new.slots k) → HasRunsFrom was k (seen size new)
has_runs k size new was h has =
    record { used = rw (shown_at size new.slots k h, capacity_is size new k h) has.used; clear = rw (shown_at size new.slots k h, capacity_is size new k h) has.clear }

pub runs_kept : (size size' : ℕ) (old new : Stored) → ((k : ℕ) → SlotHasRuns size' (slot_capacity (slot_at old.slots k)) (slot_at new.slots k)) → new.spare ≡ old.spare → new.most ≡ old.most →
    KeepsRuns (seen size old) (seen size' new)
runs_kept size size' old new has spare most = record {
  runs = λ k h. rw (capacity_is size old k h) (has_runs k size' new (slot_capacity (slot_at old.slots k)) h (has k));
  spare = spare;
  slots = most;
}

-- where the runs of a fill come from
own_source : (size : ℕ) (slot : Option (Runs ℕ)) (spare : RunCapacity) → (IsClear (shown size slot) → ⊥) → (source_capacity slot spare ≡ slot_capacity slot) × (spare_left slot spare ≡ spare)
own_source size None spare used = absurd (used (zeros_clear size))
own_source size (Some runs) spare used = (refl, refl)

first_source : (size : ℕ) (slot : Option (Runs ℕ)) (spare : RunCapacity) → IsKept size slot → IsClear (shown size slot) → (source_capacity slot spare ≡ spare) × (spare_left slot spare ≡ no_runs)
first_source size None spare kept clear = (refl, refl)
first_source size (Some runs) spare kept clear = absurd (kept.used clear)

-- `new` has the filled slot
pub filled_runs : (size indicator : ℕ) (old new : Stored) → indicator < 32 → IsKept size (slot_at old.slots indicator) → ((k : ℕ) → k ≢ indicator → slot_at new.slots k ≡ slot_at old.slots k) →
    SlotHasRuns size (source_capacity (slot_at old.slots indicator) old.spare) (slot_at new.slots indicator) → new.spare ≡ spare_left (slot_at old.slots indicator) old.spare → new.most ≡ old.most →
    WereFilledFrom indicator (seen size old) (seen size new)
filled_runs size indicator old new h kept others has left most =
    let from = has_runs indicator size new (source_capacity (slot_at old.slots indicator) old.spare) h has in
    record {
      others = same_elsewhere size indicator old new others;
      again = rw (shown_at size old.slots indicator h, capacity_is size old indicator h)
          (λ used. let own = own_source size (slot_at old.slots indicator) old.spare used in (rw own.0 at from, left ∙ own.1));
      first = rw (shown_at size old.slots indicator h)
          (λ clear. let first = first_source size (slot_at old.slots indicator) old.spare kept clear in (rw first.0 at from, left ∙ first.1));
      slots = most;
    }
