-- How the lists are stored: a slot for each indicator, up to the last that ever had a value, with its runs if it has any.
use Rattle.std.specs.Prelude.{ℕ, ◌≡◌, ◌≢◌, ◌+◌, ◌*◌, ◌<◌, ◌≤◌, max, nat_eq, List, length, map, replicate, slice_index_or, Option, Some, None, IfSome, MatchOption, Vec, vec_capacity}
use Rattle.run_styles.specs.Runs.{Runs, RunCapacity, Fit, GrowsFor, HasRoom, run_count, deleted, with_space}
use Rattle.decorations.specs.Decorated.{Decorated, decorated, no_runs, indicators, IsClear}

abbrev pub slot_at : List (Option (Runs ℕ)) → ℕ → Option (Runs ℕ)
slot_at slots k = slice_index_or slots k None

-- the values of an indicator in a text of the length
abbrev pub shown : ℕ → Option (Runs ℕ) → List ℕ
shown size None = replicate size 0
shown size (Some runs) = runs.values

abbrev pub all_shown : ℕ → List (Option (Runs ℕ)) → List (List ℕ)
all_shown size slots = map (λ k. shown size (slot_at slots k)) indicators

-- how many runs fit in a slot
abbrev pub slot_capacity : Option (Runs ℕ) → RunCapacity
slot_capacity None = no_runs
slot_capacity (Some runs) = runs.capacity

-- what is stored: the slots, how many slots fit in without an allocation, and how many runs fit in the spare ones
pub record Stored : Type 0 where
  pub slots : List (Option (Runs ℕ))
  pub most : ℕ
  pub spare : RunCapacity

abbrev pub stored : {A : Type 0} → Vec (Option (Runs ℕ)) A → RunCapacity → Stored
stored slots spare = record { slots = slots.items; most = vec_capacity slots; spare = spare }

-- what a contract sees of it, in a text of the length
abbrev pub seen : ℕ → Stored → Decorated
seen size s =
    decorated size (all_shown size s.slots) record { runs = map (λ k. slot_capacity (slot_at s.slots k)) indicators; spare = s.spare; slots = s.most }

-- Runs in a slot have a value other than 0 somewhere.
pub record AreKept (size : ℕ) (runs : Runs ℕ) : Type 0 where
  pub sized : length runs.values ≡ size
  pub default : runs.default ≡ 0
  pub used : IsClear runs.values → ⊥

abbrev pub IsKept : ℕ → Option (Runs ℕ) → Type 0
IsKept size slot = IfSome slot (AreKept size)

-- runs without a place, which an indicator gets by its first fill
pub record AreSpare (runs : Runs ℕ) : Type 0 where
  pub empty : length runs.values ≡ 0
  pub default : runs.default ≡ 0

-- the statement holds of the runs in each slot that has runs
abbrev pub EachSlot : (Runs ℕ → Type 0) → List (Option (Runs ℕ)) → Type 0
EachSlot P slots = (k : ℕ) → IfSome (slot_at slots k) P

-- so many more runs fit in the slot, if it has runs
abbrev pub SlotFits : ℕ → Option (Runs ℕ) → Type 0
SlotFits count slot = IfSome slot (HasRoom nat_eq count)

-- two more runs fit in the slot, or three runs in the spare ones if it has none
abbrev pub CanFill : Option (Runs ℕ) → RunCapacity → Type 0
CanFill slot spare = MatchOption slot (Fit 3 spare) (HasRoom nat_eq 2)

-- the slot of the indicator fits in, and what a fill brings
abbrev pub CanFillAt : ℕ → Stored → Type 0
CanFillAt indicator s = (indicator < s.most) × CanFill (slot_at s.slots indicator) s.spare

pub record AreSlots (greatest size : ℕ) (slots : List (Option (Runs ℕ))) : Type 0 where
  pub fits : size ≤ greatest
  pub few : length slots ≤ 32
  pub kept : (k : ℕ) → IsKept size (slot_at slots k)

-- The effect of steps on the runs of all indicators.

-- the indicator has runs in both, which are related, or in neither
abbrev pub InBoth : (Runs ℕ → Runs ℕ → Type 0) → Option (Runs ℕ) → Option (Runs ℕ) → Type 0
InBoth R None new = new ≡ None
InBoth R (Some old) new = MatchOption new ⊥ (R old)

-- the relation holds in each slot
abbrev pub InEach : (Option (Runs ℕ) → Option (Runs ℕ) → Type 0) → List (Option (Runs ℕ)) → List (Option (Runs ℕ)) → Type 0
InEach R old new = (k : ℕ) → R (slot_at old k) (slot_at new k)

-- each slot has changed so, there are as many slots, and as many fit in
abbrev pub ChangesEach : {A : Type 0} → (Option (Runs ℕ) → Option (Runs ℕ) → Type 0) → (old new : Vec (Option (Runs ℕ)) A) → Type 0
ChangesEach R old new = InEach R old.items new.items × (length new.items ≡ length old.items) × (vec_capacity new ≡ vec_capacity old)

-- the capacity alone has grown, for `count` more runs at most
abbrev pub HaveGrown : ℕ → (old new : Runs ℕ) → Type 0
HaveGrown count old new =
    (new ≡ record old { capacity = new.capacity }) × GrowsFor (run_count nat_eq old.values + count) old.capacity new.capacity

-- the capacity of the spare runs has grown for three runs at most, and not at all if the slot has runs
abbrev pub SpareGrows : Option (Runs ℕ) → (old new : RunCapacity) → Type 0
SpareGrows slot old new = GrowsFor 3 old new × IfSome slot (λ _. new ≡ old)

-- the capacity alone has grown, for a fill of the indicator at most
pub record GrowsForFill (indicator : ℕ) (old new : Stored) : Type 0 where
  pub runs : InEach (InBoth (HaveGrown 2)) old.slots new.slots
  pub others : (k : ℕ) → k ≢ indicator → slot_at new.slots k ≡ slot_at old.slots k
  pub count : length new.slots ≡ length old.slots
  pub spare : SpareGrows (slot_at old.slots indicator) old.spare new.spare
  pub most : new.most ≤ max (indicator + 1) (2 * old.most)
  pub kept : old.most ≤ new.most
  pub there : indicator < old.most → new.most ≡ old.most

-- places can be inserted
pub record CanTakeIn (greatest place count : ℕ) (runs : Runs ℕ) : Type 0 where
  pub within : place ≤ length runs.values
  pub fits : length runs.values + count ≤ greatest
  pub room : HasRoom nat_eq 1 runs

-- places were inserted
abbrev pub TookIn : (place count : ℕ) → (old new : Runs ℕ) → Type 0
TookIn place count old new =
    (new ≡ record old { values = with_space nat_eq old.default old.values place count }) × (run_count nat_eq new.values ≤ run_count nat_eq old.values + 1)

-- places were deleted, and the indicator is still used
abbrev pub IsLeft : (place count : ℕ) → (old new : Runs ℕ) → Type 0
IsLeft place count old new =
    (new ≡ record old { values = deleted old.values place count }) × (run_count nat_eq new.values ≤ run_count nat_eq old.values) × (IsClear new.values → ⊥)

-- places were deleted; runs that are all 0 then are dropped
abbrev pub GaveAway : ℕ → ℕ → Option (Runs ℕ) → Option (Runs ℕ) → Type 0
GaveAway place count None new = new ≡ None
GaveAway place count (Some old) new = MatchOption new (IsClear (deleted old.values place count)) (IsLeft place count old)

-- a slot of an indicator with the values after a fill
abbrev pub WasFilled : List ℕ → Option (Runs ℕ) → Type 0
WasFilled values slot = MatchOption slot (IsClear values) (λ (runs : Runs ℕ). (runs.values ≡ values) × (runs.default ≡ 0) × (IsClear values → ⊥))

-- the capacity of the runs of a filled slot: its own, or that of the spare runs if it has none
abbrev pub source_capacity : Option (Runs ℕ) → RunCapacity → RunCapacity
source_capacity None spare = spare
source_capacity (Some runs) spare = runs.capacity

-- and that of the spare runs that are left
abbrev pub spare_left : Option (Runs ℕ) → RunCapacity → RunCapacity
spare_left None spare = no_runs
spare_left (Some runs) spare = spare
