-- What a contract sees of `Decorations`.
use Rattle.std.specs.Prelude.{ℕ, ◌≡◌, ◌≢◌, ◌+◌, ◌*◌, ◌<◌, ◌≤◌, ◌^◌, ◌==◌, max, nat_eq, not, List, [], map, filter, replicate, sum, pos, slice_index_or, slice_set, All, Option}
use Rattle.std.specs.List.{range_with_len}
use Rattle.ed_model.specs.Indicators.{filled, changed_range}
use Rattle.ed_model.specs.TextPlans.{at_place}
use Rattle.ed_model.specs.StylePlans.{run_start, run_past}
use Rattle.run_styles.specs.Runs.{RunCapacity, run_capacity, Fit, IsCapacityFor, KeepsCapacity, run_count}

-- What fits in without an allocation: how many runs of each indicator, none if it has no runs; how many in the spare
-- runs, which the next indicator gets that is filled for the first time; and how many indicators have a slot.
pub record DecorationCapacity : Type 0 where
  pub runs : List RunCapacity
  pub spare : RunCapacity
  pub slots : ℕ

abbrev pub no_runs : RunCapacity
no_runs = run_capacity 0 0

abbrev pub no_capacity : DecorationCapacity
no_capacity = record { runs = replicate 32 no_runs; spare = no_runs; slots = 0 }

-- the length of the text, for each of the 32 indicators its value at each place, and what fits in
pub record Decorated : Type 0 where
  pub length : ℕ
  pub values : List (List ℕ)
  pub capacity : DecorationCapacity

abbrev pub decorated : ℕ → List (List ℕ) → DecorationCapacity → Decorated
decorated size values capacity = record { length = size; values = values; capacity = capacity }

-- the numbers of the indicators
unfoldable pub indicators : List ℕ
indicators = range_with_len 0 32

-- the values of an indicator
abbrev pub values_of : List (List ℕ) → ℕ → List ℕ
values_of values indicator = slice_index_or values indicator []

-- how many runs of an indicator fit in
abbrev pub capacity_at : DecorationCapacity → ℕ → RunCapacity
capacity_at capacity indicator = slice_index_or capacity.runs indicator no_runs

-- 0 everywhere
abbrev pub IsClear : List ℕ → Type 0
IsClear values = All (λ v. v ≡ 0) values

-- the indicator is not 0 everywhere
abbrev pub IsUsed : Decorated → ℕ → Type 0
IsUsed d indicator = IsClear (values_of d.values indicator) → ⊥

-- how many runs of equal values an indicator has
abbrev pub runs_of : Decorated → ℕ → ℕ
runs_of d indicator = run_count nat_eq (values_of d.values indicator)

-- so many more runs of each indicator fit in that is not 0 everywhere
abbrev pub HasRoomForRuns : ℕ → Decorated → Type 0
HasRoomForRuns count d = (k : ℕ) → k < 32 → IsUsed d k → Fit (runs_of d k + count) (capacity_at d.capacity k)

-- There is room for what so many insertions and a fill can bring: a run for each insertion, and two for the fill.
abbrev pub HasRoomForInsertions : ℕ → Decorated → Type 0
HasRoomForInsertions insertions d = HasRoomForRuns (insertions + 2) d

-- There is room for a fill of the indicator: for two more runs. If it is 0 everywhere, there is room for its slot, and
-- the spare runs have room for three: the filled places, and those before and behind them.
pub record HasRoomForFill (indicator : ℕ) (d : Decorated) : Type 0 where
  pub used : IsUsed d indicator → Fit (runs_of d indicator + 2) (capacity_at d.capacity indicator)
  pub clear : IsClear (values_of d.values indicator) → (indicator < d.capacity.slots) × Fit 3 d.capacity.spare

-- The capacity for the runs of each indicator has grown for `count` more at most, and no other has.
pub record IsCapacityForRuns (count : ℕ) (old : Decorated) (new : DecorationCapacity) : Type 0 where
  pub runs : (k : ℕ) → k < 32 → IsCapacityFor (runs_of old k + count) (capacity_at old.capacity k) (capacity_at new k)
  pub kept : (k : ℕ) → k < 32 → KeepsCapacity (capacity_at old.capacity k) (capacity_at new k)
  pub spare : new.spare ≡ old.capacity.spare
  pub slots : new.slots ≡ old.capacity.slots

-- The capacity has grown for a fill of one indicator at most: for its runs if it has any, else for the spare ones, and
-- for its slot.
pub record IsCapacityForFill (indicator : ℕ) (old : Decorated) (new : DecorationCapacity) : Type 0 where
  pub others : (k : ℕ) → k < 32 → k ≢ indicator → capacity_at new k ≡ capacity_at old.capacity k
  pub runs : IsCapacityFor (runs_of old indicator + 2) (capacity_at old.capacity indicator) (capacity_at new indicator)
  pub kept : KeepsCapacity (capacity_at old.capacity indicator) (capacity_at new indicator)
  pub spare : IsCapacityFor 3 old.capacity.spare new.spare
  pub spare_kept : KeepsCapacity old.capacity.spare new.spare
  pub spare_stays : IsUsed old indicator → new.spare ≡ old.capacity.spare
  pub slots : new.slots ≤ max (indicator + 1) (2 * old.capacity.slots)
  pub slots_kept : old.capacity.slots ≤ new.slots
  pub slots_there : indicator < old.capacity.slots → new.slots ≡ old.capacity.slots

-- the indicator has the value at `count` places from the start on
abbrev pub IsFilled : (indicator start count value : ℕ) → Decorated → Decorated → Type 0
IsFilled indicator start count value old new =
    new ≡ record old {
      values = slice_set old.values indicator (filled start count value (values_of old.values indicator));
      capacity = new.capacity;
    }

-- the smallest range that holds all places that this fill changes
abbrev pub filled_range : Decorated → (indicator start count value : ℕ) → Option (ℕ × ℕ)
filled_range d indicator start count value =
    changed_range (values_of d.values indicator) (filled start count value (values_of d.values indicator))

-- The capacity of the indicator's runs is this one, or the indicator is 0 everywhere now and has none.
pub record HasRunsFrom (was : RunCapacity) (indicator : ℕ) (new : Decorated) : Type 0 where
  pub used : IsUsed new indicator → capacity_at new.capacity indicator ≡ was
  pub clear : IsClear (values_of new.values indicator) → capacity_at new.capacity indicator ≡ no_runs

-- The capacity is the same, but for the runs of indicators that are 0 everywhere now.
pub record KeepsRuns (old new : Decorated) : Type 0 where
  pub runs : (k : ℕ) → k < 32 → HasRunsFrom (capacity_at old.capacity k) k new
  pub spare : new.capacity.spare ≡ old.capacity.spare
  pub slots : new.capacity.slots ≡ old.capacity.slots

-- One indicator was filled, and nothing was allocated: if it was 0 everywhere, it has the spare runs now.
pub record WereFilledFrom (indicator : ℕ) (old new : Decorated) : Type 0 where
  pub others : (k : ℕ) → k < 32 → k ≢ indicator → capacity_at new.capacity k ≡ capacity_at old.capacity k
  pub again : IsUsed old indicator → HasRunsFrom (capacity_at old.capacity indicator) indicator new × (new.capacity.spare ≡ old.capacity.spare)
  pub first : IsClear (values_of old.values indicator) → HasRunsFrom old.capacity.spare indicator new × (new.capacity.spare ≡ no_runs)
  pub slots : new.capacity.slots ≡ old.capacity.slots

-- the longest range of equal values that holds the place, as its first place and the place behind it
abbrev pub run_about : List ℕ → ℕ → ℕ × ℕ
run_about values place = (run_start values place, run_past values place)

-- bit k for each indicator k that is not 0 at the place
abbrev pub mask_of : List (List ℕ) → ℕ → ℕ
mask_of values place = sum (map (λ k. 2 ^ k) (filter (λ k. not (at_place (values_of values k) (pos place) == 0)) indicators))
