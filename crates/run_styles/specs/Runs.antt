-- What a contract sees of a `RunStyles`, and what its calls do to the list.
use Rattle.std.specs.Prelude.{◌≡◌, ◌≢◌, ℕ, ◌+◌, ◌-◌, ◌<◌, ◌≤◌, Bool, ◌||◌, ◌==◌, if◌then◌else◌, ◌*◌, max, List, [], ◌∷◌, ◌++◌, length, take, drop, replicate, slice_get, slice_index_or, refl}
use Rattle.std.specs.Coded.{Coded, code_by, coded×, coded_list, coded_ℕ}

-- how many starts of runs, and how many values of runs, fit in without an allocation
pub record RunCapacity : Type 0 where
  pub starts : ℕ
  pub values : ℕ

abbrev pub run_capacity : ℕ → ℕ → RunCapacity
run_capacity starts values = record { starts = starts; values = values }

-- so many runs fit in
abbrev pub Fit : ℕ → RunCapacity → Type 0
Fit count capacity = (count ≤ capacity.starts) × (count ≤ capacity.values)

-- no capacity is given back
abbrev pub KeepsCapacity : RunCapacity → RunCapacity → Type 0
KeepsCapacity old new = (old.starts ≤ new.starts) × (old.values ≤ new.values)

-- The capacity is at most `wanted`, which was requested, or that of blocks of twice the size. If `wanted` fitted in
-- before, it stays the same.
pub record IsCapacityFor (wanted : ℕ) (old new : RunCapacity) : Type 0 where
  pub starts : new.starts ≤ max wanted (2 * old.starts)
  pub values : new.values ≤ max wanted (2 * old.values)
  pub starts_there : wanted ≤ old.starts → new.starts ≡ old.starts
  pub values_there : wanted ≤ old.values → new.values ≡ old.values

-- the capacity once room for so many runs was asked for: not less than before, and at most that
abbrev pub GrowsFor : (wanted : ℕ) → RunCapacity → RunCapacity → Type 0
GrowsFor wanted old new = KeepsCapacity old new × IsCapacityFor wanted old new

-- the default value, the value at each place, and how many runs fit in
pub record Runs (V : Type 0) : Type 0 where
  pub default : V
  pub values : List V
  pub capacity : RunCapacity

module _ {V : Type 0} where
  abbrev pub runs : V → List V → RunCapacity → Runs V
  runs value values capacity = record { default = value; values = values; capacity = capacity }

  abbrev pub runs_code : Coded V → Coded (Runs V)
  runs_code c =
      code_by (V × (List V × (ℕ × ℕ))) (coded× c (coded× (coded_list c) (coded× coded_ℕ coded_ℕ)))
      (λ r. (r.default, (r.values, (r.capacity.starts, r.capacity.values)))) (λ p. runs p.0 p.1.0 (run_capacity p.1.1.0 p.1.1.1)) (λ _. refl)

  -- xs with count places inserted before the place, each with the value x
  abbrev pub inserted : List V → ℕ → ℕ → V → List V
  inserted xs place count x = take place xs ++ (replicate count x ++ drop place xs)

  -- xs without the count places from the place on
  abbrev pub deleted : List V → ℕ → ℕ → List V
  deleted xs place count = take place xs ++ drop (place + count) xs

  -- xs with the value x at the count places from the place on
  abbrev pub filled : List V → ℕ → ℕ → V → List V
  filled xs place count x = take place xs ++ (replicate count x ++ drop (place + count) xs)

  -- what inserted places get: the default at both ends and where the value there is the default, otherwise the value before
  abbrev pub inserted_value : (V → V → Bool) → V → List V → ℕ → V
  inserted_value eq d xs place =
      if place == 0 || (place == length xs || eq (slice_index_or xs place d) d) then d else slice_index_or xs (place - 1) d

  -- xs with count places inserted before the place, with the value that the rule gives them
  abbrev pub with_space : (V → V → Bool) → V → List V → ℕ → ℕ → List V
  with_space eq d xs place count = inserted xs place count (inserted_value eq d xs place)

  -- the places all have the value x already
  abbrev pub IsFilled : List V → ℕ → ℕ → V → Type 0
  IsFilled xs place count x = filled xs place count x ≡ xs

  -- how many runs of equal values xs has; an empty list is one run
  abbrev pub run_count : (V → V → Bool) → List V → ℕ
  run_count eq [] = 1
  run_count eq (x ∷ []) = 1
  run_count eq (x ∷ y ∷ ys) = if eq x y then run_count eq (y ∷ ys) else run_count eq (y ∷ ys) + 1

  -- so many more runs fit in
  abbrev pub HasRoom : (V → V → Bool) → ℕ → Runs V → Type 0
  HasRoom eq count r = Fit (run_count eq r.values + count) r.capacity

  -- from the start up to the place all values are equal, and the one before the start differs
  pub record IsRunStart (xs : List V) (place start : ℕ) : Type 0 where
    pub from : start ≤ place
    pub one_value : (k : ℕ) → start ≤ k → k ≤ place → slice_get xs k ≡ slice_get xs place
    pub longest : 0 < start → slice_get xs (start - 1) ≢ slice_get xs place

  -- from the place up to the end all values are equal, and the one at the end differs, or the list ends there
  pub record IsRunEnd (xs : List V) (place end : ℕ) : Type 0 where
    pub behind : place < end
    pub within : end ≤ length xs
    pub one_value : (k : ℕ) → place ≤ k → k < end → slice_get xs k ≡ slice_get xs place
    pub longest : slice_get xs end ≢ slice_get xs place

  -- the smallest range, as a place and a length, that holds each place where old and new differ
  pub record IsChangedRange (old new : List V) (range : ℕ × ℕ) : Type 0 where
    pub some : 0 < range.1
    pub within : range.0 + range.1 ≤ length old
    pub before : take range.0 new ≡ take range.0 old
    pub behind : drop (range.0 + range.1) new ≡ drop (range.0 + range.1) old
    pub first : slice_get new range.0 ≢ slice_get old range.0
    pub last : slice_get new (range.0 + range.1 - 1) ≢ slice_get old (range.0 + range.1 - 1)
