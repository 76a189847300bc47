-- How runs are stored, as a list of starts and a list of values: the list that they stand for, and what is true of them.
use Rattle.std.specs.Prelude.{◌≡◌, ◌≢◌, ℕ, ◌-◌, ◌<◌, Bool, true, List, [], ◌∷◌, ◌++◌, length, replicate, slice_index_or}

module _ {V : Type 0} where
  -- each value from its start up to the next one, or up to the end
  abbrev pub expansion : List ℕ → List V → ℕ → List V
  expansion [] vs end = []
  expansion (s ∷ ss) [] end = []
  expansion (s ∷ ss) (v ∷ vs) end = replicate (slice_index_or ss 0 end - s) v ++ expansion ss vs end

  -- no two neighbours are equal
  abbrev pub NeighboursDiffer : List V → Type 0
  NeighboursDiffer [] = Unit {0}
  NeighboursDiffer (x ∷ []) = Unit {0}
  NeighboursDiffer (x ∷ y ∷ ys) = (x ≢ y) × NeighboursDiffer (y ∷ ys)

-- the test finds only equal values equal
abbrev pub IsExact : {V : Type 0} → (V → V → Bool) → Type 0
IsExact {V} eq = (x y : V) → eq x y ≡ true → x ≡ y

-- each start lies below the next one, and the last below the end
abbrev pub Rise : List ℕ → ℕ → Type 0
Rise [] end = Unit {0}
Rise (s ∷ ss) end = (s < slice_index_or ss 0 end) × Rise ss end

-- One value for each start. The starts rise from 0 and lie below the end; an empty list has one run.
pub record IsTable {V : Type 0} (starts : List ℕ) (values : List V) (end : ℕ) : Type 0 where
  pub paired : length starts ≡ length values
  pub from_zero : slice_index_or starts 0 1 ≡ 0
  pub rise : 0 < end → Rise starts end
  pub single : end ≡ 0 → length starts ≡ 1
