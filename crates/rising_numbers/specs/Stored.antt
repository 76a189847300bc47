-- How `RisingNumbers` are stored: up to the step as they are, and behind it as their distances to the end.
use Rattle.std.specs.Prelude.{◌≡◌, ℕ, ◌+◌, ◌-◌, ◌<◌, ◌≤◌, List, length, slice_index}
use Rattle.rising_numbers.specs.Numbers.{AreRising, map_from}

-- the numbers that the stored ones stand for, with so many before the step
abbrev pub numbers_of : ℕ → ℕ → List ℕ → List ℕ
numbers_of end step stored = map_from (λ distance. end - distance) step stored

-- none of the numbers is past the end
abbrev pub AreWithin : ℕ → List ℕ → Type 0
AreWithin end stored = (k : ℕ) → slice_index stored k ≤ end

-- new is old, with each number of the range replaced by its distance to the end
pub record IsTurned (end low high : ℕ) (old new : List ℕ) : Type 0 where
  pub same_length : length new ≡ length old
  pub turned : (k : ℕ) → low ≤ k → k < high → slice_index new k ≡ end - slice_index old k
  pub kept_below : (k : ℕ) → k < low → slice_index new k ≡ slice_index old k
  pub kept_above : (k : ℕ) → high ≤ k → slice_index new k ≡ slice_index old k

-- new is old, with one number replaced by its distance to the end
abbrev pub IsOneTurned : ℕ → ℕ → List ℕ → List ℕ → Type 0
IsOneTurned end index old new = IsTurned end index (index + 1) old new

-- what is stored makes rising numbers up to an end that a place can stand for
pub record IsSound (greatest end step : ℕ) (stored : List ℕ) : Type 0 where
  pub within : AreWithin end stored
  pub step_within : step ≤ length stored
  pub fits : end ≤ greatest
  pub sound : AreRising (numbers_of end step stored) end
