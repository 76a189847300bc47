-- How a `Partitioning` stores its starts: as rising numbers of which the first is 0, with the step behind a start.
use Rattle.split_vector.specs.Split.{apart, counted}
use Rattle.std.specs.Prelude.{ℕ, ◌+◌, ◌-◌, ◌<◌, min, length}
use Rattle.rising_numbers.specs.Numbers.{Numbers}
use Rattle.partitioning.specs.Partitions.{Partitions, ArePartitions, partitions}

-- the partitions that start at these numbers
abbrev pub partitions_of : Numbers → Partitions
partitions_of r = partitions r.numbers r.length r.capacity r.stepped (r.step_at - 1)

-- they are starts, and the first lies before the step
pub record AreStarts (r : Numbers) : Type 0 where
  pub sound : ArePartitions r.numbers r.length
  pub step : 0 < r.step_at

-- how many of so many starts are stored as they are, with the step at a partition
abbrev pub near_count : ℕ → ℕ → ℕ
near_count step count = min count (step + 1)

-- how many of so many starts change their stored form when the step moves from one partition to another
abbrev pub steps_between : ℕ → ℕ → ℕ → ℕ
steps_between from to count = apart (near_count to count) (near_count from count)

-- the counter after the step has moved to the partition
abbrev pub stepped_to : ℕ → Partitions → ℕ
stepped_to index p = counted p.stepped (steps_between p.step_at index (length p.starts))
