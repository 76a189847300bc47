-- How many stored starts a list of calls of a `Partitioning` changes in all by moving the step.
use Rattle.partitioning.specs.Partitions.{Partitions}
pub use Rattle.rising_numbers.specs.SumLaws.{Steps, KeepsTo, EachKeepsTo, steps_after, sum_of_ways, sum_between, IsWithinSums, StepsAddUp}

-- where the step stands, and how many stored starts its moves have changed so far
abbrev pub steps_of : Partitions → Steps
steps_of p = record { step_at = p.step_at; stepped = p.stepped }
