-- What a contract sees of a `Partitioning`.
use Rattle.std.specs.Prelude.{◌≡◌, ℕ, ◌+◌, ◌-◌, ◌<◌, ◌≤◌, List, length, slice_index, EachIndex, nat_le, if◌then◌else◌, refl}
use Rattle.std.specs.List.Sorted.{IsStrictlyIncreasing}
use Rattle.split_vector.specs.Split.{most_held}
pub use Rattle.rising_numbers.specs.Numbers.{IsLastAtMost, map_from, IsFloorLog, CountsReads}
use Rattle.std.specs.Coded.{Coded, code_by, coded×, coded_list, coded_ℕ}

-- where each partition starts, the length of the whole, how many starts fit in without an allocation, how many stored
-- starts the moves of the step have changed, and where the step stands
pub record Partitions : Type 0 where
  pub starts : List ℕ
  pub length : ℕ
  pub capacity : ℕ
  pub stepped : ℕ
  pub step_at : ℕ

abbrev pub partitions : List ℕ → ℕ → ℕ → ℕ → ℕ → Partitions
partitions starts end capacity stepped step_at =
    record { starts = starts; length = end; capacity = capacity; stepped = stepped; step_at = step_at }

abbrev pub partitions_code : Coded Partitions
partitions_code =
    code_by (List ℕ × (ℕ × (ℕ × (ℕ × ℕ)))) (coded× (coded_list coded_ℕ) (coded× coded_ℕ (coded× coded_ℕ (coded× coded_ℕ coded_ℕ))))
    (λ p. (p.starts, (p.length, (p.capacity, (p.stepped, p.step_at)))))
    (λ q. partitions q.0 q.1.0 q.1.1.0 q.1.1.1.0 q.1.1.1.1) (λ _. refl)

-- `count` more starts fit in without an allocation
abbrev pub StartsFit : ℕ → Partitions → Type 0
StartsFit count p = length p.starts + count ≤ p.capacity

-- nothing but the capacity has changed: it is not less, and at most what `count` more starts want
abbrev pub Grows : ℕ → (old new : Partitions) → Type 0
Grows count old new =
    (new ≡ record old { capacity = new.capacity }) × (old.capacity ≤ new.capacity) × (new.capacity ≤ most_held old.capacity (length old.starts + count))

-- the first start is 0, each is below the next, and none is past the end: only the last partition may be empty
pub record ArePartitions (starts : List ℕ) (end : ℕ) : Type 0 where
  pub some : 0 < length starts
  pub first : slice_index starts 0 ≡ 0
  pub rising : IsStrictlyIncreasing starts
  pub within : EachIndex starts (λ k. slice_index starts k ≤ end)

-- a partition can be inserted before partition i, or at the end: it starts behind the one before it and before the next
pub record CanStart (starts : List ℕ) (end i start : ℕ) : Type 0 where
  pub not_first : 0 < i
  pub within : i ≤ length starts
  pub behind : slice_index starts (i - 1) < start
  pub before : i < length starts → start < slice_index starts i
  pub at_most : start ≤ end

-- n can be deleted from partition i, which does not become empty unless it is the last
pub record CanLose (starts : List ℕ) (end i n : ℕ) : Type 0 where
  pub before_next : i + 1 < length starts → slice_index starts i + n < slice_index starts (i + 1)
  pub before_end : slice_index starts i + n ≤ end

-- where the step stands once a partition was inserted before partition i: one further on if that comes before it or
-- right behind it
abbrev pub step_inserted : ℕ → ℕ → ℕ
step_inserted i step = if nat_le i (step + 1) then step + 1 else step

-- where the step stands once partition i was joined with the one before it
abbrev pub step_removed : ℕ → ℕ → ℕ
step_removed i step = if nat_le i step then step - 1 else step

-- the starts, with each one behind partition i raised by n
abbrev pub raised_behind : List ℕ → ℕ → ℕ → List ℕ
raised_behind starts i n = map_from (λ s. s + n) (i + 1) starts

-- the starts, with each one behind partition i lowered by n
abbrev pub lowered_behind : List ℕ → ℕ → ℕ → List ℕ
lowered_behind starts i n = map_from (λ s. s - n) (i + 1) starts
