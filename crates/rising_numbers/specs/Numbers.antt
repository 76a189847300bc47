-- What a contract sees of `RisingNumbers`.
use Rattle.std.specs.Prelude.{◌≡◌, ℕ, ◌+◌, ◌-◌, ◌^◌, ◌<◌, ◌≤◌, List, length, take, drop, map, ◌++◌, slice_index, EachIndex, nat_le, nat_lt, if◌then◌else◌}
use Rattle.std.specs.List.Sorted.{IsStrictlyIncreasing}
use Rattle.split_vector.specs.Split.{apart, counted, most_held}

-- the numbers, the length of the whole, how many numbers fit in without an allocation, how many stored numbers the moves
-- of the step have changed, and how many numbers lie before the step
pub record Numbers : Type 0 where
  pub numbers : List ℕ
  pub length : ℕ
  pub capacity : ℕ
  pub stepped : ℕ
  pub step_at : ℕ

abbrev pub rising : List ℕ → ℕ → ℕ → ℕ → ℕ → Numbers
rising numbers end capacity stepped step_at =
    record { numbers = numbers; length = end; capacity = capacity; stepped = stepped; step_at = step_at }

-- `count` more numbers fit in without an allocation
abbrev pub NumbersFit : ℕ → Numbers → Type 0
NumbersFit count r = length r.numbers + count ≤ r.capacity

-- nothing but the capacity has changed: it is not less, and at most what `count` more numbers want
abbrev pub Grows : ℕ → (old new : Numbers) → Type 0
Grows count old new =
    (new ≡ record old { capacity = new.capacity }) × (old.capacity ≤ new.capacity) × (new.capacity ≤ most_held old.capacity (length old.numbers + count))

-- each is below the next, and none is past the end
pub record AreRising (numbers : List ℕ) (end : ℕ) : Type 0 where
  pub rising : IsStrictlyIncreasing numbers
  pub within : EachIndex numbers (λ k. slice_index numbers k ≤ end)

-- number i is the last that is at most the place
pub record IsLastAtMost (numbers : List ℕ) (place i : ℕ) : Type 0 where
  pub within : i < length numbers
  pub at_most : slice_index numbers i ≤ place
  pub last : (k : ℕ) → i < k → k < length numbers → place < slice_index numbers k

-- x can be inserted before number i, or at the end: it is above the number before it and below the next
pub record CanInsert (numbers : List ℕ) (end i x : ℕ) : Type 0 where
  pub within : i ≤ length numbers
  pub behind : 0 < i → slice_index numbers (i - 1) < x
  pub before : i < length numbers → x < slice_index numbers i
  pub at_most : x ≤ end

-- n can be subtracted from the numbers from number i on and from the end: they stay above the number before them
pub record CanLower (numbers : List ℕ) (end i n : ℕ) : Type 0 where
  pub within : i ≤ length numbers
  pub at_most : n ≤ end
  pub next : i < length numbers → n ≤ slice_index numbers i
  pub behind : 0 < i → (slice_index numbers (i - 1) + n ≤ end) × (i < length numbers → slice_index numbers (i - 1) + n < slice_index numbers i)

-- where the step stands once a number was inserted before number i: one further on, unless that lies behind it
abbrev pub step_inserted : ℕ → ℕ → ℕ
step_inserted i step = if nat_le i step then step + 1 else step

-- where the step stands once number i was removed
abbrev pub step_removed : ℕ → ℕ → ℕ
step_removed i step = if nat_lt i step then step - 1 else step

-- the counter after the step has moved before number i
abbrev pub stepped_to : ℕ → Numbers → ℕ
stepped_to i r = counted r.stepped (apart i r.step_at)

-- the list, with f of each number from place n on
abbrev pub map_from : (ℕ → ℕ) → ℕ → List ℕ → List ℕ
map_from f n xs = take n xs ++ map f (drop n xs)

-- the numbers, with each one from number i on raised by n
abbrev pub raised_from : List ℕ → ℕ → ℕ → List ℕ
raised_from numbers i n = map_from (λ x. x + n) i numbers

-- the numbers, with each one from number i on lowered by n
abbrev pub lowered_from : List ℕ → ℕ → ℕ → List ℕ
lowered_from numbers i n = map_from (λ x. x - n) i numbers

-- k is the greatest number with 2 ^ k at most n
abbrev pub IsFloorLog : ℕ → ℕ → Type 0
IsFloorLog k n = (2 ^ k ≤ n) × (n < 2 ^ (k + 1))

-- a look-up among n numbers reads at least k of them and at most k + extra, where 2 ^ k ≤ n < 2 ^ (k + 1)
abbrev pub CountsReads : (extra n old new : ℕ) → Type 0
CountsReads extra n old new = (old ≤ new) × ((k : ℕ) → IsFloorLog k n → (counted old k ≤ new) × (new ≤ old + (extra + k)))
