-- What a contract sees of a `SplitVector`.
use Rattle.std.specs.Prelude.{◌≡◌, ℕ, ◌+◌, ◌-◌, ◌/◌, ◌^◌, ◌<◌, ◌≤◌, ◌==◌, nat_lt, nat_le, ◌&&◌, if◌then◌else◌, min, max, ◌*◌, List, length, take, drop, ◌++◌, slice_index_or, refl}
use Rattle.std.specs.Coded.{Coded, code_by, coded×, coded_list, coded_ℕ}

-- the items, how many fit in without an allocation, how many items lie before the gap, and how many were moved or written so far
pub record Split (X : Type 0) : Type 0 where
  pub items : List X
  pub capacity : ℕ
  pub gap : ℕ
  pub moved : ℕ

module _ {X : Type 0} where
  abbrev pub split : List X → ℕ → ℕ → ℕ → Split X
  split xs capacity gap moved = record { items = xs; capacity = capacity; gap = gap; moved = moved }

  abbrev pub split_code : Coded X → Coded (Split X)
  split_code c = code_by (List X × (ℕ × (ℕ × ℕ))) (coded× (coded_list c) (coded× coded_ℕ (coded× coded_ℕ coded_ℕ))) (λ s. (s.items, (s.capacity, (s.gap, s.moved)))) (λ p. split p.0 p.1.0 p.1.1.0 p.1.1.1) (λ _. refl)

  -- xs with the items new inserted at the place
  abbrev pub inserted : List X → ℕ → List X → List X
  inserted xs place new = take place xs ++ new ++ drop place xs

  -- xs without the count items from the place on
  abbrev pub deleted : List X → ℕ → ℕ → List X
  deleted xs place count = take place xs ++ drop (place + count) xs

  -- P holds of each item from low up to high
  abbrev pub EachBetween : (X → Type 0) → ℕ → ℕ → List X → Type 0
  EachBetween P low high xs = (k : ℕ) (d : X) → low ≤ k → k < high → P (slice_index_or xs k d)

  -- new is old, with each item from low up to high replaced by one that R relates to it
  pub record IsUpdated (R : X → X → Type 0) (low high : ℕ) (old new : List X) : Type 0 where
    pub same_length : length new ≡ length old
    pub updated : (k : ℕ) (d : X) → low ≤ k → k < high → R (slice_index_or old k d) (slice_index_or new k d)
    pub kept_below : (k : ℕ) (d : X) → k < low → slice_index_or new k d ≡ slice_index_or old k d
    pub kept_above : (k : ℕ) (d : X) → high ≤ k → slice_index_or new k d ≡ slice_index_or old k d

-- a counter that stops at the greatest `u64`
abbrev pub counted : ℕ → ℕ → ℕ
counted moved n = min (moved + n) (2 ^ 64 - 1)

-- how far the places p and q lie from one another
abbrev pub apart : ℕ → ℕ → ℕ
apart p q = (p - q) + (q - p)

-- how far the place g lies outside the range from low to high
abbrev pub outside : ℕ → ℕ → ℕ → ℕ
outside low high g = (low - g) + (g - high)

-- how many items fit at most once memory for `wanted` items was requested: as many as before if they fit in, and otherwise
-- `wanted`, or twice as many as before
abbrev pub most_held : (capacity wanted : ℕ) → ℕ
most_held capacity wanted = if nat_le wanted capacity then capacity else max wanted (2 * capacity)

-- the capacity once it has grown by a 64th, or to what is wanted if that is larger
abbrev pub part_larger : (capacity wanted : ℕ) → ℕ
part_larger capacity wanted = max wanted (capacity + capacity / 64)

module _ {X : Type 0} where
  -- `count` more items fit without an allocation
  abbrev pub ItemsFit : ℕ → Split X → Type 0
  ItemsFit count s = length s.items + count ≤ s.capacity

  -- nothing but the capacity has changed: it is no less, and no more than `count` more items ask for
  abbrev pub Grows : ℕ → Split X → Split X → Type 0
  Grows count old new =
      (new ≡ record old { capacity = new.capacity })
      × (old.capacity ≤ new.capacity)
      × (new.capacity ≤ most_held old.capacity (length old.items + count))
      × (new.capacity < 2 ^ 63)
      × (length new.items ≤ new.capacity)

-- where the gap lies after count items were inserted at the place; it stays if there are none
abbrev pub gap_after : ℕ → ℕ → ℕ → ℕ
gap_after place count gap = if count == 0 then gap else place + count

-- the counter after count items were inserted at the place: the gap was moved there, and the items were written
abbrev pub moved_after : ℕ → ℕ → ℕ → ℕ → ℕ
moved_after place count gap moved = if count == 0 then moved else counted moved (apart place gap + count)

-- where the gap lies after the count items from the place on were deleted
abbrev pub gap_closed : ℕ → ℕ → ℕ → ℕ
gap_closed place count gap = if count == 0 then gap else place

-- the counter after that deletion: the gap was moved to the nearer end of the range, unless it lay inside
abbrev pub moved_closed : ℕ → ℕ → ℕ → ℕ → ℕ
moved_closed place count gap moved = if count == 0 then moved else counted moved (outside place (place + count) gap)

module _ {X : Type 0} where
  -- the `count` items xs inserted at the place
  abbrev pub with_inserted : (place count : ℕ) → List X → Split X → Split X
  with_inserted place count xs s =
      record s { items = inserted s.items place xs; gap = gap_after place count s.gap; moved = moved_after place count s.gap s.moved }

  -- the `count` items from the place on deleted
  abbrev pub with_deleted : (place count : ℕ) → Split X → Split X
  with_deleted place count s =
      record s { items = deleted s.items place count; gap = gap_closed place count s.gap; moved = moved_closed place count s.gap s.moved }

  -- the gap moved to the place, and `count` more items counted as moved
  abbrev pub with_gap : (place count : ℕ) → Split X → Split X
  with_gap place count s = record s { gap = place; moved = counted s.moved count }

  -- the `count` items xs written before the gap, and counted
  abbrev pub with_written : (count : ℕ) → List X → Split X → Split X
  with_written count xs s =
      record s { items = inserted s.items s.gap xs; gap = s.gap + count; moved = counted s.moved count }

-- where the gap lies while the items from low to high are lent as one slice: if it lay between them, at the nearer end
abbrev pub gap_beside : ℕ → ℕ → ℕ → ℕ
gap_beside low high gap = if nat_lt low gap && nat_lt gap high then (if nat_le (gap - low) (high - gap) then low else high) else gap
