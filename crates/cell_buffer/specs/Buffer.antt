-- What a contract sees of `Cells`.
use Rattle.std.specs.Prelude.{◌≡◌, ◌≤◌, ◌<◌, ℕ, ◌+◌, ◌-◌, ◌^◌, ◌⊎◌, ◌==◌, if◌then◌else◌, min, nat_lt, nat_le, Bool, true, false, List, [], ◌∷◌, ◌++◌, length, take, drop, slice_index, slice_range, Option, Some, None}
use Rattle.ed_model.specs.Text.{Cell, bytes_of, plain_cell}
use Rattle.ed_model.specs.Changes.{restyled}
use Rattle.ed_model.specs.Steps.{Insert, edited_cells}
use Rattle.split_vector.specs.Split.{Split, gap_after, gap_closed, most_held, moved_after, moved_closed}

-- The cells; whether styles are kept (otherwise all are 0); for how many cells, from the first on, the styles are stored
-- (those behind are 0); and how many bytes, and how many styles, fit in all without an allocation. Then, for the gap buffer
-- of the bytes and for that of the styles: how many items lie before the gap, and how many were moved or written so far.
pub record Buffer : Type 0 where
  pub cells : List Cell
  pub keeps_styles : Bool
  pub styled : ℕ
  pub capacity : ℕ × ℕ
  pub gaps : ℕ × ℕ
  pub moved : ℕ × ℕ

-- no cells and no styles, and no memory for any
abbrev pub no_cells : Buffer
no_cells = record { cells = []; keeps_styles = false; styled = 0; capacity = (0, 0); gaps = (0, 0); moved = (0, 0) }

-- how many styles n bytes have: one each if styles are kept, and otherwise none
abbrev pub styles_for : Bool → ℕ → ℕ
styles_for true n = n
styles_for false n = 0

-- `count` more bytes fit, and their styles if styles are kept
abbrev pub HasRoom : ℕ → Buffer → Type 0
HasRoom count b = (length b.cells + count ≤ b.capacity.0) × (styles_for b.keeps_styles (length b.cells + count) ≤ b.capacity.1)

-- whatever there was room for still fits
abbrev pub KeepsRoom : Buffer → Buffer → Type 0
KeepsRoom old new = (count : ℕ) → HasRoom count old → HasRoom count new

-- no more fits than with the other capacity, neither bytes nor styles
abbrev pub IsWithin : ℕ × ℕ → ℕ × ℕ → Type 0
IsWithin less more = (less.0 ≤ more.0) × (less.1 ≤ more.1)

-- the most that fits once room for `count` more bytes was requested
abbrev pub most_capacity : ℕ → Buffer → ℕ × ℕ
most_capacity count b =
    (most_held b.capacity.0 (length b.cells + count), most_held b.capacity.1 (styles_for b.keeps_styles (length b.cells + count)))

-- nothing but the capacity has changed: it is no less, and no more than room for `count` more bytes asks for
abbrev pub Grows : ℕ → Buffer → Buffer → Type 0
Grows count old new =
    (new ≡ record old { capacity = new.capacity })
    × IsWithin old.capacity new.capacity
    × IsWithin new.capacity (most_capacity count old)
    × (new.capacity.0 < 2 ^ 63)

-- styles are kept, and nothing else changes but how many of them fit; whatever there was room for still fits
abbrev pub GainsStyles : Buffer → Buffer → Type 0
GainsStyles old new = (new ≡ record old { keeps_styles = true; capacity = (old.capacity.0, new.capacity.1) }) × KeepsRoom old new

-- the `count` bytes from the start on
abbrev pub bytes_in : Buffer → (start count : ℕ) → List ℕ
bytes_in b start count = slice_range (bytes_of b.cells) start (start + count)

-- each byte with its style, or with style 0 where none is stored
abbrev pub paired : List ℕ → List ℕ → List Cell
paired [] styles = []
paired (b ∷ bs) [] = plain_cell b ∷ paired bs []
paired (b ∷ bs) (s ∷ ss) = record { byte = b; style = s } ∷ paired bs ss

-- how many styles are inserted with count bytes at a place: as many, if the style of the cell there is stored, and
-- otherwise none
abbrev pub styles_in : Buffer → ℕ → ℕ → ℕ
styles_in b place count = if nat_lt place b.styled then count else 0

-- how many stored styles are deleted with count cells from a place on
abbrev pub styles_out : Buffer → ℕ → ℕ → ℕ
styles_out b place count = min count (b.styled - place)

-- how many styles are stored ahead of those that are set
abbrev pub styled_ahead : ℕ
styled_ahead = 4096

-- how many of the styles of n cells are stored once those up to an end are set: as many as before if that suffices,
-- otherwise those up to the end and some behind it
abbrev pub styled_up_to : ℕ → ℕ → ℕ → ℕ
styled_up_to n end styled = if nat_le end styled then styled else end + min (n - end) styled_ahead

-- after the bytes were inserted at the place, with style 0: where both gaps lie, and both counters
abbrev pub with_inserted : ℕ → List ℕ → Buffer → Buffer
with_inserted place bytes b =
    let count = length bytes in
    let styles = styles_in b place count in
    record b {
      cells = edited_cells (Insert place bytes) b.cells;
      styled = b.styled + styles;
      gaps = (gap_after place count b.gaps.0, gap_after place styles b.gaps.1);
      moved = (moved_after place count b.gaps.0 b.moved.0, moved_after place styles b.gaps.1 b.moved.1);
    }

-- after the `count` cells from the place on were deleted
abbrev pub with_deleted : (place count : ℕ) → Buffer → Buffer
with_deleted place count b =
    let styles = styles_out b place count in
    record b {
      cells = take place b.cells ++ drop (place + count) b.cells;
      styled = b.styled - styles;
      gaps = (gap_closed place count b.gaps.0, gap_closed place styles b.gaps.1);
      moved = (moved_closed place count b.gaps.0 b.moved.0, moved_closed place styles b.gaps.1 b.moved.1);
    }

-- once the styles of the first `styled` cells are stored
abbrev pub with_stored : ℕ → Buffer → Buffer
with_stored styled b =
    record b {
      styled = styled;
      gaps = (b.gaps.0, gap_after b.styled (styled - b.styled) b.gaps.1);
      moved = (b.moved.0, moved_after b.styled (styled - b.styled) b.gaps.1 b.moved.1);
    }

-- once the `count` cells from the start on have these styles; the styles up to there are stored
abbrev pub with_styles : (start count : ℕ) → List ℕ → Buffer → Buffer
with_styles start count styles b =
    record (with_stored (styled_up_to (length b.cells) (start + count) b.styled) b) { cells = take start b.cells ++ restyled styles (drop start b.cells) }

-- xs with the new items instead of those from the place on
abbrev pub overwritten : List ℕ → ℕ → List ℕ → List ℕ
overwritten xs place new = take place xs ++ new ++ drop (place + length new) xs

-- the new items stand instead of those from the place on, and nothing else changes
abbrev pub Overwrites : ℕ → List ℕ → Split ℕ → Split ℕ → Type 0
Overwrites place new before after = after ≡ record before { items = overwritten before.items place new }

-- the range between both ends, if the second is not 0
abbrev pub range_of : ℕ × ℕ → Option (ℕ × ℕ)
range_of ends = if ends.1 == 0 then None else Some (ends.0, ends.1 - ends.0)

-- the range with one more place behind it, if there is a range
abbrev pub widened : ℕ → Option (ℕ × ℕ) → Option (ℕ × ℕ)
widened place None = Some (place, 1)
widened place (Some range) = Some (range.0, place + 1 - range.0)

-- the range, with the place behind it if the place gets another style
abbrev pub range_with : List ℕ → (place style : ℕ) → Option (ℕ × ℕ) → Option (ℕ × ℕ)
range_with styles place style range = if slice_index styles place == style then range else widened place range

-- What it costs one gap buffer to insert or delete `count` items, at least one, at a place: at most the distance of the
-- gap from the place, and the items. The gap then lies at the place, or behind what was inserted.
pub record CostsAtMost (place count gap moved gap' moved' : ℕ) : Type 0 where
  pub cost : moved' ≤ moved + ((place - gap) + (gap - place)) + count
  pub at_an_end : 0 < count → (gap' ≡ place) ⊎ (gap' ≡ place + count)

-- Both gap buffers keep to that cost, for so many bytes and so many styles. If no style is inserted or deleted, none moves.
pub record CostsBoth (place count styles_count : ℕ) (old new : Buffer) : Type 0 where
  pub bytes : CostsAtMost place count old.gaps.0 old.moved.0 new.gaps.0 new.moved.0
  pub styles : CostsAtMost place styles_count old.gaps.1 old.moved.1 new.gaps.1 new.moved.1
  pub no_styles : styles_count ≡ 0 → (new.gaps.1 ≡ old.gaps.1) × (new.moved.1 ≡ old.moved.1)

-- the cost of an insertion of `count` bytes
abbrev pub CostsInsertion : (place count : ℕ) → Buffer → Buffer → Type 0
CostsInsertion place count old new = CostsBoth place count (styles_in old place count) old new
