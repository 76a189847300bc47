-- What the steps over the cells of a block need and change.
use Rattle.std.specs.Prelude.{◌≡◌, ℕ, ◌+◌, ◌-◌, ◌^◌, ◌<◌, ◌≤◌, List, ◌++◌, length}
use denote.RawPtr.{Ptr}
use Rattle.split_vector.specs.declared.cells.Cells.{Cells}
use Rattle.split_vector.specs.declared.cells.Deed.{Deed}

module _ {X : Type 0} where
  -- how many cells there are
  abbrev pub cell_count : Cells X → ℕ
  cell_count c = length c.left + c.spare + length c.right

  -- in which cell the items on the right begin
  abbrev pub right_start : Cells X → ℕ
  right_start c = length c.left + c.spare

  -- the items, so many of them, stand in the first cells of the gap
  abbrev pub Pushes : List X → ℕ → Cells X → Cells X → Type 0
  Pushes items count old new = new ≡ record old { left = old.left ++ items; spare = old.spare - count }

  -- the items, so many of them, stand in the last cells of the gap
  abbrev pub PushesRight : List X → ℕ → Cells X → Cells X → Type 0
  PushesRight items count old new = new ≡ record old { spare = old.spare - count; right = items ++ old.right }

  -- the gap begins in the cell `gap` and has room for `count` items
  abbrev pub FitInGap : Cells X → (gap count : ℕ) → Type 0
  FitInGap c gap count = (gap ≡ length c.left) × (count ≤ c.spare) × (right_start c < 2 ^ 63)

  -- the items on the right are `len`, and begin in the cell `first`
  abbrev pub AreOnTheRight : Cells X → (first len : ℕ) → Type 0
  AreOnTheRight c first len = (first ≡ right_start c) × (len ≡ length c.right) × (first + len < 2 ^ 63)

module _ {X A : Type 0} where
  -- the right to return the block of `len` cells at `at` to the allocator
  abbrev pub IsDeed : Deed X A → Ptr → ℕ → A → Type 0
  IsDeed d at len alloc = (d.at ≡ at) × (d.len ≡ len) × (d.alloc ≡ alloc)
