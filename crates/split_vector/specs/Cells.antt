-- What a contract says of the cells of a block.
use Rattle.std.specs.Prelude.{◌≡◌, ℕ, ◌+◌, ◌^◌, ◌<◌, ◌≤◌, Bool, true, false, not, if◌then◌else◌, List, ◌++◌, map, take, drop, length, slice_set, Option, Some}
use Rattle.core.specs.Ptr.{array_size, ptr_add}
use denote.RattleType.{RattleType}
use denote.RawPtr.{Ptr}
use Rattle.split_vector.specs.Ownership.{cells_of}

-- what cells hold: the items left of the gap, the number of empty cells, and the items right of it
abbrev pub Held : Type 0 → Type 0
Held X = List X × ℕ × List X

-- a run of items beside the gap, and the rest: the items before the two, the run, the number of empty cells, and the items
-- behind the two
abbrev pub Run : Type 0 → Type 0
Run X = List X × List X × ℕ × List X

module _ {X : Type 0} where
  -- the len cells from the place on hold items
  abbrev pub IsRun : List (Option X) → ℕ → ℕ → Type 0
  IsRun cs from len = (from + len ≤ length cs) × ((xs : List X) × (take len (drop from cs) ≡ map Some xs))

  -- these items, so many empty cells, and these items are what is held
  abbrev pub Hold : List X → ℕ → List X → Held X → Type 0
  Hold xs n ys held = (xs ≡ held.0) × (n ≡ held.1) × (ys ≡ held.2)

  -- `place` is one of these cells, and they hold `after` once the item is in it
  abbrev pub IsWritten : List X → ℕ → List X → (place : ℕ) → X → (after : Held X) → Type 0
  IsWritten xs n ys place item after =
      (place < length xs + n + length ys)
      × (slice_set (cells_of xs n ys) place (Some item) ≡ cells_of after.0 after.1 after.2)

  -- what the cells hold if the run lies on the left of the gap, or on the right
  abbrev pub beside : (on_left : Bool) → Run X → Held X
  beside on_left run = (if on_left then run.0 ++ run.1 else run.0, run.2, if on_left then run.3 else run.1 ++ run.3)

  -- the cell in which the run begins
  abbrev pub run_start : (on_left : Bool) → Run X → ℕ
  run_start true run = length run.0
  run_start false run = length run.0 + run.2

  -- the run, of `count` items, begins in the cell `from`, and in the cell `to` once it has moved over the gap
  abbrev pub CanMove : (up : Bool) → List X → ℕ → List X → (from to count : ℕ) → Run X → Type 0
  CanMove up xs n ys from to count run =
      Hold xs n ys (beside up run) × (from ≡ run_start up run) × (to ≡ run_start (not up) run) × (count ≡ length run.1)

-- the pointer `to` lies so many items above `from`, and `count` items are few enough to be copied
abbrev pub LiesAbove : (R : RattleType) → (distance count : ℕ) → (from to : Ptr) → Type 0
LiesAbove R distance count from to = (to ≡ ptr_add R distance from) × (array_size R count < 2 ^ 64)

-- the same, or it lies so many items below
abbrev pub LiesApart : (R : RattleType) → (up : Bool) → (distance count : ℕ) → (from to : Ptr) → Type 0
LiesApart R true distance count from to = LiesAbove R distance count from to
LiesApart R false distance count from to = LiesAbove R distance count to from
