-- The fields of a vector: what always holds of them, and what a contract sees of them.
use Rattle.std.specs.Prelude.{◌≡◌, ◌+◌, ◌^◌, ◌<◌, ◌++◌, length}
use Rattle.split_vector.specs.Split.{Split, split}
use Rattle.split_vector.specs.Steps.{IsDeed}
use Rattle.split_vector.specs.declared.vector.SplitVector.TheInside.{Inside}

module _ {X A : Type 0} where
  -- what a contract sees: the items, without the gap
  abbrev pub split_of : Inside X A → Split X
  split_of v = split (v.cells.left ++ v.cells.right) (v.filled + v.spare) v.gap v.moved

  pub record IsSound (v : Inside X A) : Type 0 where
    pub block : (v.cells.at ≡ v.base.ptr) × IsDeed v.deed v.base.ptr (v.filled + v.spare) v.alloc
    pub gap : (v.gap ≡ length v.cells.left) × (v.spare ≡ v.cells.spare)
    pub len : v.filled ≡ length v.cells.left + length v.cells.right
    pub small : (v.filled + v.spare < 2 ^ 63) × (v.moved < 2 ^ 64)
