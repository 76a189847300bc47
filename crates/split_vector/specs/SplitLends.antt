-- How a vector ends, once a slice that it lent has come back.
use Rattle.std.specs.Prelude.{◌≡◌, ℕ, ◌+◌, ⊤}
use Rattle.std.specs.Borrow.{Fml, RattleType, MutBor, follows_so}
use Rattle.std.specs.declared.alloc.Allocator.{Ghosts}
use mathlib.Core.Option.{none}
use Rattle.split_vector.specs.Split.{Split, gap_beside}
use Rattle.split_vector.specs.contracts.vector.SplitVector.{the_row}

-- nothing has changed, except that the gap lies outside the lent range
abbrev pub lent_and_back : (R A : RattleType) → Ghosts A.Denot → MutBor (Split R.Denot) → ℕ → ℕ → Fml
lent_and_back R A g v start count =
    follows_so (the_row R A g) (the_row R A g) v.ghost_name none (λ _ _. ⊤) (λ n. n ≡ record v.now { gap = gap_beside start (start + count) v.now.gap })
