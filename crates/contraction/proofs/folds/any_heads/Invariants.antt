use Rattle.std.proofs.Common.{◌≡◌, ◌<◌, ℕ, false, slice_index}
use Rattle.contraction.specs.Headings.{heads as heads_by}
use Rattle.contraction.proofs.folds.any_heads.Given as goal

abbrev pub invariant-loop-level : goal.invariant-loop-level
invariant-loop-level l = l.found ≡ false → (k : ℕ) → k < l.level-index → heads_by l.number (slice_index l.levels k) ≡ false
