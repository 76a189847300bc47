use Rattle.std.proofs.Common.{◌≡◌, ◌≤◌, ◌<◌, ℕ, false, slice_index}
use Rattle.contraction.specs.Headings.{heads as heads_by}
use Rattle.contraction.proofs.folds.before_empty_blocks.Given as goal

abbrev pub invariant-blocks-2 : goal.invariant-blocks-2
invariant-blocks-2 l =
    record {
      within : l.end ≤ l.from;
      none : (k : ℕ) → l.end ≤ k → k < l.from → heads_by l.number (slice_index l.levels k) ≡ false;
    }

abbrev pub decreases-blocks-2 : goal.decreases-blocks-2
decreases-blocks-2 l = l.end
