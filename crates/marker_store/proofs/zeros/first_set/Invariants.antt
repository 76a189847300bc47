use Rattle.marker_store.proofs.Names.{◌≡◌, ℕ, ◌-◌, ◌<◌, ◌≤◌, length, get_or}
use Rattle.marker_store.proofs.zeros.first_set.Given as goal

abbrev pub invariant-blocks-2 : goal.invariant-blocks-2
invariant-blocks-2 l =
    record {
      low : l.from ≤ l.index;
      high : l.index ≤ length l.numbers;
      zero : (k : ℕ) → l.from ≤ k → k < l.index → get_or l.numbers k 0 ≡ 0;
    }

abbrev pub decreases-blocks-2 : goal.decreases-blocks-2
decreases-blocks-2 l = length l.numbers - l.index

abbrev pub invariant-seeking : goal.invariant-seeking
invariant-seeking l =
    record {
      low : l.from ≤ l.index;
      high : l.index ≤ length l.numbers;
      zero : (k : ℕ) → l.from ≤ k → k < l.index → get_or l.numbers k 0 ≡ 0;
    }

abbrev pub decreases-seeking : goal.decreases-seeking
decreases-seeking l = length l.numbers - l.index
