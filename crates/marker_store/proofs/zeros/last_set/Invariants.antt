use Rattle.marker_store.proofs.Names.{◌≡◌, ℕ, ◌<◌, ◌≤◌, get_or}
use Rattle.marker_store.proofs.zeros.last_set.Given as goal

abbrev pub invariant-blocks-2 : goal.invariant-blocks-2
invariant-blocks-2 l =
    record {
      within : l.behind ≤ l.end;
      zero : (k : ℕ) → l.behind ≤ k → k < l.end → get_or l.numbers k 0 ≡ 0;
    }

abbrev pub decreases-blocks-2 : goal.decreases-blocks-2
decreases-blocks-2 l = l.behind

abbrev pub invariant-seeking : goal.invariant-seeking
invariant-seeking l =
    record {
      within : l.behind ≤ l.end;
      zero : (k : ℕ) → l.behind ≤ k → k < l.end → get_or l.numbers k 0 ≡ 0;
    }

abbrev pub decreases-seeking : goal.decreases-seeking
decreases-seeking l = l.behind
