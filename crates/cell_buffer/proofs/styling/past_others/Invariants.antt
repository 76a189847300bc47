use Rattle.cell_buffer.proofs.Names.{◌≡◌, ◌≤◌, ◌<◌, ℕ, slice_index}
use Rattle.cell_buffer.proofs.styling.past_others.Given as goal

abbrev pub invariant-seeking : goal.invariant-seeking
invariant-seeking l =
    record {
      low : l.start ≤ l.past;
      high : l.past ≤ l.end;
      alike : (k : ℕ) → l.past ≤ k → k < l.end → slice_index l.styles.items k ≡ l.style;
    }

abbrev pub decreases-seeking : goal.decreases-seeking
decreases-seeking l = l.past
