use Rattle.line_index.proofs.Names.{◌≡◌, ℕ, ◌-◌, ◌<◌, ◌≤◌, false, ◌++◌, is_line_start}
use Rattle.line_index.proofs.halves.next_start.Given as goal

abbrev pub invariant-looking : goal.invariant-looking
invariant-looking l =
    record {
      low : l.from ≤ l.place;
      high : l.place ≤ l.to;
      none : (k : ℕ) → l.from ≤ k → k < l.place → is_line_start l.text.types (l.text.before.now ++ l.text.after.now) k ≡ false;
    }

abbrev pub decreases-looking : goal.decreases-looking
decreases-looking l = l.to - l.place
