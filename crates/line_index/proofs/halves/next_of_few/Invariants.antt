use Rattle.line_index.proofs.Names.{◌≡◌, ℕ, ◌-◌, ◌<◌, ◌≤◌, false, ◌++◌, is_line_start}
use Rattle.line_index.proofs.halves.next_of_few.Given as goal

abbrev pub invariant-looking : goal.invariant-looking
invariant-looking l =
    record {
      low : l.place ≤ l.at;
      high : l.at < l.to;
      none : (k : ℕ) → l.place < k → k ≤ l.at → is_line_start l.text.types (l.text.before.now ++ l.text.after.now) k ≡ false;
    }

abbrev pub decreases-looking : goal.decreases-looking
decreases-looking l = l.to - l.at
