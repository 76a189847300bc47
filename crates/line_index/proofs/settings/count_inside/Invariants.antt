use Rattle.line_index.proofs.Names.{◌≡◌, ℕ, ◌+◌, ◌-◌, ◌<◌, ◌≤◌, ◌++◌, true, false, length, Default, Unicode, is_line_start, starts_within}
use Rattle.line_index.proofs.settings.count_inside.Given as goal

abbrev pub invariant-counting : goal.invariant-counting
invariant-counting l =
    record {
      lines : l.lines ≡ length (starts_within Unicode (l.before ++ l.after) (l.start + 1) l.place);
      low : l.start < l.place;
      high : l.place ≤ l.end;
      few : l.lines + l.start < l.place;
      none : (k : ℕ) → l.start < k → k < l.place → is_line_start Default (l.before ++ l.after) k ≡ false;
      found : l.place < l.end → is_line_start Unicode (l.before ++ l.after) l.place ≡ true;
    }

abbrev pub decreases-counting : goal.decreases-counting
decreases-counting l = l.end - l.place
