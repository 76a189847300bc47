use Rattle.line_ends.proofs.Names.{◌≡◌, ◌+◌, ◌-◌, ◌≤◌, ◌++◌, length, missing_in}
use Rattle.line_ends.proofs.finding.next_lone.Given as goal

abbrev pub invariant-looking : goal.invariant-looking
invariant-looking l =
    record {
      low : l.from ≤ l.place;
      high : l.place ≤ length l.first + length l.second;
      none : missing_in l.to (l.first ++ l.second) l.from ≡ missing_in l.to (l.first ++ l.second) l.place;
    }

abbrev pub decreases-looking : goal.decreases-looking
decreases-looking l = length l.first + length l.second - l.place
