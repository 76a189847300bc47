use Rattle.line_ends.proofs.Names.{◌≡◌, ◌+◌, ◌-◌, ◌≤◌, ◌++◌, length, unwanted_in, unwanted_since}
use Rattle.line_ends.proofs.finding.next_unwanted.Given as goal

abbrev pub invariant-looking : goal.invariant-looking
invariant-looking l =
    record {
      low : l.from ≤ l.place;
      high : l.place ≤ length l.first + length l.second;
      none : unwanted_in l.to (l.first ++ l.second) l.from ≡ unwanted_since l.from l.to (l.first ++ l.second) l.place;
    }

abbrev pub decreases-looking : goal.decreases-looking
decreases-looking l = length l.first + length l.second - l.place
