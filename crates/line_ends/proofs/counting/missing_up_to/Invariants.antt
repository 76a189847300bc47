use Rattle.line_ends.proofs.Names.{◌≡◌, ◌+◌, ◌-◌, ◌≤◌, ◌++◌, length, missing_in}
use Rattle.line_ends.proofs.counting.missing_up_to.Given as goal

abbrev pub invariant-counting : goal.invariant-counting
invariant-counting l =
    record {
      few : l.count ≤ l.place;
      within : l.place ≤ length l.first + length l.second;
      most : l.count ≤ l.most;
      counted : length (missing_in l.to (l.first ++ l.second) 0) ≡ l.count + length (missing_in l.to (l.first ++ l.second) l.place);
    }

abbrev pub decreases-counting : goal.decreases-counting
decreases-counting l = length l.first + length l.second - l.place
