use Rattle.line_index.proofs.Names.{◌-◌, ◌≤◌, AreStarts}
use Rattle.line_index.proofs.room.count_from.Given as goal

abbrev pub invariant-counting : goal.invariant-counting
invariant-counting l =
    record {
      counted : AreStarts l.types l.bytes l.from l.place l.lines;
      low : l.from ≤ l.place;
      high : l.place ≤ l.to;
    }

abbrev pub decreases-counting : goal.decreases-counting
decreases-counting l = l.to - l.place
