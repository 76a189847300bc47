use Rattle.line_index.proofs.Names.{◌-◌, ◌≤◌, ◌++◌, WereAdded}
use Rattle.line_index.proofs.starts.add_from.Given as goal

abbrev pub invariant-adding : goal.invariant-adding
invariant-adding g l =
    record {
      added : WereAdded l.text.types (l.text.before.now ++ l.text.after.now) l.base l.from l.place l.first l.line l.initial.starts l.starts;
      low : l.from ≤ l.place;
      high : l.place ≤ l.to;
    }

abbrev pub decreases-adding : goal.decreases-adding
decreases-adding g l = l.to - l.place
