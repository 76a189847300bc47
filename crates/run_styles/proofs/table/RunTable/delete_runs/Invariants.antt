use Rattle.run_styles.proofs.Names.{◌≡◌, ◌≤◌, ◌+◌, ◌-◌, length, take, drop, NeighboursDiffer, deleted}
use Rattle.run_styles.specs.Table.{Becomes, list_of, start_or_end}
use Rattle.run_styles.proofs.table.RunTable.delete_runs.Given as goal

abbrev pub invariant-loop-left : goal.invariant-loop-left
invariant-loop-left g l = record {
  left : l.left ≤ l.count;
  within : start_or_end l.self l.index + l.left ≤ l.self.end;
  becomes : Becomes 0 (deleted (list_of l.fn.self) (start_or_end l.fn.self l.index) (l.count - l.left)) l.fn.self l.self;
  at : start_or_end l.self l.index ≡ start_or_end l.fn.self l.index;
  index : l.index ≤ length l.self.starts;
  front : take l.index l.self.values ≡ take l.index l.fn.self.values;
  behind : NeighboursDiffer (drop l.index l.self.values);
}

abbrev pub decreases-loop-left : goal.decreases-loop-left
decreases-loop-left g l = l.left
