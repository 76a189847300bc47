use Rattle.std.proofs.Common.{◌≡◌, ◌++◌, take, drop}
use Rattle.line_index.proofs.starts.remove_starts.Given as goal

abbrev pub invariant-loop-line : goal.invariant-loop-line
invariant-loop-line g l =
    record {
      starts : l.starts.starts ≡ take l.first l.initial.starts.starts ++ drop l.line l.initial.starts.starts;
      length : l.starts.length ≡ l.initial.starts.length;
      capacity : l.starts.capacity ≡ l.initial.starts.capacity;
    }
