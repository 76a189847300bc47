use Rattle.contraction.proofs.Names.{◌+◌, ◌-◌, ◌<◌, ◌≤◌, length, get_or}
use Rattle.contraction.proofs.line_set.LineSet.before_nth.Given as goal

abbrev pub invariant-halving : goal.invariant-halving
invariant-halving g l =
    let lines = l.self.numbers in
    record {
      in_range : (0 < l.width) × (l.low + l.width ≤ length lines + 1);
      before : 0 < l.low → get_or lines (l.low - 1) 0 < l.n + l.low;
      behind : l.low + l.width ≤ length lines → l.n + (l.low + l.width - 1) < get_or lines (l.low + l.width - 1) 0;
    }

abbrev pub decreases-halving : goal.decreases-halving
decreases-halving g l = l.width
