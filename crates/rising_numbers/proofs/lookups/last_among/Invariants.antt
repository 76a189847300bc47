use Rattle.std.proofs.Common.{◌+◌, ◌-◌, ◌≤◌}
use Rattle.rising_numbers.proofs.Halving.{IsRange, IsHalved}
use Rattle.rising_numbers.proofs.lookups.last_among.Given as goal

abbrev pub invariant-halving : goal.invariant-halving
invariant-halving g l =
    record {
      end : l.low + l.width ≤ l.behind;
      range : IsRange l.numbers.numbers (g.P.Place.number l.wanted) l.low l.width;
      rises : l.initial.probes ≤ l.probes;
      reads : IsHalved 0 (l.behind - l.first) l.initial.probes l.probes l.width;
    }

abbrev pub decreases-halving : goal.decreases-halving
decreases-halving g l = l.width
