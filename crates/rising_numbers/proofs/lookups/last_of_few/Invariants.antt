use Rattle.std.proofs.Common.{◌^◌, ◌<◌, ◌≤◌, length}
use Rattle.rising_numbers.proofs.Halving.{IsRange, IsHalved}
use Rattle.rising_numbers.proofs.lookups.last_of_few.Given as goal

abbrev pub invariant-halving : goal.invariant-halving
invariant-halving g l =
    record {
      range : IsRange l.numbers.numbers (g.P.Place.number l.wanted) l.low (2 ^ l.level);
      fits : l.level < 64;
      rises : l.fn.probes ≤ l.probes;
      reads : IsHalved 1 (length l.numbers.numbers) l.fn.probes l.probes (2 ^ l.level);
    }

abbrev pub decreases-halving : goal.decreases-halving
decreases-halving g l = l.level
