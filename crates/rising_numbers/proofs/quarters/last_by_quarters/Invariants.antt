use Rattle.std.proofs.Common.{◌^◌, ◌<◌}
use Rattle.rising_numbers.proofs.Halving.{IsRange}
use Rattle.rising_numbers.proofs.quarters.last_by_quarters.Given as goal

abbrev pub invariant-quartering : goal.invariant-quartering
invariant-quartering g l =
    record {
      range : IsRange l.numbers.numbers (g.P.Place.number l.wanted) l.low (2 ^ l.level);
      fits : l.level < 64;
    }

abbrev pub decreases-quartering : goal.decreases-quartering
decreases-quartering g l = l.level
