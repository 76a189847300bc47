use Rattle.std.proofs.Common.{◌<◌, length}
use Rattle.target_search.proofs.rare.rarest_two.Given as goal

abbrev pub invariant-loop-place : goal.invariant-loop-place
invariant-loop-place l = record {
  first : l.best < length l.pattern;
  second : l.next < length l.pattern;
}
