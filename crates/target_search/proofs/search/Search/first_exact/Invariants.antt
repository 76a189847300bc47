use Rattle.target_search.proofs.Names.{◌-◌, ◌+◌, ◌≤◌, length, NonePasses, is_match_of}
use Rattle.target_search.proofs.search.Search.first_exact.Given as goal

abbrev pub invariant-passing : goal.invariant-passing
invariant-passing l = record {
  within : l.start ≤ length l.part;
  few : l.passed ≤ 16;
  none : NonePasses (is_match_of l.self) l.offset (l.offset + l.start);
}

abbrev pub decreases-passing : goal.decreases-passing
decreases-passing l = 16 - l.passed
