use Rattle.target_search.proofs.Names.{◌+◌, ◌≤◌, NonePasses, is_match_of}
use Rattle.target_search.proofs.search.Search.last_of_few.Given as goal

abbrev pub invariant-looking : goal.invariant-looking
invariant-looking l = record {
  high : l.at ≤ l.end;
  none : NonePasses (is_match_of l.self) (l.offset + l.at) (l.offset + l.end);
}

abbrev pub decreases-looking : goal.decreases-looking
decreases-looking l = l.at
