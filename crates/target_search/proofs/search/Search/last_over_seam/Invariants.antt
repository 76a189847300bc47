use Rattle.target_search.proofs.Names.{◌≤◌, NonePasses, is_match_of}
use Rattle.target_search.proofs.search.Search.last_over_seam.Given as goal

abbrev pub invariant-looking : goal.invariant-looking
invariant-looking l = record {
  high : l.place ≤ l.end;
  none : NonePasses (is_match_of l.self) l.place l.end;
}

abbrev pub decreases-looking : goal.decreases-looking
decreases-looking l = l.place
