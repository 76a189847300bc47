use Rattle.target_search.proofs.Names.{◌-◌, ◌+◌, ◌≤◌, NonePasses, is_match_of}
use Rattle.target_search.proofs.search.Search.first_by_rare_bytes.Given as goal

abbrev pub invariant-searching : goal.invariant-searching
invariant-searching l = record {
  within : l.start ≤ l.end;
  none : NonePasses (is_match_of l.self) l.offset (l.offset + l.start);
}

abbrev pub decreases-searching : goal.decreases-searching
decreases-searching l = l.end - l.start
