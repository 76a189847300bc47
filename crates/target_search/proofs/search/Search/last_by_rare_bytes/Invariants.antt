use Rattle.target_search.proofs.Names.{◌-◌, ◌+◌, ◌≤◌, length, NonePasses, size_of, is_match_of}
use Rattle.target_search.proofs.search.Search.last_by_rare_bytes.Given as goal

abbrev pub invariant-searching : goal.invariant-searching
invariant-searching l = record {
  within : l.end + size_of l.self ≤ length l.part + 1;
  none : NonePasses (is_match_of l.self) (l.offset + l.end) (l.offset + length l.part + 1 - size_of l.self);
}

abbrev pub decreases-searching : goal.decreases-searching
decreases-searching l = l.end
