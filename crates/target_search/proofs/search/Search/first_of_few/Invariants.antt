use Rattle.target_search.proofs.Names.{◌+◌, NonePasses, is_match_of}
use Rattle.target_search.proofs.search.Search.first_of_few.Given as goal

abbrev pub invariant-loop-at : goal.invariant-loop-at
invariant-loop-at l = NonePasses (is_match_of l.self) (l.offset + l.start) (l.offset + l.at)
