use Rattle.target_search.proofs.Names.{NonePasses, is_match_of}
use Rattle.target_search.proofs.search.Search.first_over_seam.Given as goal

abbrev pub invariant-loop-place : goal.invariant-loop-place
invariant-loop-place l = NonePasses (is_match_of l.self) l.from l.place
