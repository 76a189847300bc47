use Rattle.target_search.proofs.Names.{◌+◌, MarksMatches}
use Rattle.target_search.proofs.search.Search.last_marked.Given as goal

abbrev pub invariant-looking : goal.invariant-looking
invariant-looking l = MarksMatches l.self (l.offset + l.start) l.left

abbrev pub decreases-looking : goal.decreases-looking
decreases-looking l = l.left
