use Rattle.target_search.proofs.Names.{◌≡◌, ℕ, ◌<◌, get_or, folded}
use Rattle.target_search.proofs.bytes.are_same.Given as goal

abbrev pub invariant-loop-i : goal.invariant-loop-i
invariant-loop-i l = (k : ℕ) → k < l.i → folded l.flags (get_or l.bytes k 0) ≡ folded l.flags (get_or l.pattern k 0)
