use Rattle.marker_store.proofs.Names.{ℕ, ◌<◌, ◌≤◌, get_or}
use Rattle.marker_store.proofs.zeros.are_zero.Given as goal

abbrev pub invariant-loop-number : goal.invariant-loop-number
invariant-loop-number l = (k : ℕ) → k < l.number-index → get_or l.numbers k 0 ≤ l.bits
