use Rattle.line_index.proofs.Names.{◌≡◌, ℕ, ◌<◌, false, get_or, may_end}
use Rattle.line_index.proofs.halves.quiet_one_by_one.Given as goal

abbrev pub invariant-loop-count : goal.invariant-loop-count
invariant-loop-count l = (k : ℕ) → k < l.count → may_end l.types (get_or l.bytes k 0) ≡ false
