use Rattle.marker_store.proofs.Names.{◌≡◌, ℕ, ◌+◌, ◌<◌, ◌≤◌, false, length, min, is_met}
use Rattle.marker_store.proofs.chains.Chains.previous.Given as goal

abbrev pub invariant-passing : goal.invariant-passing
invariant-passing g l =
    (l.end ≤ min (l.from + 1) (length l.self.rows)) × ((k : ℕ) → l.end ≤ k → k < min (l.from + 1) (length l.self.rows) → is_met l.mask l.self.rows k ≡ false)

abbrev pub decreases-passing : goal.decreases-passing
decreases-passing g l = l.end
