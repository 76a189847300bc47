use Rattle.marker_store.proofs.Names.{◌≡◌, ℕ, ◌-◌, ◌<◌, ◌≤◌, false, length, is_met}
use Rattle.marker_store.proofs.chains.Chains.next.Given as goal

abbrev pub invariant-searching : goal.invariant-searching
invariant-searching g l = (l.from ≤ l.line) × (l.line ≤ length l.self.rows) × ((k : ℕ) → l.from ≤ k → k < l.line → is_met l.mask l.self.rows k ≡ false)

abbrev pub decreases-searching : goal.decreases-searching
decreases-searching g l = length l.self.rows - l.line
