use Rattle.marker_store.proofs.Names.{◌≡◌, ℕ, ◌-◌, ◌<◌, ◌≤◌, false, length, has_handle}
use Rattle.marker_store.proofs.chains.Chains.line_of_handle.Given as goal

abbrev pub invariant-searching : goal.invariant-searching
invariant-searching g l = (l.line ≤ length l.self.rows) × ((k : ℕ) → k < l.line → has_handle l.handle l.self.rows k ≡ false)

abbrev pub decreases-searching : goal.decreases-searching
decreases-searching g l = length l.self.rows - l.line
