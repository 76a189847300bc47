use Rattle.marker_store.proofs.Names.{◌≡◌, ◌<◌, length}
use Rattle.marker_store.specs.Dropping.{kept}
use Rattle.marker_store.specs.Chains.{all_put}
use Rattle.marker_store.proofs.chains.Chains.put_all_back.Given as goal

abbrev pub invariant-putting : goal.invariant-putting
invariant-putting g l = (l.line < length l.self.rows) × (all_put l.line (kept l.drops) l.self ≡ all_put l.line (kept l.drops) l.fn.self)

abbrev pub decreases-putting : goal.decreases-putting
decreases-putting g l = length l.self.aside
