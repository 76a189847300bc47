use Rattle.marker_store.proofs.Names.{◌≡◌, ◌<◌, length}
use Rattle.ed_model.specs.Changes.{without_first}
use Rattle.marker_store.specs.Chains.{all_put}
use Rattle.marker_store.proofs.chains.Chains.put_back_but_first.Given as goal

abbrev pub invariant-putting : goal.invariant-putting
invariant-putting g l = (l.line < length l.self.rows) × (all_put l.line (without_first l.number) l.self ≡ all_put l.line (without_first l.number) l.fn.self)

abbrev pub decreases-putting : goal.decreases-putting
decreases-putting g l = length l.self.aside
