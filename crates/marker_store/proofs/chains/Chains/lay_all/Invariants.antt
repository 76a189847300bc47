use Rattle.marker_store.proofs.Names.{◌≡◌, ◌<◌, [], length, get_or}
use Rattle.marker_store.specs.Chains.{all_laid}
use Rattle.marker_store.proofs.chains.Chains.lay_all.Given as goal

abbrev pub invariant-laying : goal.invariant-laying
invariant-laying g l = (l.line < length l.self.rows) × (all_laid l.line l.self ≡ all_laid l.line l.fn.self)

abbrev pub decreases-laying : goal.decreases-laying
decreases-laying g l = length (get_or l.self.rows l.line [])
