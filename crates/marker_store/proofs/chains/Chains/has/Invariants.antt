use Rattle.marker_store.proofs.Names.{get_or, [], list_any, ◌==◌, Marker}
use Rattle.marker_store.proofs.Walks.{IsOnWay}
use Rattle.marker_store.proofs.chains.Chains.has.Given as goal

abbrev pub invariant-loop-passed : goal.invariant-loop-passed
invariant-loop-passed g l =
    IsOnWay l.self-inside.links.items l.at l._passed (list_any (λ (m : Marker). m.handle == l.handle)) (list_any (λ (m : Marker). m.handle == l.handle) (get_or l.self.rows l.line []))
