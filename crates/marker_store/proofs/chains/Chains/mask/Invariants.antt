use Rattle.marker_store.proofs.Names.{get_or, List, [], bit_or, mask_of, Marker}
use Rattle.marker_store.proofs.Walks.{IsOnWay}
use Rattle.marker_store.proofs.chains.Chains.mask.Given as goal

abbrev pub invariant-loop-passed : goal.invariant-loop-passed
invariant-loop-passed g l = IsOnWay l.self-inside.links.items l.at l._passed (λ (ms : List Marker). bit_or l.mask (mask_of ms)) (mask_of (get_or l.self.rows l.line []))
