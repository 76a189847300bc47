use Rattle.marker_store.proofs.Names.{◌≡◌, ◌+◌}
use Rattle.marker_store.proofs.Joins.{joined}
use Rattle.marker_store.proofs.store.MarkerStore.merge.Given as goal

abbrev pub invariant-loop-joined : goal.invariant-loop-joined
invariant-loop-joined g l =
    (l.self-inside.chains ≡ record l.initial.self-inside.chains { rows = joined l.line (l._joined + 1) l.initial.self-inside.chains.rows })
    × (l.self-inside.lines ≡ l.initial.self-inside.lines) × (l.self-inside.next_handle ≡ l.initial.self-inside.next_handle)
