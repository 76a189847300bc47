use Rattle.marker_store.proofs.Names.{◌==◌, List, refl, ◌∙◌, list_any, Marker}
use Rattle.marker_store.proofs.Stores.{first_all}
use Rattle.marker_store.proofs.store.MarkerStore.line_of_handle.Goals as goal

pub returns : goal.returns
returns g c =
    rw (← c.self.view_is)
    (c.line_of_handle.ensures ∙ first_all (λ (ms : List Marker). list_any (λ m. m.handle == c.args.handle) ms) refl c.self.inside.lines c.self.inside.chains.rows 0 c.self.invariant.headed)
