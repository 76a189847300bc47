use Rattle.marker_store.proofs.Names.{◌==◌, List, [], refl, ◌∙◌, not, bit_and, mask_of, Marker}
use Rattle.marker_store.proofs.Stores.{met_bare, first_all}
use Rattle.marker_store.proofs.store.MarkerStore.next.Goals as goal

pub returns : goal.returns
returns g c =
    rw (← c.self.view_is)
    (c.next.ensures
    ∙ first_all (λ (ms : List Marker). not (bit_and (mask_of ms) c.args.mask == 0)) (met_bare c.args.mask [] refl) c.self.inside.lines c.self.inside.chains.rows c.args.from c.self.invariant.headed)
