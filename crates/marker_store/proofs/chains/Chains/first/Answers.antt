use Rattle.marker_store.proofs.Names.{◌-◌, sym, arith, no_link, get_or_read}
use Rattle.marker_store.proofs.Deeds.{aside_at, first_marker}
use Rattle.marker_store.proofs.chains.Chains.first.Goals as goal

pub get-requires : goal.get-requires
get-requires g c = omega (arith, aside_at _ c.self.invariant _ c.self.view_is c.requires)

pub returns : goal.returns
returns g c =
    let d = c.self.inside in
    let is = get_or_read d.links.items (d.aside - 1) c.get.result (omega (arith, aside_at d c.self.invariant _ c.self.view_is c.requires)) c.get.ensures no_link in
    rw (c.marker.ensures, is) (sym (first_marker d c.self.invariant _ c.self.view_is c.requires))
