use Rattle.marker_store.proofs.Names.{◌+◌, [], ◌∷◌, refl, arith, drop_all}
use Rattle.marker_store.proofs.Chaining.{no_links}
use Rattle.marker_store.proofs.chains.Chains.clear.Goals as goal

pub invariant_of-self : goal.invariant_of-self
invariant_of-self g c =
    let d = c.self.inside in
    rw (c.delete.ensures, c.delete-2.ensures, drop_all (0 + c.len.result) d.links.items (omega (arith, c.len.ensures.len)), drop_all (0 + c.len-2.result) d.heads.items (omega (arith, c.len-2.ensures.len)))
    (record { chains = [] ∷ ([] ∷ []); linked = no_links; counted = refl; small = omega arith })

pub returns : goal.returns
returns g c =
    let d = c.self.inside in
    rw
    (c.delete.ensures, c.delete-2.ensures, drop_all (0 + c.len.result) d.links.items (omega (arith, c.len.ensures.len)), drop_all (0 + c.len-2.result) d.heads.items (omega (arith, c.len-2.ensures.len)), ← c.self.view_is)
    refl
