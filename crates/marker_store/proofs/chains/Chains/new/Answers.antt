use Rattle.marker_store.proofs.Names.{refl, arith, [], ◌∷◌}
use Rattle.marker_store.proofs.Chaining.{no_links}
use Rattle.marker_store.proofs.chains.Chains.new.Goals as goal

pub invariant_of-result : goal.invariant_of-result
invariant_of-result g c = rw (c.new.ensures, c.new-2.ensures) (record { chains = [] ∷ ([] ∷ []); linked = no_links; counted = refl; small = omega arith })
