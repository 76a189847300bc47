use Rattle.marker_store.proofs.Names.{arith}
use Rattle.marker_store.proofs.Deeds.{held_is, aside_at, freed_sound, is_freed}
use Rattle.marker_store.proofs.chains.Chains.free.Goals as goal

pub relink-next-requires : goal.relink-next-requires
relink-next-requires g c = aside_at _ c.self.invariant _ c.self.view_is c.requires

pub invariant_of-self : goal.invariant_of-self
invariant_of-self g c = rw (c.relink-next.ensures.links, c.relink-next.ensures.next) (freed_sound _ c.self.invariant _ c.self.view_is c.requires)

pub returns : goal.returns
returns g c = rw (c.relink-next.ensures.links, c.relink-next.ensures.next) (is_freed _ c.self.invariant _ c.self.view_is c.requires)

pub overflow_add-self : goal.overflow_add-self
overflow_add-self g c = omega (arith, held_is _ c.self.invariant _ c.self.view_is, c.self.invariant.small)
