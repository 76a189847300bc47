use Rattle.marker_store.proofs.Deeds.{fewer_sound, is_fewer}
use Rattle.marker_store.proofs.chains.Chains.remove.Goals as goal

pub invariant_of-self : goal.invariant_of-self
invariant_of-self g c = rw c.delete.ensures (fewer_sound _ c.self.invariant _ c.self.view_is c.args.line c.requires.line c.requires.bare)

pub returns : goal.returns
returns g c = rw c.delete.ensures (is_fewer _ c.self.invariant _ c.self.view_is c.args.line)
