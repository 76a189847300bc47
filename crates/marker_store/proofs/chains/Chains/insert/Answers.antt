use Rattle.marker_store.proofs.Deeds.{wider_sound, is_wider}
use Rattle.marker_store.proofs.chains.Chains.insert.Goals as goal

pub invariant_of-self : goal.invariant_of-self
invariant_of-self g c = rw c.insert_fill_reserved.ensures (wider_sound _ c.self.invariant _ c.self.view_is c.args.line c.args.count)

pub returns : goal.returns
returns g c = rw c.insert_fill_reserved.ensures (is_wider _ c.self.invariant _ c.self.view_is c.args.line c.args.count)
