use Rattle.marker_store.proofs.Names.{ap, not}
use Rattle.marker_store.proofs.Deeds.{bare_aside}
use Rattle.marker_store.proofs.chains.Chains.has_aside.Goals as goal

pub returns : goal.returns
returns g c = ap not (bare_aside _ c.self.invariant _ c.self.view_is)
