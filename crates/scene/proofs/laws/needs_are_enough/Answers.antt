use Rattle.scene.proofs.NeedLemmas.{needs_enough}
use Rattle.scene.proofs.laws.needs_are_enough.Goals as goal

pub returns : goal.returns
returns c = needs_enough
