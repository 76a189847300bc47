use Rattle.scene.proofs.Staying.{stay_both}
use Rattle.scene.proofs.conversion.make_all.Goals as goal

pub returns-clause-rooms : goal.returns-clause-rooms
returns-clause-rooms c = stay_both c.put_missing-later.ensures.left.rooms c.take_unwanted.ensures.rooms
