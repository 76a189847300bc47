use Rattle.std.proofs.Common.{refl}
use Rattle.split_vector.proofs.Updating.{none_updated}
use Rattle.split_vector.proofs.cells.Cells.update_left.Goals as goal

pub loop-index-init : goal.loop-index-init
loop-index-init g c = record { others = refl; items = none_updated _ _ _ }
