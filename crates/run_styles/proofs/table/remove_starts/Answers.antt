use Rattle.run_styles.proofs.Names.{arith, refl}
use Rattle.run_styles.proofs.ByIndex.{remove-seam}
use Rattle.run_styles.proofs.table.remove_starts.Goals as goal

pub loop-preserved : goal.loop-preserved
loop-preserved g c =
    rw (c.remove.ensures.removed, c.loop.invariant, remove-seam c.args.starts.now.starts c.args.from c.loop.counter (omega arith) (omega arith)) refl
