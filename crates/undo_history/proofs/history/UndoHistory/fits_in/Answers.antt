use Rattle.undo_history.proofs.Names.{arith}
use Rattle.undo_history.proofs.Held.{blocks_fit}
use Rattle.undo_history.proofs.history.UndoHistory.fits_in.Goals as goal

pub returns : goal.returns
returns c = blocks_fit c.self.inside c.args.self.now 0 0 c.self.invariant.in_order c.self.view_is (omega (arith, c.len.ensures.fits)) (omega (arith, c.len-2.ensures.fits))
