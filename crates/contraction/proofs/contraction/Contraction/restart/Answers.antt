use Rattle.contraction.proofs.Names.{arith}
use Rattle.contraction.proofs.Changed.{restarted}
use Rattle.contraction.proofs.contraction.Contraction.restart.Goals as goal

pub returns : goal.returns
returns g c =
    rw (← c.self.view_is) (restarted c.take_lines_out.ensures c.take_lines_out-2.ensures c.put_lines_in.ensures c.put_lines_in-2.ensures (omega (arith, c.length-lines.ensures.length, c.self.invariant)))
