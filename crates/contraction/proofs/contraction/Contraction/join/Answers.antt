use Rattle.contraction.proofs.Names.{◌+◌, ◌<◌, arith}
use Rattle.contraction.proofs.Kept.{kept_length}
use Rattle.contraction.proofs.Changed.{joined}
use Rattle.contraction.proofs.contraction.Contraction.join.Goals as goal

pub returns : goal.returns
returns g c =
    let inside : c.args.line + c.args.count < c.self.inside.hidden.length = grind (arith, kept_length) in
    rw (← c.self.view_is) (joined c.self.inside.hidden c.take_lines_out.new.self c.self.inside.contracted c.take_lines_out-2.new.self c.args.line c.args.count inside c.take_lines_out.ensures c.take_lines_out-2.ensures)
