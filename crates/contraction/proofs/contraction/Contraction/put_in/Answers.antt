use Rattle.contraction.proofs.Names.{◌≤◌, arith}
use Rattle.contraction.proofs.Kept.{kept_length}
use Rattle.contraction.proofs.Changed.{put_in}
use Rattle.contraction.proofs.contraction.Contraction.put_in.Goals as goal

pub returns : goal.returns
returns g c =
    let inside : c.args.line ≤ c.self.inside.hidden.length = grind (arith, kept_length) in
    rw (← c.self.view_is) (put_in c.self.inside.hidden c.put_lines_in.new.self c.self.inside.contracted c.put_lines_in-2.new.self c.args.line c.args.count inside c.put_lines_in.ensures c.put_lines_in-2.ensures)
