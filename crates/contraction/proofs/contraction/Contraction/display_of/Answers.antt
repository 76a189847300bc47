use Rattle.contraction.proofs.Names.{◌+◌, arith}
use Rattle.contraction.proofs.Outside.{outside_before}
use Rattle.contraction.proofs.contraction.Contraction.display_of.Goals as goal

pub overflow_sub-line : goal.overflow_sub-line
overflow_sub-line g c =
    let i = c.before_likely-hidden in
    omega (arith, outside_before c.self.inside.hidden.numbers c.self.inside.hidden.length i.ensures.sound (c.args.line + 1) i.result i.ensures.before)
