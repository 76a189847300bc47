use Rattle.std.proofs.Common.{◌/◌}
use Rattle.contraction.proofs.Names.{◌+◌, ◌-◌, length, ap, arith, rising_to, Numbers}
use Rattle.contraction.proofs.line_set.LineSet.before_nth.Goals as goal

pub overflow_sub-number : goal.overflow_sub-number
overflow_sub-number g c =
    let middle = c.halving.low + c.halving.width / 2 - 1 in
    omega (arith, c.number.ensures.number, rising_to c.self.inside.lines.numbers c.self.invariant.rising 0 middle (omega arith) (omega (arith, c.halving.invariant.in_range.1, ap (λ (r : Numbers). length r.numbers) c.self.view_is)))
