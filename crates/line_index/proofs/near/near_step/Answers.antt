use Rattle.std.proofs.Common.{◌≡◌, ◌+◌, ◌^◌, ◌<◌, min, length, arith}
use Rattle.line_index.proofs.NearBytes.{near_in_halves}
use Rattle.line_index.proofs.near.near_step.Goals as goal

pub returns : goal.returns
returns c =
    let small : c.args.place + c.args.count < 2 ^ 64 = omega arith in
    let to : c.min-to.result ≡ min (c.args.place + c.args.count + 3) (length c.args.before.now + length c.args.after.now) = omega arith in
    rw (c.min-2.ensures, c.min.ensures, c.max-2.ensures, c.max.ensures)
    (near_in_halves c.args.before.now c.args.after.now c.args.place c.args.count c.saturating_sub-from.result c.min-to.result (omega arith) to c.requires)
