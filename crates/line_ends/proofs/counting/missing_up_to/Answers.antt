use Rattle.std.proofs.Common.{◌++◌, arith, length-append}
use Rattle.line_ends.proofs.Missing.{one_more}
use Rattle.line_ends.proofs.counting.missing_up_to.Goals as goal

pub counting-preserved : goal.counting-preserved
counting-preserved c =
    let a = c.args in
    let next = c.in-Some.ensures in
    let behind = next.behind in
    let within = next.within in
    let more = one_more a.to (a.first.now ++ a.second.now) c.counting.place c.in-Some.found next in
    let few = c.counting.invariant.few in
    let counted = c.counting.invariant.counted in
    let below = c.counting-test.true in
    record { few = omega arith; within = omega (arith, length-append a.first.now a.second.now); most = omega arith; counted = omega arith }
