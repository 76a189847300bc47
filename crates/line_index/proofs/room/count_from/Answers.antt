use Rattle.std.proofs.Common.{arith}
use Rattle.line_index.proofs.Blocks.{counted_both, counted_past}
use Rattle.line_index.proofs.room.count_from.Goals as goal

pub counting-preserved : goal.counting-preserved
counting-preserved c =
    let next = c.next_place-place in
    let inv = c.counting.invariant in
    record {
      counted = counted_past (counted_both inv.counted c.lines_at-lines.ensures inv.low (omega arith)) next.result (λ k a b. next.ensures.none k (omega arith) b) (omega (arith, inv.low)) (omega (arith, next.ensures.within.0));
      low = omega (arith, next.ensures.within.0, inv.low);
      high = next.ensures.within.1;
    }
