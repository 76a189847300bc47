use Rattle.marker_store.proofs.Names.{get_or, arith}
use Rattle.std.proofs.Common.{below_more}
use Rattle.std.proofs.lemmas.Nat.{le_or_l, le_or_r}
use Rattle.marker_store.proofs.zeros.are_zero.Goals as goal

pub loop-number-preserved : goal.loop-number-preserved
loop-number-preserved c =
    let bits = c.loop-number.bits in
    let number = get_or c.args.numbers.now c.loop-number.number-index 0 in
    below_more _ _ (λ k h. omega (arith, c.loop-number.invariant k h, le_or_l bits number)) (le_or_r bits number)
