use Rattle.marker_store.proofs.Names.{◌+◌, refl, arith}
use Rattle.marker_store.proofs.Blocks.{joined, in_block}
use Rattle.marker_store.proofs.zeros.first_set.Goals as goal

pub blocks-2-preserved : goal.blocks-2-preserved
blocks-2-preserved c =
    let numbers = c.args.numbers.now in
    let index = c.blocks-2.index in
    let i = c.blocks-2.invariant in
    record {
      low = omega (arith, i.low);
      high = omega (arith, i.high, c.blocks-2-test.true);
      zero = joined numbers c.args.from index (index + 16) i.zero (in_block numbers index (index + 16) (omega (arith, i.high, c.blocks-2-test.true)) (c.if-are_zero.ensures refl));
    }
