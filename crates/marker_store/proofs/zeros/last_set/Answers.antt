use Rattle.marker_store.proofs.Names.{◌-◌, refl, arith}
use Rattle.marker_store.proofs.Blocks.{joined, in_block}
use Rattle.marker_store.proofs.zeros.last_set.Goals as goal

pub blocks-2-preserved : goal.blocks-2-preserved
blocks-2-preserved c =
    let numbers = c.args.numbers.now in
    let behind = c.blocks-2.behind in
    let i = c.blocks-2.invariant in
    record {
      within = omega (arith, i.within);
      zero = joined numbers (behind - 16) behind c.args.end (in_block numbers (behind - 16) behind (omega (arith, i.within, c.requires)) (c.if-are_zero.ensures refl)) i.zero;
    }
