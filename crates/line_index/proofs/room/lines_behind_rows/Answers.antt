use Rattle.line_index.proofs.Names.{◌+◌, arith, Default, AreStarts}
use Rattle.line_index.proofs.Blocks.{counted_next}
use Rattle.line_index.proofs.room.lines_behind_rows.Goals as goal

pub loop-block-preserved : goal.loop-block-preserved
loop-block-preserved c =
    let inv = c.loop-block.invariant in
    let first = c.lines_behind_block-first.ensures in
    let second = c.lines_behind_block-second.ensures in
    let third = c.lines_behind_block-third.ensures in
    let fourth = c.lines_behind_block-fourth.ensures in
    record {
      first = counted_next inv.first first (omega arith) (omega arith) (omega arith) (omega arith);
      second = counted_next inv.second second (omega arith) (omega arith) (omega arith) (omega arith);
      third = counted_next inv.third third (omega arith) (omega arith) (omega arith) (omega arith);
      fourth = counted_next inv.fourth fourth (omega arith) (omega arith) (omega arith) (omega arith);
      few = omega (arith, inv.few, first.few, second.few, third.few, fourth.few);
    }

pub returns : goal.returns
returns c =
    let inv = c.loop-block.invariant in
    let half : AreStarts Default c.args.bytes.now (c.args.from + 1) (c.args.from + 24576 + 1) (c.loop-block.first + c.loop-block.second) =
    counted_next inv.first inv.second (omega arith) (omega arith) (omega arith) (omega arith) in
    let most : AreStarts Default c.args.bytes.now (c.args.from + 1) (c.args.from + 36864 + 1) (c.loop-block.first + c.loop-block.second + c.loop-block.third) =
    counted_next half inv.third (omega arith) (omega arith) (omega arith) (omega arith) in
    counted_next most inv.fourth (omega arith) (omega arith) (omega arith) (omega arith)
