use Rattle.std.proofs.Common.{◌+◌, length, arith}
use Rattle.line_index.proofs.Blocks.{counted_both}
use Rattle.line_index.proofs.StartLists.{all_up_to}
use Rattle.line_index.proofs.room.lines_in.Goals as goal

pub returns-clause-lines : goal.returns-clause-lines
returns-clause-lines c =
    let both = counted_both c.lines_seen-lines.ensures.counted c.count_starts.ensures (omega arith) (omega (arith, c.lines_seen-lines.ensures.within)) in
    omega (arith, both.lines, all_up_to c.args.types c.args.bytes.now (length c.args.bytes.now + 1) 0 (omega arith))
