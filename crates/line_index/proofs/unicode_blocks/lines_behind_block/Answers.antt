use Rattle.std.proofs.Common.{arith}
use Rattle.line_index.proofs.Blocks.{counted_both, counted_byte_wide}
use Rattle.line_index.proofs.unicode_blocks.lines_behind_block.Goals as goal

pub loop-place-preserved : goal.loop-place-preserved
loop-place-preserved c = counted_both c.loop-place.invariant (counted_byte_wide c.loop-place.place c.ends_with-lines.ensures (omega (arith, c.requires.0)) (omega arith)) (omega arith) (omega arith)
