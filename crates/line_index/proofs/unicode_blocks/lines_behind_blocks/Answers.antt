use Rattle.std.proofs.Common.{refl, arith}
use Rattle.line_index.proofs.Blocks.{counted_next}
use Rattle.line_index.proofs.unicode_blocks.lines_behind_blocks.Goals as goal

pub adding-preserved : goal.adding-preserved
adding-preserved c =
    record { counts = record { counted = counted_next c.adding.invariant.counts.counted c.lines_behind_block-lines.ensures refl (omega arith) (omega arith) (omega arith); within = omega arith }; behind = omega (arith, c.adding.invariant.behind) }
