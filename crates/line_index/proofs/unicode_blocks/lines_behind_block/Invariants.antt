use Rattle.line_index.proofs.Names.{◌+◌, Unicode, AreStarts}
use Rattle.line_index.proofs.unicode_blocks.lines_behind_block.Given as goal

abbrev pub invariant-loop-place : goal.invariant-loop-place
invariant-loop-place l = AreStarts Unicode l.bytes (l.from + 1) (l.place + 1) l.lines
