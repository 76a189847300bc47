use Rattle.line_index.proofs.Names.{◌+◌, Default, AreStarts}
use Rattle.line_index.proofs.room.lines_behind_block.Given as goal

abbrev pub invariant-loop-place : goal.invariant-loop-place
invariant-loop-place l = AreStarts Default l.bytes (l.from + 1) (l.place + 1) l.lines
