use Rattle.cell_buffer.proofs.Names.{take}
use Rattle.cell_buffer.proofs.Changed.{Written}
use Rattle.cell_buffer.proofs.styling.overwrite.Given as goal

abbrev pub invariant-loop-i : goal.invariant-loop-i
invariant-loop-i l = Written l.start (take l.i l.new) l.ends l.initial.styles l.styles
