use Rattle.line_index.proofs.Names.{◌-◌, length, Default}
use Rattle.line_index.specs.Index.{CountsUpTo}
use Rattle.line_index.proofs.room.lines_behind_blocks.Given as goal

abbrev pub invariant-adding : goal.invariant-adding
invariant-adding l = record { counts : CountsUpTo Default l.bytes (l.lines, l.place) }

abbrev pub decreases-adding : goal.decreases-adding
decreases-adding l = length l.bytes - l.place
