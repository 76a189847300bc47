use Rattle.line_index.proofs.Names.{◌-◌, ◌≤◌, length, min, Unicode}
use Rattle.line_index.specs.Index.{CountsUpTo}
use Rattle.line_index.proofs.unicode_blocks.lines_behind_blocks.Given as goal

abbrev pub invariant-adding : goal.invariant-adding
invariant-adding l = record { counts : CountsUpTo Unicode l.bytes (l.lines, l.place); behind : min (length l.bytes) 2 ≤ l.place }

abbrev pub decreases-adding : goal.decreases-adding
decreases-adding l = length l.bytes - l.place
