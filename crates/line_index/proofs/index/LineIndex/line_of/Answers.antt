use Rattle.std.proofs.Common.{sym}
use Rattle.line_index.proofs.Finding.{line_of_last}
use Rattle.line_index.proofs.index.LineIndex.line_of.Goals as goal

pub returns-clause-line : goal.returns-clause-line
returns-clause-line g c = rw (← c.self.view_is) (sym (line_of_last c.starts_are_sound.ensures.sound c.partition_of.ensures.last))
