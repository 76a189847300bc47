use Rattle.std.proofs.Common.{sym}
use Rattle.line_index.proofs.Finding.{line_of_last}
use Rattle.line_index.proofs.starts.likely_line.Goals as goal

pub returns-clause-line : goal.returns-clause-line
returns-clause-line g c = sym (line_of_last c.starts_are_sound.ensures.sound c.line_from.ensures)
