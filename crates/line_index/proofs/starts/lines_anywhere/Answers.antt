use Rattle.std.proofs.Common.{sym}
use Rattle.line_index.proofs.Finding.{line_of_last}
use Rattle.line_index.proofs.starts.lines_anywhere.Goals as goal

pub returns-in-Some-clause-line : goal.returns-in-Some-clause-line
returns-in-Some-clause-line g c = sym (line_of_last c.starts_are_sound.ensures.sound c.in-Some.ensures.front)
