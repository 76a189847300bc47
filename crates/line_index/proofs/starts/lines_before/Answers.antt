use Rattle.std.proofs.Common.{arith}
use Rattle.line_index.proofs.Finding.{lines_in_front, none_in_front}
use Rattle.line_index.proofs.starts.lines_before.Goals as goal

pub returns-then-place-eq0 : goal.returns-then-place-eq0
returns-then-place-eq0 g c = none_in_front c.args.starts.now.starts c.args.place (omega arith)

pub returns-else-place-eq0 : goal.returns-else-place-eq0
returns-else-place-eq0 g c = lines_in_front c.args.starts.now.starts c.args.starts.now.length c.args.place c.args.line c.starts_are_sound.ensures.sound (omega arith) c.requires
