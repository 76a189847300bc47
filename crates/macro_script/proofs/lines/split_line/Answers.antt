use Rattle.macro_script.proofs.Splitting.{no_line, one_line}
use Rattle.macro_script.proofs.lines.split_line.Goals as goal

pub returns : goal.returns
returns c = one_line c.args.text.now c.in-Some.end c.in-Some.ensures.0 c.in-Some.ensures.1

pub returns-in_default : goal.returns-in_default
returns-in_default c = no_line c.args.text.now c.in_default.ensures
