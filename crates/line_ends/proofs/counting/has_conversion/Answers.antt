use Rattle.std.proofs.Common.{◌++◌}
use Rattle.line_ends.proofs.Within.{some_there}
use Rattle.line_ends.proofs.counting.has_conversion.Goals as goal

pub returns-then-missing_up_to-gt0 : goal.returns-then-missing_up_to-gt0
returns-then-missing_up_to-gt0 c =
    some_there c.args.to (c.args.first.now ++ c.args.second.now) c.missing_up_to.result 1 c.missing_up_to.ensures.count c.if-missing_up_to-gt0.true
