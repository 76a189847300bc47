use Rattle.std.proofs.Common.{◌-◌, length, arith}
use Rattle.line_ends.proofs.Halves.{quiet_in_first, quiet_in_second, quiet_across}
use Rattle.line_ends.proofs.reading.next_end.Goals as goal

pub returns-then-from-middle-clause-quiet : goal.returns-then-from-middle-clause-quiet
returns-then-from-middle-clause-quiet c =
    let a = c.args in
    quiet_in_second a.first.now a.second.now (a.from - length a.first.now) (length a.second.now) c.quiet_bytes.result a.from (omega arith) c.quiet_bytes.ensures.within c.quiet_bytes.ensures.quiet

pub returns-then-from-quiet-clause-quiet : goal.returns-then-from-quiet-clause-quiet
returns-then-from-quiet-clause-quiet c =
    let a = c.args in
    quiet_in_first a.first.now a.second.now a.from (length a.first.now) c.quiet_bytes-quiet.result c.quiet_bytes-quiet.ensures.within c.quiet_bytes-quiet.ensures.quiet

pub returns-clause-quiet : goal.returns-clause-quiet
returns-clause-quiet c =
    let a = c.args in
    quiet_across a.first.now a.second.now a.from c.quiet_bytes-quiet.result c.quiet_bytes-2.result (omega arith) c.quiet_bytes-quiet.ensures.within (omega arith) c.quiet_bytes-quiet.ensures.quiet
    c.quiet_bytes-2.ensures.within c.quiet_bytes-2.ensures.quiet
