use Rattle.std.proofs.Common.{◌-◌, length, arith}
use Rattle.line_index.proofs.TextBytes.{none_in_first, none_in_second, none_across}
use Rattle.line_index.proofs.halves.next_of_many.Goals as goal

pub returns-then-last-middle-clause-none : goal.returns-then-last-middle-clause-none
returns-then-last-middle-clause-none c =
    none_in_first c.args.text.types c.args.text.before.now c.args.text.after.now c.args.place (c.args.to - 1) c.quiet_bytes.result c.quiet_bytes.ensures.within c.quiet_bytes.ensures.quiet

pub returns-then-place-quiet-clause-none : goal.returns-then-place-quiet-clause-none
returns-then-place-quiet-clause-none c =
    none_in_first c.args.text.types c.args.text.before.now c.args.text.after.now c.args.place (length c.args.text.before.now) c.quiet_bytes-quiet.result c.quiet_bytes-quiet.ensures.within c.quiet_bytes-quiet.ensures.quiet

pub returns-then-place-middle-clause-none : goal.returns-then-place-middle-clause-none
returns-then-place-middle-clause-none c =
    none_across c.args.text.types c.args.text.before.now c.args.text.after.now c.args.place c.quiet_bytes-quiet.result (c.args.to - 1 - length c.args.text.before.now) c.quiet_bytes-then-place-middle.result
    (omega arith) c.quiet_bytes-quiet.ensures.within (omega arith) c.quiet_bytes-quiet.ensures.quiet c.quiet_bytes-then-place-middle.ensures.within c.quiet_bytes-then-place-middle.ensures.quiet

pub returns-clause-none : goal.returns-clause-none
returns-clause-none c =
    none_in_second c.args.text.types c.args.text.before.now c.args.text.after.now (c.args.place - length c.args.text.before.now) (c.args.to - 1 - length c.args.text.before.now) c.quiet_bytes-2.result c.args.place (omega arith) c.quiet_bytes-2.ensures.within c.quiet_bytes-2.ensures.quiet
