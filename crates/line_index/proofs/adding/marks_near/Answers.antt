use Rattle.std.proofs.Common.{◌-◌, length, arith}
use Rattle.line_index.proofs.TextBytes.{marked_in_first, marked_in_second}
use Rattle.line_index.proofs.adding.marks_near.Goals as goal

pub returns-then-middle-front : goal.returns-then-middle-front
returns-then-middle-front c = (
  omega arith,
  marked_in_second c.args.text.types c.args.text.before.now c.args.text.after.now (c.args.place - 1 - length c.args.text.before.now) c.args.place c.marks.result (omega arith) (omega arith) c.marks.ensures,
)

pub returns : goal.returns
returns c = (
  omega arith,
  marked_in_first c.args.text.types c.args.text.before.now c.args.text.after.now (c.args.place - 1) c.args.place c.marks-2.result (omega arith) (omega arith) c.marks-2.ensures,
)
