use Rattle.undo_history.proofs.Names.{◌≡◌, [], ap, sym, arith, drop, drop_all, entries_in, next_count, joined_count}
use Rattle.undo_history.proofs.Parts.{entries_length}
use Rattle.undo_history.proofs.Reading.{joined_step, next_first}
use Rattle.undo_history.proofs.runs.count_behind.Goals as goal

pub returns-then-past-steps : goal.returns-then-past-steps
returns-then-past-steps c = λ bytes.
    ap next_count (sym (drop_all c.args.past (entries_in c.args.steps.now bytes) (omega (arith, entries_length 0 c.args.steps.now bytes))))

pub loop-i-init : goal.loop-i-init
loop-i-init c = λ bytes. omega (arith, ap next_count (next_first c.args.steps.now bytes c.args.past (omega arith)))

pub returns-then-steps-i : goal.returns-then-steps-i
returns-then-steps-i c = λ bytes. let step = joined_step c.args.steps.now bytes c.loop-i.i (omega arith) in omega (arith, c.loop-i.invariant bytes, rw c.if-steps-i.true at step)

pub loop-i-preserved : goal.loop-i-preserved
loop-i-preserved c = λ bytes. let step = joined_step c.args.steps.now bytes c.loop-i.i (omega arith) in omega (arith, c.loop-i.invariant bytes, rw c.if-steps-i.false at step)

pub returns : goal.returns
returns c = λ bytes.
    let none : drop c.loop-i.i (entries_in c.args.steps.now bytes) ≡ [] = drop_all c.loop-i.i (entries_in c.args.steps.now bytes) (omega (arith, entries_length 0 c.args.steps.now bytes)) in
    omega (arith, c.loop-i.invariant bytes, ap joined_count none)
