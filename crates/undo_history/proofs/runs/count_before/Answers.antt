use Rattle.undo_history.proofs.Names.{arith}
use Rattle.undo_history.proofs.Reading.{count_step}
use Rattle.undo_history.proofs.runs.count_before.Goals as goal

pub returns-then-steps-i : goal.returns-then-steps-i
returns-then-steps-i c = λ bytes. let step = count_step c.args.steps.now bytes c.loop-i.i (omega arith) (omega arith) in omega (arith, c.loop-i.invariant bytes, rw c.if-steps-i.true at step)

pub loop-i-preserved : goal.loop-i-preserved
loop-i-preserved c = λ bytes. let step = count_step c.args.steps.now bytes c.loop-i.i (omega arith) (omega arith) in omega (arith, c.loop-i.invariant bytes, rw c.if-steps-i.false at step)
