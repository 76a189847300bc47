use Rattle.std.proofs.Common.{arith}
use Rattle.macro_script.proofs.Pieces.{tail_length, stopped, rest_stopped, rest_appended}
use Rattle.macro_script.proofs.appending.append_spelled.Goals as goal

pub returns-in_err-at : goal.returns-in_err-at
returns-in_err-at c = stopped _ _ _ c.from_residual.result c.from_residual.ensures.0
    (rest_stopped c.args.text.now _ c.loop-at.out.items _ c.loop-at.at c.loop-at.invariant.appended c.in_err-at.ensures)

pub loop-at-preserved : goal.loop-at-preserved
loop-at-preserved c = record {
  within = omega (arith, c.in_ok-at.ensures.1, tail_length c.args.text.now c.loop-at.at);
  appended = rest_appended c.args.text.now _ c.loop-at.out.items _ c.loop-at.at c.in_ok-at.field-0 c.loop-at.invariant.appended c.in_ok-at.ensures.1 c.in_ok-at.ensures.2;
}
