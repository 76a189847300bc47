use Rattle.std.proofs.Common.{◌≡◌, ◌+◌, ap, sym, ◌∙◌, cond, Err}
use Rattle.std.proofs.lemmas.Result.{err_from_is_err_and}
use Rattle.script_jobs.proofs.Printing.{unrolled, before_outcome, go_on, put_failed, step_failed, counted_more, few_counted, counts_none}
use Rattle.script_jobs.proofs.running.run_commands.Goals as goal
use Rattle.script_jobs.proofs.running.run_commands.Goals.{then-is_unmet, else-is_unmet}

pub returns-in_err-outcome-clause-put : goal.returns-in_err-outcome-clause-put
returns-in_err-outcome-clause-put g c =
    let p = err_from_is_err_and c.from_residual.result c.from_residual.ensures.1 in
    step_failed c.from_residual.result _ _ _ _ _ _ _ p.1 p.2 c.loop-command.invariant.printed_so_far

pub returns-in_err-put_shown-clause-put : goal.returns-in_err-put_shown-clause-put
returns-in_err-put_shown-clause-put g c =
    let next = unrolled c.args.files.now c.args.commands.now c.loop-command.command-index c.command-item.result c.loop-command.run c.step.new.self c.in_ok-outcome.outcome c.loop-command-test.true c.command-item.is c.in_ok-outcome.ensures.state c.in_ok-outcome.ensures.outcome in
    let p = err_from_is_err_and c.from_residual-in_err-put_shown.result c.from_residual-in_err-put_shown.ensures.1 in
    put_failed c.from_residual-in_err-put_shown.result _ _ _ _ _ _ _ _ _ c.in_err-put_shown.field-0.0 (p.1 ∙ ap Err p.2) (before_outcome c.args.notes _ _ _ _ _ _ _ _ next c.loop-command.invariant.printed_so_far) c.in_err-put_shown.ensures.put

pub loop-command-preserved : goal.loop-command-preserved
loop-command-preserved g c =
    let next = unrolled c.args.files.now c.args.commands.now c.loop-command.command-index c.command-item.result c.loop-command.run c.step.new.self c.in_ok-outcome.outcome c.loop-command-test.true c.command-item.is c.in_ok-outcome.ensures.state c.in_ok-outcome.ensures.outcome in
    let grown : c.if-is_unmet.unmet ≡ c.loop-command.unmet + cond c.is_unmet.result 1 0 = elim c.if-is_unmet.branch [
      | then-is_unmet w ↦ w.unmet-is ∙ ap (λ b. c.loop-command.unmet + cond b 1 0) (sym w.if-is_unmet.true)
      | else-is_unmet w ↦ counts_none _ _ _ w.if-is_unmet.false w.unmet-is
    ] in
    record {
      printed_so_far = go_on _ _ _ _ _ _ _ _ _ (before_outcome c.args.notes _ _ _ _ _ _ _ _ next c.loop-command.invariant.printed_so_far) c.in_ok-put_shown.ensures.put;
      counted = counted_more _ _ _ c.is_unmet.result _ _ _ next c.is_unmet.ensures grown c.loop-command.invariant.counted;
      few = few_counted _ _ _ c.is_unmet.result grown c.loop-command.invariant.few;
      fresh = c.in_ok-put_shown.ensures.cause;
    }
