use Rattle.std.proofs.Common.{ap, ◌∙◌, Err}
use Rattle.std.proofs.lemmas.Result.{err_from_is_err_and}
use Rattle.script_jobs.specs.Runs.{printed_without_notes, unmet}
use Rattle.script_ends.specs.proved.Written.{unread}
use Rattle.script_jobs.proofs.running.run_without_notes.Goals as goal

pub returns-in_err-script-clause-ran : goal.returns-in_err-script-clause-ran
returns-in_err-script-clause-ran g c =
    let p = err_from_is_err_and c.from_residual.result c.from_residual.ensures.1 in
    unread (printed_without_notes c.args.files.now) (unmet c.args.files.now) c.from_residual.result c.in_err-script.field-0.0 _ _ (p.1 ∙ ap Err p.2) c.in_err-script.ensures.script
