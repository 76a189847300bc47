use Rattle.script_ends.proofs.Names.{ap, ◌∙◌, Err, checked, none, unread}
use Rattle.std.proofs.lemmas.Result.{err_from_is_err_and}
use Rattle.script_ends.proofs.Writing.{no_memory}
use Rattle.script_ends.proofs.listing.check_script.Goals as goal

pub returns-in_err-script-clause-checked : goal.returns-in_err-script-clause-checked
returns-in_err-script-clause-checked g c =
    let p = err_from_is_err_and c.from_residual.result c.from_residual.ensures.1 in
    unread checked none c.from_residual.result c.in_err-script.field-0.0 _ _ (p.1 ∙ ap Err p.2) c.in_err-script.ensures.script

pub returns-in_err-line-clause-checked : goal.returns-in_err-line-clause-checked
returns-in_err-line-clause-checked g c =
    let p = err_from_is_err_and c.from_residual-in_err-line.result c.from_residual-in_err-line.ensures.1 in
    no_memory checked none c.from_residual-in_err-line.result _ c.in_ok-script.script _ _ p.1 p.2 c.in_ok-script.ensures.script

pub returns-in_err-append_number-clause-checked : goal.returns-in_err-append_number-clause-checked
returns-in_err-append_number-clause-checked g c =
    let p = err_from_is_err_and c.from_residual-in_err-append_number.result c.from_residual-in_err-append_number.ensures.1 in
    no_memory checked none c.from_residual-in_err-append_number.result _ c.in_ok-script.script _ _ p.1 p.2 c.in_ok-script.ensures.script
