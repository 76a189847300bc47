use Rattle.editor_session.proofs.Names.{rules, err_from_is_err_and}
use Rattle.editor_session.proofs.TableWay.{has_plan, refused_so}
use Rattle.editor_session.proofs.sending.answer_change.Goals as goal

pub returns-in_err-found-clause-answered : goal.returns-in_err-found-clause-answered
returns-in_err-found-clause-answered c = let p = err_from_is_err_and c.from_residual.result c.from_residual.ensures.1 in rw (p.1, p.2) (refused_so c.in_err-found.ensures.refused c.in_err-found.ensures.memory)

pub make_change-requires : goal.make_change-requires
make_change-requires c =
    let e = c.in_ok-found.ensures in
    record { planned = has_plan c.plans_are_fit.ensures.in_range c.in_ok-found.request e.request e.found (search rules) _ (search rules) _ (search rules) }
