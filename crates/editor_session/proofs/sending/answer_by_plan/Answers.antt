use Rattle.editor_session.proofs.Names.{rules, ◌≡◌, ◌∙◌, Err, ap, subst, IsFitPlanned, answered, plan_of, request_of, err_from_is_err_and}
use Rattle.editor_session.proofs.TableWay.{has_plan, refused_so}
use Rattle.editor_session.proofs.sending.answer_by_plan.Goals as goal

pub returns-in_err-kind-clause-answered : goal.returns-in_err-kind-clause-answered
returns-in_err-kind-clause-answered c = let p = err_from_is_err_and c.from_residual.result c.from_residual.ensures.1 in rw (p.1, p.2) (refused_so c.in_err-kind.ensures.refused c.in_err-kind.ensures.memory)

pub returns-in-Err-clause-answered : goal.returns-in-Err-clause-answered
returns-in-Err-clause-answered c =
    let kind = c.in_ok-kind.kind in let r = request_of c.args.session.now c.args.view c.args.message.now in let e = c.in_ok-kind.ensures in let refusal = c.in-Err.refusal in
    let found : plan_of kind c.in_ok-kind.request ≡ Err refusal = search rules in
    let planned : plan_of kind r ≡ Err refusal = subst (λ x. plan_of kind x ≡ Err refusal) e.request found in
    refused_so (e.found.answer ∙ ap (answered kind r) planned) (subst (IsFitPlanned r) planned (c.plans_are_fit.ensures.in_range kind r e.found.sound))

pub perform_message-requires : goal.perform_message-requires
perform_message-requires c =
    let e = c.in_ok-kind.ensures in
    record { planned = has_plan c.plans_are_fit.ensures.in_range c.in_ok-kind.request e.request e.found (search rules) _ (search rules) _ (search rules) }
