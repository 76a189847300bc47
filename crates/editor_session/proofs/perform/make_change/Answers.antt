use Rattle.editor_session.proofs.Names.{rules, [], false, ◌≡◌, ◌∙◌, Ok, refl, ap, subst, quiet, IsPlannedAs}
use Rattle.ed_model.specs.declared.plan.Plan.TheVariants as plan
use Rattle.message_requests.specs.Changing.{plan_with}
use Rattle.editor_session.proofs.TableWay.{answered_so, can_as, quietly, replied_so, revalued}
use Rattle.editor_session.proofs.perform.make_change.Goals as goal

pub returns-in_default-clause-answered : goal.returns-in_default-clause-answered
returns-in_default-clause-answered c =
    let a = c.args in let t = a.task.now in let value = a.plan.value in
    let left : quiet value ≡ c.answer.new.self = search rules in
    let is : t.is_recorded ≡ false = search rules in
    let planned : IsPlannedAs a.session.now t.view t.message.now t.document (plan.Answer value) t.is_recorded =
    subst (λ change. IsPlannedAs a.session.now t.view t.message.now t.document (plan_with change value) t.is_recorded) c.in_default.is c.requires.planned in
    let unrecorded = subst (IsPlannedAs a.session.now t.view t.message.now t.document (plan.Answer value)) is planned in
    replied_so (answered_so unrecorded refl (quietly {new = a.session.now} [] refl) ∙ ap (λ x. Ok (a.session.now, x)) left)

pub perform_unheard_change-requires : goal.perform_unheard_change-requires
perform_unheard_change-requires c = record { can = can_as c.requires.planned.can (ap (λ change. plan_with change c.args.plan.value) c.in-Some.is) (λ h. h) }

pub returns-then-perform_unheard_change-clause-answered : goal.returns-then-perform_unheard_change-clause-answered
returns-then-perform_unheard_change-clause-answered c =
    let a = c.args in let t = a.task.now in let value = a.plan.value in
    let left : quiet value ≡ c.answer-then-perform_unheard_change.new.self = search rules in
    let is : t.is_recorded ≡ false = search rules in
    let planned : IsPlannedAs a.session.now t.view t.message.now t.document (plan.ChangeDocument c.in-Some.change value) t.is_recorded =
    subst (λ change. IsPlannedAs a.session.now t.view t.message.now t.document (plan_with change value) t.is_recorded) c.in-Some.is c.requires.planned in
    let unrecorded = subst (IsPlannedAs a.session.now t.view t.message.now t.document (plan.ChangeDocument c.in-Some.change value)) is planned in
    replied_so (answered_so unrecorded refl (revalued value (c.if-perform_unheard_change.ensures.done refl) refl) ∙ ap (λ x. Ok (c.perform_unheard_change.new.session, x)) left)
