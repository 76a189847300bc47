-- What a change of the view does is what its plan would.
use Rattle.editor_session.proofs.Names.{rules, ◌≡◌, ◌∙◌, Ok, ap, refl, plan_of, IsPlannedAs}
use Rattle.ed_model.specs.declared.plan.Plan.TheVariants as plan
use Rattle.message_requests.specs.Changing.{view_plan}
use Rattle.editor_session.proofs.TableWay.{has_plan, can_as}
use Rattle.editor_session.proofs.setting.set.Goals as goal

pub perform_view_change-requires : goal.perform_view_change-requires
perform_view_change-requires c =
    let e = c.in-Ok.ensures in let a = c.args in let f = c.in_ok-plan.plan in
    let is : plan_of c.in-Ok.kind c.in-Ok.request ≡ Ok (plan.ChangeView c.in-Some.change f.value) =
    c.in_ok-plan.ensures.planned ∙ ap (λ change. Ok (view_plan change f.value)) c.in-Some.is in
    let planned : IsPlannedAs a.session.now a.view a.message.now c.id.result (plan.ChangeView c.in-Some.change f.value) c.is_recorded.result =
    has_plan c.plans_are_fit.ensures.in_range c.in-Ok.request e.request e.found is _ (search rules) _ (search rules) in
    record { can = can_as planned.can refl (λ h. h) }
