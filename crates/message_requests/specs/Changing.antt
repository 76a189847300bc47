-- The plan of a message that makes one change of its document other than an edit of the text, or none; and that of a message that changes its view
-- alone.
use Rattle.std.specs.Prelude.{ℤ, Option, Some, None, Result, Ok, Err}
use Rattle.ed_types.specs.declared.refusal.Refusal.{Refusal}
use Rattle.ed_model.specs.declared.plan.DocumentChange.{DocumentChange}
use Rattle.ed_model.specs.declared.plan.ViewChange.{ViewChange}
use Rattle.ed_model.specs.declared.plan.Plan.{Plan}
use Rattle.ed_model.specs.declared.plan.Plan.TheVariants as plan
use Rattle.ed_model.specs.Requests.{Planned}
use Rattle.message_requests.specs.declared.answers.ChangePlan.{ChangePlan}
use Rattle.message_requests.specs.declared.answers.ViewPlan.{ViewPlan}

-- the plan that makes the change, if there is one, and answers the value
abbrev pub plan_with : Option DocumentChange → ℤ → Plan
plan_with (Some change) value = plan.ChangeDocument change value
plan_with None value = plan.Answer value

abbrev pub changing : ChangePlan → Planned
changing it = Ok (plan_with it.change it.value)

abbrev pub changed : Result ChangePlan Refusal → Planned
changed (Ok it) = changing it
changed (Err refusal) = Err refusal

-- the same of a change of the view
abbrev pub view_plan : Option ViewChange → ℤ → Plan
view_plan (Some change) value = plan.ChangeView change value
view_plan None value = plan.Answer value

abbrev pub view_changing : ViewPlan → Planned
view_changing it = Ok (view_plan it.change it.value)

abbrev pub view_changed : Result ViewPlan Refusal → Planned
view_changed (Ok it) = view_changing it
view_changed (Err refusal) = Err refusal
