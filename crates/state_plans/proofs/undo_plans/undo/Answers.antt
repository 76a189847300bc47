use Rattle.state_plans.proofs.Names.{◌≡◌, ◌∙◌, ap, subst, rules, IsSoundRequest, can_undo, act_if}
use Rattle.ed_model.specs.declared.plan.Plan.TheVariants.{Undo}
use Rattle.state_plans.proofs.Undoing.{undo_planned}
use Rattle.state_plans.proofs.undo_plans.undo.Goals as goal

pub returns : goal.returns
returns c =
    let r = c.args.r.now in
    let can : c.can_undo.result ≡ can_undo r.document.history = search rules in
    let read_only : c.is_read_only.result ≡ r.document.read_only = search rules in
    c.act_if.ensures ∙ ap (λ b. act_if b c.is_read_only.result Undo) can ∙ ap (λ b. act_if (can_undo r.document.history) b Undo) read_only
    ∙ undo_planned c.undo_and_redo_are_never_too_long.ensures.undo r (subst IsSoundRequest c.r.view_is c.r.invariant.1)
