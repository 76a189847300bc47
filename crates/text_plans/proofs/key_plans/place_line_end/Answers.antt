use Rattle.std.proofs.Common.{◌∙◌, ap}
use Rattle.ed_model.specs.Requests.{line_at}
use Rattle.ed_model.specs.TextPlans.{line_end}
use Rattle.text_plans.proofs.key_plans.place_line_end.Goals as goal

pub returns : goal.returns
returns c =
    let r = c.args.r.now in
    c.line_end.ensures.end ∙ ap (line_end r) (c.line_at.ensures.line ∙ ap (line_at r) c.caret.ensures.caret)
