use Rattle.std.proofs.Common.{◌∙◌, ◌≡◌, ap, rules, pos, to_z, true, w64}
use Rattle.std.specs.Prelude.{int_lt}
use Rattle.ed_model.specs.Requests.{answer, line_at, selection_start}
use Rattle.ed_model.specs.TextPlans.{line_start}
use Rattle.text_plans.proofs.Lines.{start_at_negative}
use Rattle.text_plans.proofs.texts.position_from_line.Goals as goal

pub returns-then-r-lt0 : goal.returns-then-r-lt0
returns-then-r-lt0 c =
    let r = c.args.r.now in
    let negative : int_lt r.message.w (pos 0) ≡ true = search rules in
    let start : c.line_start.result ≡ line_start r (line_at r (selection_start r)) = search rules in
    let value : to_z w64 c.line_start.result ≡ pos c.line_start.result = search rules in
    ap answer value ∙ start_at_negative r r.message.w c.line_start.result negative start
