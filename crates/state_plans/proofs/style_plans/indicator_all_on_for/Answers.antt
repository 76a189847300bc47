use Rattle.state_plans.proofs.Names.{◌≡◌, ◌∙◌, ap, rules, pos, nat_abs, to_z, of_z, w64, answer, mask_of}
use Rattle.state_plans.proofs.Runs.{all_on}
use Rattle.state_plans.proofs.style_plans.indicator_all_on_for.Goals as goal

pub returns : goal.returns
returns c =
    let r = c.args.r.now in
    let lists = c.indicators.result.now.decorated.values in
    let same : to_z w64 (of_z w64 c.r-inside.inside.0.1.1.1.0.w) ≡ r.message.w = search rules in
    let place : r.message.w ≡ pos (nat_abs r.message.w) = search rules in
    let values : lists ≡ r.document.indicators = search rules in
    let mask : c.mask_at.result ≡ mask_of r.document.indicators (nat_abs r.message.w) =
    c.mask_at.ensures ∙ ap (λ w. mask_of lists (nat_abs w)) same ∙ ap (λ lists. mask_of lists (nat_abs r.message.w)) values in
    let value : to_z w64 (of_z w64 c.from.result) ≡ pos c.mask_at.result = search rules in
    ap answer value ∙ all_on r (nat_abs r.message.w) c.mask_at.result mask place
