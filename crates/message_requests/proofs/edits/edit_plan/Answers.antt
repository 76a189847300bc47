use Rattle.std.proofs.Common.{◌≡◌, ◌∙◌, ap, ℤ, to_z, of_z, w64, rules}
use Rattle.ed_model.specs.declared.plan.Edit.TheVariants.{Replace}
use Rattle.ed_model.specs.declared.plan.Plan.TheVariants.{Edit}
use Rattle.message_requests.specs.Replacing.{edit_if}
use Rattle.message_requests.proofs.Replacements.{replacement_decided}
use Rattle.message_requests.proofs.edits.edit_plan.Goals as goal

pub returns : goal.returns
returns c =
    let e = c.args.replacement in
    let edit = λ (value : ℤ). Edit (Replace e.start e.count e.source) value c.args.follow in
    let value : to_z w64 (of_z w64 c.args.value) ≡ c.args.value = search rules in
    c.edit_if.ensures
    ∙ ap (λ v. edit_if c.is_kept_out.result c.keeps_limit.result (edit v)) value
    ∙ replacement_decided c.args.r.now e.start e.count e.source e.added (edit c.args.value) c.is_kept_out.result c.keeps_limit.result c.requires.range c.requires.added
    c.is_kept_out.ensures c.keeps_limit.ensures
