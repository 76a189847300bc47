use Rattle.std.proofs.Common.{◌∙◌, ◌<◌, ◌+◌, arith, length, pos}
use Rattle.ed_model.specs.declared.plan.Follow.TheVariants as follow
use Rattle.ed_model.specs.Session.{limit_of}
use Rattle.ed_model.specs.Edits.{source_bytes}
use Rattle.message_requests.proofs.Replacements.{passed_over}
use Rattle.message_requests.proofs.edits.replace_and_go.Goals as goal

pub returns-in-None : goal.returns-in-None
returns-in-None c =
    let r = c.args.r.now in
    let e = c.args.replacement in
    let some : 0 < e.added = omega (arith, c.limit.ensures) in
    let far : limit_of r.session.limits r.document < e.start + e.added = omega (arith, c.limit.ensures) in
    c.edit_plan-in-None.ensures
    ∙ passed_over r e.start e.count e.source e.added (pos 0) follow.Nothing (follow.Caret (e.start + length (source_bytes r e.source))) c.requires.range c.requires.added some far
