use Rattle.state_plans.proofs.Names.{◌≡◌, ◌∙◌, rules, true, false, Some, within, line_among, line_total}
use Rattle.state_plans.proofs.Masks.{set_added}
use Rattle.state_plans.proofs.line_plans.marker_add_set.Goals as goal

pub returns-then-has_handles_for : goal.returns-then-has_handles_for
returns-then-has_handles_for c =
    let r = c.args.r.now in
    let mask : within 0 4294967295 r.message.l ≡ Some c.in-Some.mask = search rules in
    let line : line_among (line_total r) r.message.w ≡ Some c.in-Some-line_among.line = search rules in
    c.change_document.ensures ∙ set_added r c.in-Some.mask c.in-Some-line_among.line c.has_handles_for.result true mask line c.has_handles_for.ensures c.if-has_handles_for.true

pub returns-else-has_handles_for : goal.returns-else-has_handles_for
returns-else-has_handles_for c =
    let r = c.args.r.now in
    let mask : within 0 4294967295 r.message.l ≡ Some c.in-Some.mask = search rules in
    let line : line_among (line_total r) r.message.w ≡ Some c.in-Some-line_among.line = search rules in
    set_added r c.in-Some.mask c.in-Some-line_among.line c.has_handles_for.result false mask line c.has_handles_for.ensures c.if-has_handles_for.false
