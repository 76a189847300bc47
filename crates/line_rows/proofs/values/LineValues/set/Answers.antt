use Rattle.line_rows.proofs.Names.{◌≡◌, ◌<◌, ◌≤◌, ◌+◌, ◌∙◌, ap, arith, length, length-set, padded}
use Rattle.line_rows.proofs.Padded.{padded_set, padded_set_stored, padded_length, value_set}
use Rattle.line_rows.proofs.values.LineValues.set.Goals as goal

pub returns-then-line-len : goal.returns-then-line-len
returns-then-line-len g c =
    let d = c.self.inside in
    let items = d.stored.items in
    let line = c.args.line in
    let new = c.set.new.self in
    let is = ap (λ s. s.items) c.set.ensures in
    let long = ap length is ∙ length-set items line c.args.value in
    let stored : line < length items = omega (arith, c.if-line-len.true, c.len.ensures.len) in
    value_set d.stored new d.default d.lines line c.args.value c.args.self.now c.self.view_is (ap (padded d.default d.lines) is ∙ padded_set_stored d.default items d.lines line c.args.value c.self.invariant stored) (omega (arith, long, stored)) (ap (λ s. s.capacity) c.set.ensures)

pub returns-else-line-len : goal.returns-else-line-len
returns-else-line-len g c =
    let d = c.self.inside in
    let items = d.stored.items in
    let line = c.args.line in
    let end = line + 1 in
    let long : length (padded d.default d.lines items) ≡ d.lines = padded_length d.default d.lines items c.self.invariant in
    let same : length (padded d.default d.lines items) ≡ length c.args.self.now.values = ap (λ v. length v.values) c.self.view_is in
    let inside : line < d.lines = omega arith in
    let behind : length items ≤ line = omega (arith, c.if-line-len.false, c.len.ensures.len) in
    let all : length (padded d.default end items) ≡ end = padded_length d.default end items (omega arith) in
    let reached = ap length c.put_behind.ensures.0 ∙ length-set (padded d.default end items) line c.args.value in
    value_set d.stored c.put_behind.new.stored d.default d.lines line c.args.value c.args.self.now c.self.view_is
    (ap (padded d.default d.lines) c.put_behind.ensures.0 ∙ padded_set d.default items d.lines end line c.args.value c.self.invariant (omega arith) (omega arith) (omega arith))
    (omega (arith, reached, all, behind)) c.put_behind.ensures.1
