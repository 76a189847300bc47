use Rattle.std.proofs.Common.{◌++◌, ◌∙◌, sym}
use Rattle.line_ends.proofs.Missing.{before_feed, behind_return}
use Rattle.line_ends.proofs.finding.next_missing.Goals as goal

pub returns-then-is_at : goal.returns-then-is_at
returns-then-is_at c =
    let a = c.args in
    before_feed a.to (a.first.now ++ a.second.now) a.from c.in_ok-place.place c.in_ok-place.ensures (sym c.is_at.ensures ∙ c.if-is_at.true)

pub returns-else-is_at : goal.returns-else-is_at
returns-else-is_at c =
    let a = c.args in
    behind_return a.to (a.first.now ++ a.second.now) a.from c.in_ok-place.place c.in_ok-place.ensures (sym c.is_at.ensures ∙ c.if-is_at.false)
