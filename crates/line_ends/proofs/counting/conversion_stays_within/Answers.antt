use Rattle.std.proofs.Common.{◌∙◌}
use Rattle.line_ends.proofs.Within.{some_kept, none_kept, rest_kept}
use Rattle.line_ends.proofs.counting.conversion_stays_within.Goals as goal

pub returns-then-missing-gt0 : goal.returns-then-missing-gt0
returns-then-missing-gt0 c =
    let a = c.args in
    c.keeps_limit.ensures ∙ some_kept a.limit a.to a.first.now a.second.now c.count_missing-missing.result c.count_missing-missing.ensures.count c.if-missing-gt0.true

pub returns-then-count_unwanted-eq0 : goal.returns-then-count_unwanted-eq0
returns-then-count_unwanted-eq0 c =
    let a = c.args in
    none_kept a.limit a.to a.first.now a.second.now c.count_missing-missing.result c.count_unwanted.result c.count_missing-missing.ensures.count c.if-missing-gt0.false c.count_unwanted.ensures.count c.if-count_unwanted-eq0.true

pub returns : goal.returns
returns c =
    let a = c.args in
    rest_kept a.limit a.to a.first.now a.second.now c.count_missing-missing.result c.count_unwanted.result c.saturating_sub.result c.count_missing-missing.ensures.count c.if-missing-gt0.false
    c.count_unwanted.ensures.count c.if-count_unwanted-eq0.false c.saturating_sub.ensures
