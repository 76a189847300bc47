use Rattle.contraction.proofs.Names.{sym, ◌∙◌, arith, le-ltb}
use Rattle.contraction.proofs.LineSets.{found_at, not_there}
use Rattle.contraction.proofs.line_set.LineSet.contains.Goals as goal

pub returns-then-before-count : goal.returns-then-before-count
returns-then-before-count g c =
    let i = c.before_likely-before in
    found_at i.ensures.sound i.ensures.before (omega (arith, c.if-before-count.true, c.count.ensures.count)) (rw c.self.view_is at c.number.ensures.number)

pub returns-else-before-count : goal.returns-else-before-count
returns-else-before-count g c =
    let i = c.before_likely-before in
    le-ltb i.result c.count.result c.if-before-count.false
    ∙ sym (not_there i.ensures.sound i.ensures.before (λ h _. absurd (omega (arith, c.if-before-count.false, c.count.ensures.count))))
