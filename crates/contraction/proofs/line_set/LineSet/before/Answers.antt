use Rattle.contraction.proofs.Names.{◌≡◌, ◌+◌, ◌-◌, arith}
use Rattle.contraction.proofs.LineSets.{parted_at}
use Rattle.contraction.proofs.line_set.LineSet.before.Goals as goal

pub returns-then-number-line-clause-before : goal.returns-then-number-line-clause-before
returns-then-number-line-clause-before g c =
    rw (← c.self.view_is)
    (parted_at c.args.line c.count-count.result c.self.invariant (omega (arith, c.count-count.ensures.count)) (λ _. omega (arith, c.number.ensures.number, c.if-number-line.true))
    (λ h. absurd (omega (arith, c.count-count.ensures.count))))

pub returns-then-line-number-clause-before : goal.returns-then-line-number-clause-before
returns-then-line-number-clause-before g c =
    rw (← c.self.view_is)
    (parted_at c.args.line 0 c.self.invariant (omega arith) (λ h. absurd (omega arith)) (λ h. omega (arith, c.number-2.ensures.number, c.if-line-number.true)))

pub returns-clause-before : goal.returns-clause-before
returns-clause-before g c =
    let i = c.last_by_quarters.result in
    let last = c.last_by_quarters.ensures in
    let q : i + 1 - 1 ≡ i = omega arith in
    rw (← c.self.view_is)
    (parted_at c.args.line (i + 1) c.self.invariant (omega (arith, last.within)) (λ _. rw q (omega (arith, last.at_most))) (λ h. omega (arith, last.last (i + 1) (omega arith) h)))
