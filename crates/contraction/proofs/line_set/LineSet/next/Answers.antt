use Rattle.contraction.proofs.Names.{arith}
use Rattle.contraction.proofs.LineSets.{none_until}
use Rattle.contraction.proofs.line_set.LineSet.next.Goals as goal

pub returns-then-before-count-clause-outside : goal.returns-then-before-count-clause-outside
returns-then-before-count-clause-outside g c = λ k a b.
    none_until k c.before-before.ensures.sound c.before-before.ensures.before a (λ h. absurd (omega (arith, c.count.ensures.count, c.if-before-count.true)))

pub returns-clause-outside : goal.returns-clause-outside
returns-clause-outside g c = λ k a b.
    let number = rw c.self.view_is at c.number.ensures.number in
    none_until k c.before-before.ensures.sound c.before-before.ensures.before a (λ h. omega (arith, number))
