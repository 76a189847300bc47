use Rattle.contraction.proofs.Names.{◌≡◌, ◌+◌, ◌-◌, sym, ◌∙◌, arith, ltb-true}
use Rattle.contraction.proofs.LineSets.{parted_at}
use Rattle.contraction.proofs.line_set.LineSet.before_from.Goals.{then-likely-eq0, else-likely-eq0}
use Rattle.contraction.proofs.line_set.LineSet.before_from.Goals as goal

pub returns-then-number-line : goal.returns-then-number-line
returns-then-number-line g c =
    let i = c.args.likely in
    let number = rw c.self.view_is at c.number-then-line-next.ensures.number in
    let to = rw c.self.view_is at c.number-next.ensures.number in
    let q : i + 1 - 1 ≡ i = omega arith in
    parted_at c.args.line (i + 1) c.count-count.ensures.sound (omega (arith, c.if-likely-count.true, c.count-count.ensures.count)) (λ _. rw q (omega (arith, number, c.if-number-line.true)))
    (λ h. let next : c.min.result ≡ i + 1 = omega (arith, c.min.ensures, c.count-count.ensures.count) in omega (arith, rw next at to, c.if-line-next.true))

pub returns-then-line-next : goal.returns-then-line-next
returns-then-line-next g c =
    let number = rw c.self.view_is at c.number-then-line-next.ensures.number in
    parted_at c.args.line c.args.likely c.count-count.ensures.sound (omega (arith, c.if-likely-count.true, c.count-count.ensures.count))
    (λ h. elim c.if-likely-eq0.branch [
      | then-likely-eq0 w ↦ absurd (omega (arith, w.if-likely-eq0.true))
      | else-likely-eq0 w ↦ let before = rw c.self.view_is at w.number.ensures.number in omega (arith, before, ltb-true w.number.result c.args.line (sym w.is_behind-is ∙ c.if-is_behind.true))
    ])
    (λ _. omega (arith, number, c.if-number-line.false))
