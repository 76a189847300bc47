use Rattle.contraction.proofs.Names.{◌∙◌, arith}
use Rattle.contraction.proofs.LineSets.{not_there}
use Rattle.contraction.proofs.line_set.LineSet.insert.Goals.{else-before-count-via-then-before-count+else-number-line, else-before-count-via-else-before-count}
use Rattle.contraction.proofs.line_set.LineSet.insert.Goals as goal

pub insert_reserved-requires-clause-room : goal.insert_reserved-requires-clause-room
insert_reserved-requires-clause-room g c =
    rw c.self.view_is
    (c.requires.room
    (not_there c.before-before.ensures.sound c.before-before.ensures.before
    (λ h e. elim c.else-before-count.branch [
      | else-before-count-via-then-before-count+else-number-line w ↦ w.if-number-line.false (w.number.ensures.number ∙ rw (← c.self.view_is) at e)
      | else-before-count-via-else-before-count w ↦ absurd (omega (arith, w.if-before-count.false, rw c.self.view_is at c.count.ensures.count))
    ])))
