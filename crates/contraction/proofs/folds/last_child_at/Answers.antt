use Rattle.contraction.proofs.Names.{◌<◌, leb, length, ◌∙◌, arith, lt-leb, number_at}
use Rattle.contraction.proofs.FoldLines.{first_later}
use Rattle.contraction.proofs.folds.last_child_at.Goals as goal

pub loop-next-preserved : goal.loop-next-preserved
loop-next-preserved c =
    let next = c.loop-next.next in
    let above : c.args.number < number_at c.args.levels.now next = omega (arith, c.number_at.ensures, c.if-number_at-number.false) in
    c.loop-next.invariant
    ∙ first_later (λ j. leb (number_at c.args.levels.now j) c.args.number) (length c.args.levels.now) next (omega (arith, c.count-count.ensures))
    (lt-leb (number_at c.args.levels.now next) c.args.number above)
