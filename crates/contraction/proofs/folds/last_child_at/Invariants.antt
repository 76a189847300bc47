use Rattle.contraction.proofs.Names.{◌≡◌, ◌+◌, leb, length, number_at}
use Rattle.contraction.proofs.FoldLines.{first_from}
use Rattle.contraction.proofs.folds.last_child_at.Given as goal

abbrev pub invariant-loop-next : goal.invariant-loop-next
invariant-loop-next l =
    first_from (λ j. leb (number_at l.levels j) l.number) (length l.levels) (l.line + 1)
    ≡ first_from (λ j. leb (number_at l.levels j) l.number) (length l.levels) l.next
