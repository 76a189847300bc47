use Rattle.run_styles.proofs.Names.{◌≡◌, ◌∙◌, sym, arith, None, Some, slice_get_past, true≢false}
use Rattle.run_styles.proofs.table.RunTable.widened_end.Goals as goal
use Rattle.run_styles.proofs.table.RunTable.widened_end.Goals.{else-end-count-via-then-end-count+else-has, else-end-count-via-else-end-count}

pub returns-else-end-count-clause-longest : goal.returns-else-end-count-clause-longest
returns-else-end-count-clause-longest g c = λ found.
    elim c.else-end-count.branch [
      | else-end-count-via-then-end-count+else-has w ↦ true≢false (sym (w.has.ensures.1 found) ∙ w.if-has.false)
      | else-end-count-via-else-end-count w ↦
          let none = slice_get_past c.args.self.now.values c.args.end (omega (arith, c.count.ensures.count, c.count.ensures.sound.table.paired)) in
          let wrong : None ≡ Some c.args.value = sym none ∙ found in
          cc
    ]
