use Rattle.std.proofs.Common.{arith, eqb-true}
use Rattle.run_styles.proofs.ByIndex.{length_table, runs_some}
use Rattle.run_styles.proofs.Reading.{several_not_all}
use Rattle.run_styles.proofs.styles.RunStyles.is_all.Goals as goal

pub returns-else-count-eq1 : goal.returns-else-count-eq1
returns-else-count-eq1 g c =
    let table = c.length.ensures.sound.table in
    rw (← c.self.view_is) (
      (λ same k d h. absurd (c.if-count-eq1.false (eqb-true c.count.result 1 same))),
      (λ every. absurd (several_not_all c.args.value table c.self.invariant
          (omega (arith, length_table table, c.length.ensures.length, c.if-length-eq0.false)) (omega (arith, c.count.ensures.count, c.if-count-eq1.false, runs_some table)) every)),
    )
