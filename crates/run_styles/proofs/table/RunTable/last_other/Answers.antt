use Rattle.run_styles.proofs.Names.{arith}
use Rattle.run_styles.proofs.ByIndex.{run_top}
use Rattle.run_styles.proofs.Filling.{other_before}
use Rattle.run_styles.proofs.table.RunTable.last_other.Goals as goal

pub returns-then-has-clause-other : goal.returns-then-has-clause-other
returns-then-has-clause-other g c =
    let run = c.run_near-run.ensures in
    rw c.start_of.ensures (λ some. other_before c.run_near-run.result c.args.value run.sound.table (omega (arith, run.to, run_top c.run_near-run.result run.sound.table run.within)) run.within some c.requires.differ (c.has.ensures.0 c.if-has.true))
