use Rattle.run_styles.proofs.ByIndex.{grow_table}
use Rattle.run_styles.proofs.table.RunTable.grow.Goals as goal

pub invariant_of-self : goal.invariant_of-self
invariant_of-self g c =
    let run = rw (← c.self.view_is) at c.requires.run in
    (rw c.insert_text.ensures.raised (grow_table c.args.index c.args.count c.self.invariant.0 run.0 run.1), c.self.invariant.1)
