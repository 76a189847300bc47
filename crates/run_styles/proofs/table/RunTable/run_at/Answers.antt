use Rattle.std.proofs.Common.{◌≡◌, ◌∙◌, ◌-◌, arith, length}
use Rattle.run_styles.specs.Table.{list_of}
use Rattle.run_styles.proofs.ByIndex.{last_run, runs_some}
use Rattle.run_styles.proofs.table.RunTable.run_at.Goals as goal

pub returns-then-place-length-clause-run : goal.returns-then-place-length-clause-run
returns-then-place-length-clause-run g c =
    let table = c.length.ensures.sound.table in
    let at : c.args.place ≡ length (list_of c.args.self.now) = c.if-place-length.true ∙ c.length.ensures.length in
    rw at (last_run (c.count.result - 1) table (omega (arith, runs_some table, c.count.ensures.count)))
