use Rattle.std.proofs.Common.{arith}
use Rattle.run_styles.proofs.ByIndex.{length_table, run_end}
use Rattle.run_styles.proofs.table.RunTable.run_of.Goals as goal

pub returns : goal.returns
returns g c =
    let within = rw (← c.self.view_is) at c.requires in
    let last = c.partition_of.ensures.last in
    let sound = rw (← c.self.view_is) at c.count.ensures.sound in
    rw (← c.self.view_is) record {
      sound = sound;
      within = last.within;
      from = last.at_most;
      to = run_end c.self.inside.starts.starts c.self.inside.starts.length c.args.place _ last.last (omega (arith, within, length_table sound.table));
    }
