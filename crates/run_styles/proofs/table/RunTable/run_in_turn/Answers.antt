use Rattle.std.proofs.Common.{arith}
use Rattle.run_styles.proofs.ByIndex.{length_table, run_end}
use Rattle.run_styles.proofs.table.RunTable.run_in_turn.Goals as goal

pub returns-then-place-start_of : goal.returns-then-place-start_of
returns-then-place-start_of g c =
    let within = rw (← c.self.view_is) at c.requires in
    let last = c.partition_between.ensures.last in
    let sound = rw (← c.self.view_is) at c.count-last.ensures.sound in
    rw (← c.self.view_is) record {
      sound = sound;
      within = last.within;
      from = last.at_most;
      to = run_end c.self.inside.starts.starts c.self.inside.starts.length c.args.place _ last.last (omega (arith, within, length_table sound.table));
    }
