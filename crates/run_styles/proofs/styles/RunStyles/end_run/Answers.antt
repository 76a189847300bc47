use Rattle.run_styles.proofs.Reading.{run_end_is}
use Rattle.run_styles.proofs.styles.RunStyles.end_run.Goals as goal

pub returns : goal.returns
returns g c = rw (← c.self.view_is, c.end_of.ensures.end) (run_end_is c.self.invariant c.run_of.ensures)
