use Rattle.run_styles.proofs.Reading.{run_start_is}
use Rattle.run_styles.proofs.styles.RunStyles.start_run.Goals as goal

pub returns : goal.returns
returns g c = rw (← c.self.view_is, c.start_of.ensures) (run_start_is c.self.invariant c.run_of.ensures)
