use Rattle.run_styles.proofs.Reading.{run_start_is, run_end_is}
use Rattle.run_styles.proofs.styles.RunStyles.run.Goals as goal

pub returns-clause-start : goal.returns-clause-start
returns-clause-start g c = rw (← c.self.view_is, c.start_of.ensures) (run_start_is c.self.invariant c.run_of-run.ensures)

pub returns-clause-end : goal.returns-clause-end
returns-clause-end g c = rw (← c.self.view_is, c.end_of.ensures.end) (run_end_is c.self.invariant c.run_of-run.ensures)
