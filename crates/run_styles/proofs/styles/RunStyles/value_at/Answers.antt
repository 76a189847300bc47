use Rattle.std.proofs.Common.{◌∙◌}
use Rattle.run_styles.proofs.Reading.{value_of_run}
use Rattle.run_styles.proofs.styles.RunStyles.value_at.Goals as goal

pub returns : goal.returns
returns g c = rw (← c.self.view_is) (value_of_run c.run_of.ensures ∙ c.value.ensures)
