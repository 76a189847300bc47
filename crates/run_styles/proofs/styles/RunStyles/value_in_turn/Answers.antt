use Rattle.std.proofs.Common.{◌∙◌}
use Rattle.run_styles.proofs.Reading.{value_of_run}
use Rattle.run_styles.proofs.styles.RunStyles.value_in_turn.Goals as goal

pub returns : goal.returns
returns g c = rw (← c.self.view_is) (value_of_run c.run_in_turn.ensures ∙ c.value.ensures)
