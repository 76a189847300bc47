-- The lemmas hold for rows of any kind.
use Rattle.line_index.proofs.SettingEdits.{setting_edits_carry, setting_edits_fit, setting_edits_bring_all, setting_edits_few}
use Rattle.line_index.proofs.laws.edits_of_settings.Goals as goal

pub returns-clause-rows : goal.returns-clause-rows
returns-clause-rows c = setting_edits_carry c.single_rows.ensures.rows_stay

pub returns-clause-flags : goal.returns-clause-flags
returns-clause-flags c = setting_edits_carry c.single_rows.ensures.flags_stay

pub returns-clause-fit : goal.returns-clause-fit
returns-clause-fit c = setting_edits_fit

pub returns-clause-all : goal.returns-clause-all
returns-clause-all c = setting_edits_bring_all

pub returns-clause-few : goal.returns-clause-few
returns-clause-few c = setting_edits_few
