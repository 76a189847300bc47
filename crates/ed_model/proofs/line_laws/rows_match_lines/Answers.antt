-- The lemmas hold for rows of any type.
use Rattle.ed_model.proofs.CarryLemmas.{length-carried, length-carried_by, length-regrouped}
use Rattle.ed_model.proofs.line_laws.rows_match_lines.Goals as goal

pub returns-clause-rows_carried : goal.returns-clause-rows_carried
returns-clause-rows_carried c = length-carried

pub returns-clause-flags_carried : goal.returns-clause-flags_carried
returns-clause-flags_carried c = length-carried

pub returns-clause-rows_after_steps : goal.returns-clause-rows_after_steps
returns-clause-rows_after_steps c = length-carried_by

pub returns-clause-flags_after_steps : goal.returns-clause-flags_after_steps
returns-clause-flags_after_steps c = length-carried_by

pub returns-clause-rows_regrouped : goal.returns-clause-rows_regrouped
returns-clause-rows_regrouped c = length-regrouped

pub returns-clause-flags_regrouped : goal.returns-clause-flags_regrouped
returns-clause-flags_regrouped c = length-regrouped
