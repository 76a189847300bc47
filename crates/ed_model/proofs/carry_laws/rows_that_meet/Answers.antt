-- Rows and flags that meet are joined in order.
use Rattle.ed_model.proofs.RowLemmas.{rows_join, flags_join, joined_pairwise}
use Rattle.ed_model.proofs.carry_laws.rows_that_meet.Goals as goal

pub returns-clause-rows : goal.returns-clause-rows
returns-clause-rows c = rows_join

pub returns-clause-flags : goal.returns-clause-flags
returns-clause-flags c = flags_join

pub returns-clause-rows_pairwise : goal.returns-clause-rows_pairwise
returns-clause-rows_pairwise c = joined_pairwise

pub returns-clause-flags_pairwise : goal.returns-clause-flags_pairwise
returns-clause-flags_pairwise c = joined_pairwise
