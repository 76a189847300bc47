-- The lemmas hold for rows of any type.
use Rattle.ed_model.proofs.RowLemmas.{rows_of_lines_that_stay, one_line_comes, one_line_goes}
use Rattle.ed_model.proofs.carry_laws.single_rows.Goals as goal

pub returns-clause-rows_stay : goal.returns-clause-rows_stay
returns-clause-rows_stay c = rows_of_lines_that_stay

pub returns-clause-flags_stay : goal.returns-clause-flags_stay
returns-clause-flags_stay c = rows_of_lines_that_stay

pub returns-clause-row_comes : goal.returns-clause-row_comes
returns-clause-row_comes c = one_line_comes

pub returns-clause-flags_come : goal.returns-clause-flags_come
returns-clause-flags_come c = one_line_comes

pub returns-clause-row_goes : goal.returns-clause-row_goes
returns-clause-row_goes c = one_line_goes

pub returns-clause-flags_go : goal.returns-clause-flags_go
returns-clause-flags_go c = one_line_goes
