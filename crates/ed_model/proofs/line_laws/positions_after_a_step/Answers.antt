-- Each clause is a lemma on steps.
use Rattle.ed_model.specs.proved.Steps.{length-inserted, length-deleted_within, bytes_of_edited_cells}
use Rattle.ed_model.proofs.StepLemmas.{position_stays_in_range, start_stays_in_range, position_keeps_order, start_keeps_order}
use Rattle.ed_model.proofs.line_laws.positions_after_a_step.Goals as goal

pub returns-clause-insertions_lengthen : goal.returns-clause-insertions_lengthen
returns-clause-insertions_lengthen c = length-inserted

pub returns-clause-deletions_shorten : goal.returns-clause-deletions_shorten
returns-clause-deletions_shorten c = length-deleted_within

pub returns-clause-cells_follow_bytes : goal.returns-clause-cells_follow_bytes
returns-clause-cells_follow_bytes c = bytes_of_edited_cells

pub returns-clause-positions_in_range : goal.returns-clause-positions_in_range
returns-clause-positions_in_range c = position_stays_in_range

pub returns-clause-starts_in_range : goal.returns-clause-starts_in_range
returns-clause-starts_in_range c = start_stays_in_range

pub returns-clause-positions_in_order : goal.returns-clause-positions_in_order
returns-clause-positions_in_order c = position_keeps_order

pub returns-clause-starts_in_order : goal.returns-clause-starts_in_order
returns-clause-starts_in_order c = start_keeps_order
