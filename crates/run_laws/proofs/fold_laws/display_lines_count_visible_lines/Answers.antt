-- Each clause is a lemma on display lines.
use Rattle.run_laws.proofs.FoldLemmas.{display_lines_count_visible_lines, visible_lines_are_shown, hidden_lines_have_that_before}
use Rattle.run_laws.proofs.fold_laws.display_lines_count_visible_lines.Goals as goal

pub returns-clause-count : goal.returns-clause-count
returns-clause-count c = display_lines_count_visible_lines

pub returns-clause-shown : goal.returns-clause-shown
returns-clause-shown c = visible_lines_are_shown

pub returns-clause-hidden : goal.returns-clause-hidden
returns-clause-hidden c = hidden_lines_have_that_before
