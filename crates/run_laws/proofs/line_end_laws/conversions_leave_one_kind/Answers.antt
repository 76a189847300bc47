-- Each clause is a lemma on conversions.
use Rattle.run_laws.proofs.LineEndLemmas.{steps_convert}
use Rattle.run_laws.proofs.LineEndKinds.{converted_have_only_these, converted_lines_end_so, other_bytes_stay, texts_of_the_kind_stay, last_kind_counts}
use Rattle.run_laws.proofs.LineEndCounts.{line_count_stays}
use Rattle.run_laws.proofs.line_end_laws.conversions_leave_one_kind.Goals as goal

pub returns-clause-steps : goal.returns-clause-steps
returns-clause-steps c = steps_convert

pub returns-clause-only : goal.returns-clause-only
returns-clause-only c = converted_have_only_these

pub returns-clause-lines : goal.returns-clause-lines
returns-clause-lines c = converted_lines_end_so

pub returns-clause-others : goal.returns-clause-others
returns-clause-others c = other_bytes_stay

pub returns-clause-line_count : goal.returns-clause-line_count
returns-clause-line_count c = line_count_stays

pub returns-clause-already : goal.returns-clause-already
returns-clause-already c = texts_of_the_kind_stay

pub returns-clause-last_kind : goal.returns-clause-last_kind
returns-clause-last_kind c = last_kind_counts
