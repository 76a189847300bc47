-- Each clause is a lemma on fold parents.
use Rattle.run_laws.proofs.FoldLemmas.{fold_parents_are_a_chain, fold_parent_is_the_nearest_header, lines_without_parent}
use Rattle.run_laws.proofs.fold_laws.fold_parents_are_a_chain.Goals as goal

pub returns-clause-chain : goal.returns-clause-chain
returns-clause-chain c = fold_parents_are_a_chain

pub returns-clause-nearest : goal.returns-clause-nearest
returns-clause-nearest c = fold_parent_is_the_nearest_header

pub returns-clause-none : goal.returns-clause-none
returns-clause-none c = lines_without_parent
