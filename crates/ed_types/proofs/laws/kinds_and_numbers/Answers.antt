-- Each law is a lemma.
use Rattle.ed_types.proofs.laws.kinds_and_numbers.Goals as goal
use Rattle.ed_types.proofs.MessageLemmas.{each_kind_is_found, only_its_number_finds_a_kind}

pub returns-clause-found : goal.returns-clause-found
returns-clause-found c = each_kind_is_found

pub returns-clause-its_own : goal.returns-clause-its_own
returns-clause-its_own c = only_its_number_finds_a_kind
