use Rattle.document_table.proofs.LivingLemmas.{living_left}
use Rattle.document_table.proofs.laws.the_living_are_left.Goals as goal

pub returns : goal.returns
returns c = living_left
