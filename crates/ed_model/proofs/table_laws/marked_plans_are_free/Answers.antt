use Rattle.ed_model.proofs.QuietLemmas.{message_without_memory_is_free}
use Rattle.ed_model.proofs.table_laws.marked_plans_are_free.Goals as goal

pub returns : goal.returns
returns c = message_without_memory_is_free
