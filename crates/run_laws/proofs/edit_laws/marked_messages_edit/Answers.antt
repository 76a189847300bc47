use Rattle.run_laws.proofs.AttemptLemmas.{marked_messages_tell_attempts}
use Rattle.run_laws.proofs.edit_laws.marked_messages_edit.Goals as goal

pub returns : goal.returns
returns c = marked_messages_tell_attempts c.kinds_and_numbers.ensures.found
