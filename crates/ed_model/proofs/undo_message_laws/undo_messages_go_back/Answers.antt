use Rattle.ed_model.proofs.RepeatedUndoLemmas.{undo_messages_go_back}
use Rattle.ed_model.proofs.undo_message_laws.undo_messages_go_back.Goals as goal

pub returns : goal.returns
returns c = undo_messages_go_back
