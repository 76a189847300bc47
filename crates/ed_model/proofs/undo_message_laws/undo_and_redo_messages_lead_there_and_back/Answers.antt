use Rattle.ed_model.proofs.RepeatedUndoLemmas.{undos_go_back_then_redos_go_on}
use Rattle.ed_model.proofs.undo_message_laws.undo_and_redo_messages_lead_there_and_back.Goals as goal

pub returns : goal.returns
returns c = undos_go_back_then_redos_go_on
