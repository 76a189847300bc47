use Rattle.ed_model.proofs.RunUndoLemmas.{messages_leave_other_documents_alone, opening_leaves_documents_alone, closing_leaves_documents_alone}
use Rattle.ed_model.proofs.undo_message_laws.other_documents_are_left_alone.Goals as goal

pub returns : goal.returns
returns c = record {
  messages = messages_leave_other_documents_alone;
  opening = opening_leaves_documents_alone;
  closing = closing_leaves_documents_alone;
}
