use Rattle.ed_model.proofs.RunUndoLemmas.{messages_let_documents_go_on, commands_let_documents_go_on, undo_goes_back_in_every_run}
use Rattle.ed_model.proofs.run_undo_laws.undo_goes_back_in_every_run.Goals as goal

pub returns : goal.returns
returns c = record {
  messages = messages_let_documents_go_on;
  commands = commands_let_documents_go_on;
  runs = undo_goes_back_in_every_run;
}
