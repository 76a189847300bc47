use Rattle.run_laws.proofs.MacroLemmas.{replies_record_one_message, runs_record_one_message_a_reply}
use Rattle.run_laws.proofs.macro_laws.replies_record_one_message.Goals as goal

pub returns : goal.returns
returns c = record {
  messages = replies_record_one_message;
  runs = runs_record_one_message_a_reply;
}
