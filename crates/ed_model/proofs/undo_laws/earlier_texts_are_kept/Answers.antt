use Rattle.ed_model.proofs.UndoLemmas.{begun_step_is_one_transaction_more, joined_step_keeps_earlier_texts, begun_container_step_is_one_transaction_more, joined_container_step_keeps_earlier_texts, undo_keeps_earlier_texts, redo_is_one_transaction_more, seals_keep_earlier_texts}
use Rattle.ed_model.proofs.undo_laws.earlier_texts_are_kept.Goals as goal

pub returns : goal.returns
returns c = record {
  begun = begun_step_is_one_transaction_more;
  joined = joined_step_keeps_earlier_texts;
  container_begun = begun_container_step_is_one_transaction_more;
  container_joined = joined_container_step_keeps_earlier_texts;
  undo = undo_keeps_earlier_texts;
  redo = redo_is_one_transaction_more;
  seals = seals_keep_earlier_texts;
}
