use Rattle.ed_model.proofs.UndoRoomLemmas.{undo_is_never_too_long, redo_is_never_too_long}
use Rattle.ed_model.proofs.undo_message_laws.undo_and_redo_are_never_too_long.Goals as goal

pub returns : goal.returns
returns c = record {
  undo = undo_is_never_too_long;
  redo = redo_is_never_too_long;
}
