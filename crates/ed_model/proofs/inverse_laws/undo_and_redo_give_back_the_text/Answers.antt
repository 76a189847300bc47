use Rattle.ed_model.proofs.TransactionLemmas.{undo_makes_its_steps, redo_makes_its_steps, undo_then_redo_gives_back_the_text, redo_then_undo_gives_back_the_text}
use Rattle.ed_model.proofs.inverse_laws.undo_and_redo_give_back_the_text.Goals as goal

pub returns : goal.returns
returns c = record {
  undo = undo_makes_its_steps;
  redo = redo_makes_its_steps;
  undo_then_redo = undo_then_redo_gives_back_the_text;
  redo_then_undo = redo_then_undo_gives_back_the_text;
}
