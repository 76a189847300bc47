use Rattle.undo_history.proofs.Names.{◌∙◌, ap, sym, length, undo_changes, Kept, entries_in}
use Rattle.undo_history.proofs.Reading.{undo_length}
use Rattle.undo_history.proofs.history.UndoHistory.undo_len.Goals as goal

pub returns : goal.returns
returns c =
    let i = c.self.inside in
    let count = rw c.all_steps.ensures.steps at (c.count_before.ensures i.bytes.items) in
    count ∙ sym (undo_length (entries_in i.steps.items i.bytes.items) i.past i.depth i.save_point i.is_collecting) ∙ ap (λ (k : Kept). length (undo_changes k.history)) c.self.view_is
