use Rattle.undo_history.proofs.Names.{◌∙◌, ap, sym, arith, length, redo_changes, Kept, entries_in}
use Rattle.undo_history.proofs.Parts.{entries_length}
use Rattle.undo_history.proofs.Reading.{redo_length}
use Rattle.undo_history.proofs.history.UndoHistory.redo_len.Goals as goal

pub returns : goal.returns
returns c =
    let i = c.self.inside in
    let count = rw c.all_steps.ensures.steps at (c.count_behind.ensures i.bytes.items) in
    count
    ∙ sym (redo_length (entries_in i.steps.items i.bytes.items) i.past i.depth i.save_point i.is_collecting (omega (arith, entries_length 0 i.steps.items i.bytes.items, c.self.invariant.in_order.there)) c.self.invariant.in_order.boundary)
    ∙ ap (λ (k : Kept). length (redo_changes k.history)) c.self.view_is
