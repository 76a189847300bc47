use Rattle.undo_history.proofs.Names.{ap, ◌-◌, ◌∙◌, is_number, at_save_point, undone, entries_in, history_of}
use Rattle.undo_history.proofs.SavePoint.{behind_undo}
use Rattle.undo_history.proofs.history.UndoHistory.undo_gets_to_save_point.Goals as goal

pub returns : goal.returns
returns c =
    let i = c.self.inside in
    let h = history_of (entries_in i.steps.items i.bytes.items) i.past i.save_point i.depth i.is_collecting in
    c.is_place.ensures ∙ ap (λ n. is_number n i.save_point) (c.saturating_sub.ensures ∙ ap (λ n. n - 1) c.self.invariant.in_order.counted)
    ∙ behind_undo h.past h.future i.save_point i.depth i.is_collecting ∙ ap (λ k. at_save_point (undone k.history)) c.self.view_is
