use Rattle.undo_history.proofs.Names.{ap, sym, ◌+◌, ◌∙◌, arith, is_number, at_save_point, redone, entries_in, history_of}
use Rattle.undo_history.proofs.Pushing.{count_within, none_undone}
use Rattle.undo_history.proofs.SavePoint.{behind_redo, nothing_redone}
use Rattle.undo_history.proofs.Sealing.{future_some}
use Rattle.undo_history.proofs.history.UndoHistory.redo_gets_to_save_point.Goals as goal

pub overflow_add-self-inside : goal.overflow_add-self-inside
overflow_add-self-inside c =
    let i = c.self.inside in
    omega (arith, count_within i.steps.items i.bytes.items i.past i.transactions c.self.invariant.in_order, c.self.invariant.in_order.there, c.len.ensures.fits)

pub returns-then-self-len : goal.returns-then-self-len
returns-then-self-len c =
    let i = c.self.inside in
    let h = history_of (entries_in i.steps.items i.bytes.items) i.past i.save_point i.depth i.is_collecting in
    c.is_at_save_point.ensures ∙ ap (λ k. at_save_point k.history) (sym c.self.view_is)
    ∙ nothing_redone h.past h.future i.save_point i.depth i.is_collecting (none_undone i.steps.items i.bytes.items i.past (omega (arith, c.if-self-len.true, c.len.ensures.len)))
    ∙ ap (λ k. at_save_point (redone k.history)) c.self.view_is

pub returns : goal.returns
returns c =
    let i = c.self.inside in
    let h = history_of (entries_in i.steps.items i.bytes.items) i.past i.save_point i.depth i.is_collecting in
    c.is_place.ensures ∙ ap (λ n. is_number (n + 1) i.save_point) c.self.invariant.in_order.counted
    ∙ behind_redo h.past h.future i.save_point i.depth i.is_collecting (future_some i.steps.items i.bytes.items i.past (omega (arith, c.if-self-len.false, c.len.ensures.len, c.self.invariant.in_order.there)))
    ∙ ap (λ k. at_save_point (redone k.history)) c.self.view_is
