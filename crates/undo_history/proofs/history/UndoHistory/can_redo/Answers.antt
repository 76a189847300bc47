use Rattle.undo_history.proofs.Names.{ap, sym, ◌∙◌, nat_lt, can_redo, entries_in, history_of}
use Rattle.undo_history.proofs.Sealing.{can_redo_here}
use Rattle.undo_history.proofs.history.UndoHistory.can_redo.Goals as goal

pub returns-then-self-eq0 : goal.returns-then-self-eq0
returns-then-self-eq0 c =
    let i = c.self.inside in
    ap (λ n. nat_lt i.past n) c.len.ensures.len ∙ can_redo_here i.steps.items i.bytes.items i.past
    ∙ ap (λ d. can_redo (history_of (entries_in i.steps.items i.bytes.items) i.past i.save_point d i.is_collecting)) (sym c.if-self-eq0.true) ∙ ap (λ k. can_redo k.history) c.self.view_is
