use Rattle.undo_history.proofs.Names.{◌∙◌, [], sym, ap, arith, kept, history_capacity, past_of}
use Rattle.undo_history.proofs.Moving.{history}
use Rattle.undo_history.proofs.Pushing.{none_undone}
use Rattle.undo_history.proofs.history.UndoHistory.drop_undone.Goals as goal

pub returns-else-self-len : goal.returns-else-self-len
returns-else-self-len c =
    let i = c.self.inside in
    let none = none_undone i.steps.items i.bytes.items i.past (omega (arith, c.len.ensures.len, c.if-self-len.false)) in
    sym c.self.view_is
    ∙ ap (λ f. kept (history (past_of i.steps.items i.bytes.items i.past) f i.save_point i.depth i.is_collecting) (history_capacity i.steps.capacity i.bytes.capacity)) none
    ∙ ap (λ k. kept (record k.history { future = [] }) k.capacity) c.self.view_is
