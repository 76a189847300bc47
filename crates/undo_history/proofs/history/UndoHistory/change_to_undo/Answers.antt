use Rattle.undo_history.proofs.Names.{◌+◌, ◌<◌, ◌∙◌, ap, sym, arith, length, take, reverse, slice_get, ◌==◌, undo_changes, Kept, entries_in, last_count, change_of}
use Rattle.undo_history.proofs.Parts.{entries_length}
use Rattle.undo_history.proofs.Reading.{undo_length, undo_within, undo_read, undo_last}
use Rattle.undo_history.proofs.history.UndoHistory.change_to_undo.Goals as goal

pub overflow_sub-place-2 : goal.overflow_sub-place-2
overflow_sub-place-2 c =
    let i = c.self.inside in
    let es = entries_in i.steps.items i.bytes.items in
    let count = ap (λ (k : Kept). length (undo_changes k.history)) c.self.view_is in
    omega (arith, count, c.requires, undo_length es i.past i.depth i.save_point i.is_collecting, undo_within es i.past (omega (arith, entries_length 0 i.steps.items i.bytes.items, c.self.invariant.in_order.there)))

pub returns-clause-change : goal.returns-clause-change
returns-clause-change c =
    let i = c.self.inside in
    let es = entries_in i.steps.items i.bytes.items in
    let count = ap (λ (k : Kept). length (undo_changes k.history)) c.self.view_is in
    let within : c.args.index < last_count (reverse (take i.past es)) = omega (arith, count, c.requires, undo_length es i.past i.depth i.save_point i.is_collecting) in
    let read = rw (c.all_steps-steps.ensures.steps, c.all_bytes.ensures) at c.change_at-kind.ensures.change in
    ap (λ (k : Kept). slice_get (undo_changes k.history) c.args.index) (sym c.self.view_is)
    ∙ undo_read es i.past i.depth c.args.index i.save_point i.is_collecting (change_of c.change_at-kind.result.0 c.change_at-kind.result.1.now) (omega (arith, entries_length 0 i.steps.items i.bytes.items, c.self.invariant.in_order.there)) within read

pub returns-clause-last : goal.returns-clause-last
returns-clause-last c =
    let i = c.self.inside in
    let es = entries_in i.steps.items i.bytes.items in
    let count = ap (λ (k : Kept). length (undo_changes k.history)) c.self.view_is in
    let long = undo_length es i.past i.depth i.save_point i.is_collecting in
    rw c.all_steps-steps.ensures.steps (undo_last i.steps.items i.bytes.items i.past i.transactions c.args.index c.self.invariant.in_order (omega (arith, count, c.requires, long)) ∙ ap (λ n. c.args.index + 1 == n) (sym long ∙ count))
