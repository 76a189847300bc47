use Rattle.undo_history.proofs.Names.{◌+◌, ◌∙◌, ap, sym, arith, length, slice_get, ◌==◌, redo_changes, Kept, entries_in, change_of}
use Rattle.undo_history.proofs.Reading.{redo_inside, redo_read, redo_last}
use Rattle.undo_history.proofs.history.UndoHistory.change_to_redo.Goals as goal

pub overflow_add-place : goal.overflow_add-place
overflow_add-place c =
    let inside = redo_inside c.self.inside c.args.self.now c.args.index c.self.invariant.in_order c.self.view_is c.requires in
    omega (arith, inside, c.all_steps-steps.ensures.within)

pub change_at-kind-requires-clause-there : goal.change_at-kind-requires-clause-there
change_at-kind-requires-clause-there c =
    let inside = redo_inside c.self.inside c.args.self.now c.args.index c.self.invariant.in_order c.self.view_is c.requires in
    omega (arith, inside, ap length c.all_steps-steps.ensures.steps)

pub is_last_of_next-is_last-requires : goal.is_last_of_next-is_last-requires
is_last_of_next-is_last-requires c =
    let inside = redo_inside c.self.inside c.args.self.now c.args.index c.self.invariant.in_order c.self.view_is c.requires in
    omega (arith, inside, ap length c.all_steps-steps.ensures.steps)

pub returns-clause-change : goal.returns-clause-change
returns-clause-change c =
    let i = c.self.inside in
    let inside = redo_inside i c.args.self.now c.args.index c.self.invariant.in_order c.self.view_is c.requires in
    let read = rw (c.all_steps-steps.ensures.steps, c.all_bytes.ensures) at c.change_at-kind.ensures.change in
    ap (λ (k : Kept). slice_get (redo_changes k.history) c.args.index) (sym c.self.view_is)
    ∙ redo_read (entries_in i.steps.items i.bytes.items) i.past i.depth c.args.index i.save_point i.is_collecting (change_of c.change_at-kind.result.0 c.change_at-kind.result.1.now) inside.there c.self.invariant.in_order.boundary inside.inside read

pub returns-clause-last : goal.returns-clause-last
returns-clause-last c =
    let i = c.self.inside in
    let inside = redo_inside i c.args.self.now c.args.index c.self.invariant.in_order c.self.view_is c.requires in
    let last = rw c.all_steps-steps.ensures.steps at (c.is_last_of_next-is_last.ensures i.bytes.items) in
    last ∙ redo_last (entries_in i.steps.items i.bytes.items) i.past c.args.index inside.inside ∙ ap (λ n. c.args.index + 1 == n) inside.count
