use Rattle.undo_history.proofs.Names.{◌≡◌, ◌+◌, ◌∙◌, arith, drop, redone, entries_in, history_of, next_count}
use Rattle.undo_history.proofs.Parts.{entries_length}
use Rattle.undo_history.proofs.Moving.{OneBetween, next_between, redone_history, carried}
use Rattle.undo_history.proofs.Reading.{redo_within}
use Rattle.undo_history.proofs.Pushing.{count_within}
use Rattle.undo_history.proofs.Sealing.{latest_sealed, redone_in_order, sealed_history, with_sealed_length}
use Rattle.undo_history.proofs.history.UndoHistory.redo.Goals as goal

pub overflow_add-self : goal.overflow_add-self
overflow_add-self c =
    let i = c.self.inside in
    let es = entries_in i.steps.items i.bytes.items in
    let count = rw c.all_steps.ensures.steps at (c.count_behind-count.ensures i.bytes.items) in
    omega (arith, count, redo_within es i.past (omega (arith, entries_length 0 i.steps.items i.bytes.items, c.self.invariant.in_order.there)), entries_length 0 i.steps.items i.bytes.items, c.all_steps.ensures.within)

pub overflow_add-self-2 : goal.overflow_add-self-2
overflow_add-self-2 c =
    let i = c.self.inside in
    omega (arith, count_within i.steps.items i.bytes.items i.past i.transactions c.self.invariant.in_order, c.self.invariant.in_order.there, c.all_steps.ensures.within)

pub seal-requires : goal.seal-requires
seal-requires c =
    let i = c.self.inside in
    let es = entries_in i.steps.items i.bytes.items in
    let count = rw c.all_steps.ensures.steps at (c.count_behind-count.ensures i.bytes.items) in
    omega (arith, count, redo_within es i.past (omega (arith, entries_length 0 i.steps.items i.bytes.items, c.self.invariant.in_order.there)), entries_length 0 i.steps.items i.bytes.items)

pub invariant_of-self : goal.invariant_of-self
invariant_of-self c =
    let i = c.self.inside in
    let rs = i.steps.items in
    let bytes = i.bytes.items in
    let end = i.past + c.count_behind-count.result in
    let count : c.count_behind-count.result ≡ next_count (drop i.past (entries_in rs bytes)) = rw c.all_steps.ensures.steps at (c.count_behind-count.ensures bytes) in
    let within = redo_within (entries_in rs bytes) i.past (omega (arith, entries_length 0 rs bytes, c.self.invariant.in_order.there)) in
    let between : OneBetween (entries_in rs bytes) i.past end =
    rw count (next_between (entries_in rs bytes) i.past (omega (arith, count, within)) c.self.invariant.in_order.boundary) in
    record {
      in_order = rw c.seal.ensures (redone_in_order rs bytes i.past end i.transactions between c.self.invariant.in_order);
      latest = rw c.seal.ensures (latest_sealed rs bytes end i.latest (omega (arith, between.within, entries_length 0 rs bytes)));
      step_gap = rw c.seal.ensures (omega (arith, c.self.invariant.step_gap, with_sealed_length end rs));
      byte_gap = c.self.invariant.byte_gap;
    }

pub returns : goal.returns
returns c =
    let i = c.self.inside in
    let rs = i.steps.items in
    let bytes = i.bytes.items in
    let end = i.past + c.count_behind-count.result in
    let count : c.count_behind-count.result ≡ next_count (drop i.past (entries_in rs bytes)) = rw c.all_steps.ensures.steps at (c.count_behind-count.ensures bytes) in
    let within = redo_within (entries_in rs bytes) i.past (omega (arith, entries_length 0 rs bytes, c.self.invariant.in_order.there)) in
    let between : OneBetween (entries_in rs bytes) i.past end =
    rw count (next_between (entries_in rs bytes) i.past (omega (arith, count, within)) c.self.invariant.in_order.boundary) in
    rw c.seal.ensures (carried redone (history_of (entries_in rs bytes) i.past i.save_point i.depth i.is_collecting) _ _ _
    (sealed_history rs bytes end i.depth i.save_point i.is_collecting (omega (arith, between.within, entries_length 0 rs bytes)) ∙ redone_history (entries_in rs bytes) i.past end i.depth i.save_point i.is_collecting between)
    c.self.view_is)
