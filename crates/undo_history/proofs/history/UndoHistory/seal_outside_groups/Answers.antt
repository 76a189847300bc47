use Rattle.undo_history.proofs.Names.{arith, sealed_outside_groups, entries_in, history_of}
use Rattle.undo_history.proofs.Moving.{carried}
use Rattle.undo_history.proofs.Sealing.{latest_sealed, sealed_in_order, sealed_history, with_sealed_length}
use Rattle.undo_history.proofs.history.UndoHistory.seal_outside_groups.Goals as goal

pub invariant_of-self : goal.invariant_of-self
invariant_of-self c =
    let i = c.self.inside in
    let rs = i.steps.items in
    record {
      in_order = rw c.seal.ensures (sealed_in_order rs i.bytes.items i.past i.transactions c.self.invariant.in_order);
      latest = rw c.seal.ensures (latest_sealed rs i.bytes.items i.past i.latest c.self.invariant.in_order.there);
      step_gap = rw c.seal.ensures (omega (arith, c.self.invariant.step_gap, with_sealed_length i.past rs));
      byte_gap = c.self.invariant.byte_gap;
    }

pub returns-then-self-eq0 : goal.returns-then-self-eq0
returns-then-self-eq0 c =
    let i = c.self.inside in
    let h = history_of (entries_in i.steps.items i.bytes.items) i.past i.save_point i.depth i.is_collecting in
    rw c.seal.ensures (carried sealed_outside_groups h _ _ _ (rw c.if-self-eq0.true (sealed_history i.steps.items i.bytes.items i.past 0 i.save_point i.is_collecting c.self.invariant.in_order.there)) c.self.view_is)
