use Rattle.undo_history.proofs.Names.{◌≡◌, ◌-◌, ◌∙◌, arith, take, reverse, undone, entries_in, history_of, last_count}
use Rattle.undo_history.proofs.Parts.{entries_length}
use Rattle.undo_history.proofs.Moving.{OneBetween, last_between, undone_history, carried}
use Rattle.undo_history.proofs.Reading.{undo_within}
use Rattle.undo_history.proofs.Sealing.{latest_sealed, undone_in_order, sealed_history, with_sealed_length}
use Rattle.undo_history.proofs.history.UndoHistory.undo.Goals as goal

pub overflow_sub-self : goal.overflow_sub-self
overflow_sub-self c =
    let i = c.self.inside in
    let count = rw c.all_steps.ensures.steps at (c.count_before.ensures i.bytes.items) in
    omega (arith, count, undo_within (entries_in i.steps.items i.bytes.items) i.past (omega (arith, entries_length 0 i.steps.items i.bytes.items, c.self.invariant.in_order.there)))

pub overflow_sub-self-2 : goal.overflow_sub-self-2
overflow_sub-self-2 c =
    let i = c.self.inside in
    let o = c.self.invariant.in_order in
    let between = last_between (entries_in i.steps.items i.bytes.items) i.past (omega arith) (omega (arith, entries_length 0 i.steps.items i.bytes.items, o.there)) o.begins o.boundary in
    omega (arith, (undone_in_order i.steps.items i.bytes.items _ i.past i.transactions between o).0)

pub invariant_of-self : goal.invariant_of-self
invariant_of-self c =
    let i = c.self.inside in
    let rs = i.steps.items in
    let bytes = i.bytes.items in
    let start = i.past - c.count_before.result in
    let o = c.self.invariant.in_order in
    let count : c.count_before.result ≡ last_count (reverse (take i.past (entries_in rs bytes))) = rw c.all_steps.ensures.steps at (c.count_before.ensures bytes) in
    let between : OneBetween (entries_in rs bytes) start i.past = rw count (last_between (entries_in rs bytes) i.past (omega arith) (omega (arith, entries_length 0 rs bytes, o.there)) o.begins o.boundary) in
    record {
      in_order = rw c.seal.ensures ((undone_in_order rs bytes start i.past i.transactions between o).1);
      latest = rw c.seal.ensures (latest_sealed rs bytes start i.latest (omega (arith, o.there)));
      step_gap = rw c.seal.ensures (omega (arith, c.self.invariant.step_gap, with_sealed_length start rs));
      byte_gap = c.self.invariant.byte_gap;
    }

pub returns : goal.returns
returns c =
    let i = c.self.inside in
    let rs = i.steps.items in
    let bytes = i.bytes.items in
    let start = i.past - c.count_before.result in
    let o = c.self.invariant.in_order in
    let count : c.count_before.result ≡ last_count (reverse (take i.past (entries_in rs bytes))) = rw c.all_steps.ensures.steps at (c.count_before.ensures bytes) in
    let between : OneBetween (entries_in rs bytes) start i.past = rw count (last_between (entries_in rs bytes) i.past (omega arith) (omega (arith, entries_length 0 rs bytes, o.there)) o.begins o.boundary) in
    rw c.seal.ensures (carried undone (history_of (entries_in rs bytes) i.past i.save_point i.depth i.is_collecting) _ _ _
    (sealed_history rs bytes start i.depth i.save_point i.is_collecting (omega (arith, o.there)) ∙ undone_history (entries_in rs bytes) start i.past i.depth i.save_point i.is_collecting between) c.self.view_is)
