use Rattle.undo_history.proofs.Names.{◌≡◌, ◌-◌, ◌∙◌, [], ap, arith, length, take, length-take-le, History, None, false, deleted, entries_in, history_of}
use Rattle.undo_history.proofs.Moving.{carried}
use Rattle.undo_history.proofs.Pushing.{kept_bytes, past_bytes, deleted_behind, dropped_in_order, dropped_view}
use Rattle.undo_history.proofs.history.UndoHistory.delete_undone.Goals as goal

pub overflow_sub-bytes : goal.overflow_sub-bytes
overflow_sub-bytes c =
    let kept = kept_bytes c.self.inside c.all_steps.result.now c.bytes_before-kept.result c.self.invariant.in_order c.all_steps.ensures.steps c.bytes_before-kept.ensures in
    omega (arith, kept, c.len-bytes.ensures.len)

pub delete-requires-2 : goal.delete-requires-2
delete-requires-2 c =
    let kept = kept_bytes c.self.inside c.all_steps.result.now c.bytes_before-kept.result c.self.invariant.in_order c.all_steps.ensures.steps c.bytes_before-kept.ensures in
    omega (arith, kept, c.len-bytes.ensures.len)

pub invariant_of-self : goal.invariant_of-self
invariant_of-self c =
    let i = c.self.inside in
    let rs = i.steps.items in
    let bytes = i.bytes.items in
    let o = c.self.invariant.in_order in
    let kept = kept_bytes i c.all_steps.result.now c.bytes_before-kept.result o c.all_steps.ensures.steps c.bytes_before-kept.ensures in
    let steps_are : c.delete.new.self.items ≡ take i.past rs = ap (λ s. s.items) c.delete.ensures ∙ deleted_behind rs i.past (c.len-steps.result - i.past) (omega (arith, c.len-steps.ensures.len, o.there)) in
    let bytes_are : c.delete-2.new.self.items ≡ take (past_bytes i.past rs) bytes =
    ap (λ s. s.items) c.delete-2.ensures ∙ deleted_behind bytes c.bytes_before-kept.result (c.len-bytes.result - c.bytes_before-kept.result) (omega (arith, c.len-bytes.ensures.len)) ∙ ap (λ n. take n bytes) kept.0 in
    record {
      in_order = rw (steps_are, bytes_are) (dropped_in_order rs bytes i.past i.transactions o);
      latest = rw (steps_are, bytes_are, ap (λ (h : History). h.past) (dropped_view rs bytes i.past i.transactions 0 None false o)) c.self.invariant.latest;
      step_gap = grind (arith, ap (λ s. s.gap) c.delete.ensures, c.len-steps.ensures.len, c.self.invariant.step_gap, ap length steps_are, length-take-le i.past rs o.there);
      byte_gap = grind (arith, ap (λ s. s.gap) c.delete-2.ensures, c.len-bytes.ensures.len, c.self.invariant.byte_gap, ap length bytes_are, length-take-le (past_bytes i.past rs) bytes (omega (arith, kept)));
    }

pub returns : goal.returns
returns c =
    let i = c.self.inside in
    let rs = i.steps.items in
    let bytes = i.bytes.items in
    let o = c.self.invariant.in_order in
    let kept = kept_bytes i c.all_steps.result.now c.bytes_before-kept.result o c.all_steps.ensures.steps c.bytes_before-kept.ensures in
    let steps_are : deleted rs i.past (c.len-steps.result - i.past) ≡ take i.past rs = deleted_behind rs i.past (c.len-steps.result - i.past) (omega (arith, c.len-steps.ensures.len, o.there)) in
    let bytes_are : deleted bytes c.bytes_before-kept.result (c.len-bytes.result - c.bytes_before-kept.result) ≡ take (past_bytes i.past rs) bytes =
    deleted_behind bytes c.bytes_before-kept.result (c.len-bytes.result - c.bytes_before-kept.result) (omega (arith, c.len-bytes.ensures.len)) ∙ ap (λ n. take n bytes) kept.0 in
    rw (c.delete.ensures, c.delete-2.ensures, steps_are, bytes_are)
    (carried (λ h. record h { future = [] }) (history_of (entries_in rs bytes) i.past i.save_point i.depth i.is_collecting) _ _ _ (dropped_view rs bytes i.past i.transactions i.depth i.save_point i.is_collecting o) c.self.view_is)
