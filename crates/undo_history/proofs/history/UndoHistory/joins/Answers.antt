use Rattle.undo_history.proofs.Names.{◌≡◌, ◌∙◌, ap, sym, arith, length, lt-ltb, le-ltb, option_map, joins, at_save_point, latest_text_step, first_changes, Kept, history_of, entries_in, change_of, belongs_after, outline_of}
use Rattle.undo_history.proofs.Joins.{joins_here, open_here, belongs_by_outlines}
use Rattle.undo_history.proofs.history.UndoHistory.joins.Goals as goal
use Rattle.undo_history.proofs.history.UndoHistory.joins.Goals.{then-steps-self-via-then-steps-self, then-steps-self-via-else-steps-self+then-is_at_save_point}
use Rattle.undo_history.proofs.history.UndoHistory.joins.Goals.{then-self-gt0-via-then-self-gt0, then-self-gt0-via-else-self-gt0+then-later}

pub returns-then-steps-self : goal.returns-then-steps-self
returns-then-steps-self c =
    let i = c.self.inside in
    let rule = joins_here c.args.later (change_of c.args.kind c.args.bytes.now) i.steps.items i.bytes.items i.past i.depth i.save_point i.is_collecting (omega arith) c.self.invariant.in_order.there
    ∙ ap (λ (k : Kept). joins c.args.later (change_of c.args.kind c.args.bytes.now) k.history) c.self.view_is in
    elim c.then-steps-self.branch [
      | then-steps-self-via-then-steps-self w ↦ let sealed = rw c.all_steps-steps.ensures.steps at w.if-steps-self.true in rw sealed at rule
      | then-steps-self-via-else-steps-self+then-is_at_save_point w ↦
          let unsealed = rw c.all_steps-steps.ensures.steps at w.if-steps-self.false in
          let saved = ap (λ (k : Kept). at_save_point k.history) c.self.view_is ∙ sym w.is_at_save_point.ensures ∙ w.if-is_at_save_point.true in
          rw (unsealed, saved) at rule
    ]

pub returns-then-self-gt0 : goal.returns-then-self-gt0
returns-then-self-gt0 c =
    let i = c.self.inside in
    let rule = joins_here c.args.later (change_of c.args.kind c.args.bytes.now) i.steps.items i.bytes.items i.past i.depth i.save_point i.is_collecting (omega arith) c.self.invariant.in_order.there
    ∙ ap (λ (k : Kept). joins c.args.later (change_of c.args.kind c.args.bytes.now) k.history) c.self.view_is in
    let unsealed = rw c.all_steps-steps.ensures.steps at c.if-steps-self.false in
    let unsaved = ap (λ (k : Kept). at_save_point k.history) c.self.view_is ∙ sym c.is_at_save_point.ensures ∙ c.if-is_at_save_point.false in
    elim c.then-self-gt0.branch [
      | then-self-gt0-via-then-self-gt0 w ↦ rw (unsealed, unsaved, lt-ltb 0 i.depth w.if-self-gt0.true) at rule
      | then-self-gt0-via-else-self-gt0+then-later w ↦ rw (unsealed, unsaved, le-ltb 0 i.depth w.if-self-gt0.false, w.if-later.true) at rule
    ]

pub returns : goal.returns
returns c =
    let i = c.self.inside in
    let rs = i.steps.items in
    let bytes = i.bytes.items in
    let x = change_of c.args.kind c.args.bytes.now in
    let last = first_changes (history_of (entries_in rs bytes) i.past i.save_point i.depth i.is_collecting).past in
    let rule = joins_here c.args.later x rs bytes i.past i.depth i.save_point i.is_collecting (omega arith) c.self.invariant.in_order.there ∙ ap (λ (k : Kept). joins c.args.later x k.history) c.self.view_is in
    let unsealed = rw c.all_steps-steps.ensures.steps at c.if-steps-self.false in
    let unsaved = ap (λ (k : Kept). at_save_point k.history) c.self.view_is ∙ sym c.is_at_save_point.ensures ∙ c.if-is_at_save_point.false in
    let found : i.latest ≡ option_map outline_of (latest_text_step last) = c.self.invariant.latest (open_here rs bytes i.past (omega arith) c.self.invariant.in_order.there unsealed) in
    let known = rw (unsealed, unsaved, le-ltb 0 i.depth c.if-self-gt0.false, c.if-later.false) at rule in
    c.belongs.ensures ∙ ap (λ q. belongs_after c.args.kind (length c.args.bytes.now) q) found ∙ sym (belongs_by_outlines c.args.kind c.args.bytes.now last) ∙ known
