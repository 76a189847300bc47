use Rattle.undo_history.proofs.Names.{◌≡◌, ◌+◌, ◌++◌, [], ◌∷◌, ◌∙◌, ap, refl, sym, subst, arith, length, drop, reverse, true, length-append, with_change, Kept, History, None, false, past_of, entries_in, transactions, change_of, history_of, LastIsOpen, inserted}
use Rattle.undo_history.proofs.Held.{fits_in_blocks}
use Rattle.undo_history.proofs.Moving.{carried}
use Rattle.undo_history.proofs.Pushing.{stored_record, stored_in_order, stored_view, inserted_behind, past_is_all, count_within}
use Rattle.undo_history.proofs.history.UndoHistory.push.Goals as goal

pub transactions_after-self-inside-requires : goal.transactions_after-self-inside-requires
transactions_after-self-inside-requires c =
    let i = c.self.inside in
    let fits = fits_in_blocks i c.args.self.now 1 (length c.args.bytes.now) c.self.invariant.in_order c.self.view_is c.requires.room in
    omega (arith, count_within i.steps.items i.bytes.items i.past i.transactions c.self.invariant.in_order, c.self.invariant.in_order.there, fits, c.end_of-place.ensures.within)

pub overflow_add-step : goal.overflow_add-step
overflow_add-step c =
    let fits = fits_in_blocks c.self.inside c.args.self.now 1 (length c.args.bytes.now) c.self.invariant.in_order c.self.view_is c.requires.room in
    omega (arith, c.end_of-stored.ensures, fits)

pub overflow_add-self : goal.overflow_add-self
overflow_add-self c =
    let fits = fits_in_blocks c.self.inside c.args.self.now 1 (length c.args.bytes.now) c.self.invariant.in_order c.self.view_is c.requires.room in
    omega (arith, c.self.invariant.in_order.there, fits, c.end_of-place.ensures.within)

pub insert_slice_reserved-requires : goal.insert_slice_reserved-requires
insert_slice_reserved-requires c = (omega (arith, c.end_of-stored.ensures.end), (fits_in_blocks c.self.inside c.args.self.now 1 (length c.args.bytes.now) c.self.invariant.in_order c.self.view_is c.requires.room).1)

pub insert_reserved-requires : goal.insert_reserved-requires
insert_reserved-requires c = (omega (arith, c.end_of-place.ensures.end), (fits_in_blocks c.self.inside c.args.self.now 1 (length c.args.bytes.now) c.self.invariant.in_order c.self.view_is c.requires.room).0)

pub invariant_of-self : goal.invariant_of-self
invariant_of-self c =
    let i = c.self.inside in
    let rs = i.steps.items in
    let bytes = i.bytes.items in
    let new = c.args.bytes.now in
    let end = c.end_of-stored.result + length new in
    let end_is : end ≡ length bytes + length new = omega (arith, c.end_of-stored.ensures.end) in
    let none : reverse (transactions (reverse (drop i.past (entries_in rs bytes)))) ≡ [] = ap (λ (k : Kept). k.history.future) c.self.view_is ∙ c.requires.last in
    let whole : i.past ≡ length rs = past_is_all rs bytes i.past i.transactions c.self.invariant.in_order none in
    let open_ : c.args.joined ≡ true → LastIsOpen (past_of rs bytes i.past) = λ j. subst (λ (k : Kept). LastIsOpen k.history.past) (sym c.self.view_is) (c.requires.begun j) in
    let r = stored_record c.args.kind c.args.joined end in
    let steps_are : c.insert_reserved.new.self.items ≡ rs ++ r ∷ [] = ap (λ s. s.items) c.insert_reserved.ensures ∙ inserted_behind rs (r ∷ []) c.end_of-place.result c.end_of-place.ensures.end in
    let bytes_are : c.insert_slice_reserved.new.self.items ≡ bytes ++ new = ap (λ s. s.items) c.insert_slice_reserved.ensures ∙ inserted_behind bytes new c.end_of-stored.result c.end_of-stored.ensures.end in
    let past_is : past_of (rs ++ r ∷ []) (bytes ++ new) (i.past + 1) ≡ with_change c.args.joined (change_of c.args.kind new) (past_of rs bytes i.past) =
    ap (λ (h : History). h.past) (stored_view c.args.kind c.args.joined rs bytes new i.past i.transactions end c.self.invariant.in_order whole end_is open_ 0 None false) in
    record {
      in_order = rw (steps_are, bytes_are, c.transactions_after-self-inside.ensures) (stored_in_order c.args.kind c.args.joined rs bytes new i.past i.transactions end c.self.invariant.in_order whole end_is open_ c.requires.own);
      latest = rw (steps_are, bytes_are, past_is) (c.latest_after-self-inside.ensures (past_of rs bytes i.past) new c.self.invariant.latest open_ refl);
      step_gap = omega (arith, ap (λ s. s.gap) c.insert_reserved.ensures, c.end_of-place.ensures.end, ap length steps_are, length-append rs (r ∷ []));
      byte_gap = grind (arith, ap (λ s. s.gap) c.insert_slice_reserved.ensures, c.end_of-stored.ensures.end, ap length bytes_are, length-append bytes new, c.self.invariant.byte_gap);
    }

pub returns : goal.returns
returns c =
    let i = c.self.inside in
    let rs = i.steps.items in
    let bytes = i.bytes.items in
    let new = c.args.bytes.now in
    let change = change_of c.args.kind new in
    let end = c.end_of-stored.result + length new in
    let end_is : end ≡ length bytes + length new = omega (arith, c.end_of-stored.ensures.end) in
    let none : reverse (transactions (reverse (drop i.past (entries_in rs bytes)))) ≡ [] = ap (λ (k : Kept). k.history.future) c.self.view_is ∙ c.requires.last in
    let whole : i.past ≡ length rs = past_is_all rs bytes i.past i.transactions c.self.invariant.in_order none in
    let open_ : c.args.joined ≡ true → LastIsOpen (past_of rs bytes i.past) = λ j. subst (λ (k : Kept). LastIsOpen k.history.past) (sym c.self.view_is) (c.requires.begun j) in
    let r = stored_record c.args.kind c.args.joined end in
    let steps_are : inserted rs c.end_of-place.result (r ∷ []) ≡ rs ++ r ∷ [] = inserted_behind rs (r ∷ []) c.end_of-place.result c.end_of-place.ensures.end in
    let bytes_are : inserted bytes c.end_of-stored.result new ≡ bytes ++ new = inserted_behind bytes new c.end_of-stored.result c.end_of-stored.ensures.end in
    rw (c.insert_reserved.ensures, c.insert_slice_reserved.ensures, steps_are, bytes_are)
    (carried (λ h. record h { past = with_change c.args.joined change h.past }) (history_of (entries_in rs bytes) i.past i.save_point i.depth i.is_collecting) _ _ _
    (stored_view c.args.kind c.args.joined rs bytes new i.past i.transactions end c.self.invariant.in_order whole end_is open_ i.depth i.save_point i.is_collecting) c.self.view_is)
