use Rattle.performing.proofs.SessionLemmas.{refl, ap, sym, ◌∙◌, subst, IsSomeAnd, Kept, HasViewRoom, CanMove, left_by, document_of, id_of_document, changed, with_attached_view, with_value_at, with_view_last, moved_within, passed_on, room_behind, one_stays, one_left, stays_twice}
use Rattle.performing.proofs.moving.move_view.Goals as goal

pub attach_reserved-requires : goal.attach_reserved-requires
attach_reserved-requires c =
    let at = c.at_mut-document.ensures.value in
    room_behind c.args.view c.args.to c.at_mut-document.result.now c.detach.new.self c.detach.ensures (subst (λ o. IsSomeAnd o HasViewRoom) at c.requires.can.place)

pub returns-then-from-to : goal.returns-then-from-to
returns-then-from-to c =
    let t = c.args.documents.now in let view = c.args.view in let to = c.args.to in let old = c.at_mut-document.result.now in let new = c.attach_reserved.new.self in
    let can = subst (λ n. CanMove t n view to) c.if-from-to.true c.requires.can in let at = c.at_mut-document.ensures.value in
    let made = c.attach_reserved.ensures ∙ ap (with_attached_view view) c.detach.ensures in
    record {
      moved = moved_within view to t _ can
          (changed document_of id_of_document t.entries to t.next can.named can.rise old new at (λ d. with_view_last view (left_by view d)) (ap document_of made));
      stays = one_stays t to can.named can.rise old new at (made ∙ ap (λ d. record old { document = d }) (sym (ap document_of made))) (ap (λ (k : Kept). k.document.id) made);
    }

pub returns-else-from-to : goal.returns-else-from-to
returns-else-from-to c =
    let t = c.args.documents.now in let view = c.args.view in let from = c.args.from in let to = c.args.to in let can = c.requires.can in
    let old = c.at_mut-document.result.now in let new = c.attach_reserved-else-from-to.new.self in let at = c.at_mut-document.ensures.value in
    let made = c.attach_reserved-else-from-to.ensures in let put = record t { entries = with_value_at to new t.entries } in
    let stays = one_stays t to can.named can.rise old new at (made ∙ ap (λ d. record old { document = d }) (sym (ap document_of made))) (ap (λ (k : Kept). k.document.id) made) in
    record {
      moved = passed_on view to c.the_living_are_left.ensures from c.if-from-to.false t put.entries c.leave.new.self can
          (changed document_of id_of_document t.entries to t.next can.named can.rise old new at (with_view_last view) (ap document_of made)) stays.named c.leave.ensures.documents;
      stays = stays_twice t put c.leave.new.self stays
          (one_left from (left_by view) (λ d. refl) put c.leave.new.self stays.named c.leave.ensures.documents c.leave.ensures.others c.leave.ensures.rest c.leave.ensures.next c.leave.ensures.capacity);
    }
