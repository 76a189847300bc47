use Rattle.performing.proofs.SessionLemmas.{◌≤◌, ◌+◌, max, length, ap, sym, ◌∙◌, refl, subst, AttachNew, Kept, KeepsRoom, CanAttach, attached, document_of, new_document, new_kept, session_in, eq-eqb, sender_of, has_room, stays_then, can_attach_new, few_ids, session_more, stays_more}
use Rattle.performing.proofs.sessions.attach_new.Goals as goal

pub add-requires : goal.add-requires
add-requires c = record { few = few_ids c.requires.kept c.requires.can.fit }

pub attach-requires : goal.attach-requires
attach-requires c =
    let s = c.args.state.now in let made = c.in_ok-new.ensures ∙ ap (λ id. new_kept id 0) c.next.ensures.next in
    let new = c.reserve_view.ensures.grown.0 ∙ ap (λ (k : Kept). record k { capacity = record k.capacity { views = c.reserve_view.new.self.capacity.views } }) made in
    record {
      can = subst (CanAttach (record s { documents = c.add.new.documents }) c.args.document c.args.view) (sym c.in_ok-id.ensures.id)
          (can_attach_new c.requires.kept c.reserve_view.new.self c.add.new.documents c.in_ok-id.ensures.added c.requires.can.request (ap document_of new) c.in_ok-reserve_view.ensures.reserved.0);
    }

pub returns : goal.returns
returns c =
    let s = c.args.state.now in let kept = c.requires.kept in let k = c.reserve_view.new.self in let table = c.add.new.documents in
    let made = c.in_ok-new.ensures ∙ ap (λ id. new_kept id 0) c.next.ensures.next in
    let new = c.reserve_view.ensures.grown.0 ∙ ap (λ (k : Kept). record k { capacity = record k.capacity { views = c.reserve_view.new.self.capacity.views } }) made in
    let n = s.documents.next in let v = sender_of s c.args.view in
    record {
      changed = c.attach.ensures.attached ∙ ap (λ id. attached id v (session_in (record s { documents = table }))) c.in_ok-id.ensures.id
          ∙ ap (attached n v) (session_more kept k table c.in_ok-id.ensures.added (new_document n 0) (ap document_of new));
      same = tt;
      stays = stays_then AttachNew s (record s { documents = table }) c.attach.new.state refl
          (stays_more kept k table c.in_ok-id.ensures.added AttachNew (ap (λ (k : Kept). k.document.id) new) refl c.in_ok-id.ensures.grows
          (subst (λ b. KeepsRoom b (new_kept n 0) k) (sym (eq-eqb n n refl)) (has_room (new_kept n 0) k new (subst (λ (o : Kept). k.capacity.views ≤ max o.capacity.views (length o.document.views + max 1 (length o.document.views))) made c.reserve_view.ensures.grown.2))))
          c.attach.ensures.stays;
    }
