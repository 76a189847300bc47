use Rattle.editor_session.proofs.Names.{◌≡◌, [], pos, false, true, length, refl, sym, ◌∙◌, Document, text_of, converted, session_in, request_of, SessionState, TakesWithin, taken_along, rules, err_from_is_err_and}
use Rattle.editor_session.proofs.EditLemmas.{edit_takes, free_steps, free_taken, free_pasted, steps_are, within_here, wide_here, edit_performed}
use Rattle.editor_session.proofs.OneDocument.{document_here, for_document, of_document, watched_here, with_scene, still_named, same_session, still_kept, kept_performed, widths_followed}
use Rattle.editor_session.proofs.TableWay.{can_in, performed_in}
use Rattle.editor_session.proofs.editing.perform_edit.Goals as goal

pub pasted_bytes-requires : goal.pasted_bytes-requires
pasted_bytes-requires c = record { there = document_here c.session.invariant (can_in c.session.view_is c.requires.can).request }

pub taken_bytes-requires : goal.taken_bytes-requires
taken_bytes-requires c =
    let a = c.args in let kept = c.session.invariant in let can = can_in c.session.view_is c.requires.can in
    record { can = for_document kept can.request (λ (d : Document). TakesWithin a.follow (length d.cells)) (edit_takes (request_of (session_in c.session.inside.state) a.task.now.view a.task.now.message.now) a.edit (pos 0) a.follow can.fit) }

pub at_mut-document-requires : goal.at_mut-document-requires
at_mut-document-requires c = record { there = document_here c.session.invariant (can_in c.session.view_is c.requires.can).request }

pub edit_with_room-requires : goal.edit_with_room-requires
edit_with_room-requires c =
    let a = c.args in let kept = c.session.invariant in let can = can_in c.session.view_is c.requires.can in let old = c.at_mut-document.result.now in let held = c.deref.result.now in let pasted = c.in_ok-pasted in
    let at = c.at_mut-document.ensures.value in
    let same : c.message.inside.text.now ≡ a.task.now.message.now.text = search rules in
    record {
      within = within_here kept can held c.deref-2.result.now pasted.pasted.items same c.deref.ensures.value c.deref-2.ensures.value pasted.ensures.pasted old at;
      wide = wide_here kept can held c.deref-2.result.now pasted.pasted.items same c.deref.ensures.value c.deref-2.ensures.value pasted.ensures.pasted old at c.plans_are_fit.ensures.edit_steps;
      watched = watched_here kept can.request old at;
    }

pub returns : goal.returns
returns c =
    let a = c.args in let s = c.session.inside.state in let kept = c.session.invariant in let can = can_in c.session.view_is c.requires.can in let old = c.at_mut-document.result.now in let n = c.edit_with_room.new in
    let e = c.in_ok-edit_with_room.ensures in let f = c.follow_edit in let next = f.ensures.next in let pasted = c.in_ok-pasted in
    let at = c.at_mut-document.ensures.value in
    let same : c.message.inside.text.now ≡ a.task.now.message.now.text = search rules in
    let taken = of_document kept can.request (λ (d : Document). c.in_ok-taken.taken.items ≡ taken_along a.follow (text_of d)) c.in_ok-taken.ensures.taken in
    let put : SessionState = with_scene s a.task.now.document n.document f.new.views in
    let s' : SessionState = record put { clipboard = f.new.clipboard } in
    let made = edit_performed kept can c.deref.result.now c.deref-2.result.now pasted.pasted.items same c.deref.ensures.value c.deref-2.ensures.value pasted.ensures.pasted old at n.document n.views f.new.views a.notes.now n.notes s' c.in_ok-taken.taken.items e.scene e.id e.next
    (rw next refl) f.ensures.views f.ensures.clipboard taken in
    record { done = performed_in c.session.view_is made; same = search rules; free = search rules }

pub invariant_of-session-2 : goal.invariant_of-session-2
invariant_of-session-2 c =
    let a = c.args in let s = c.session.inside.state in let kept = c.session.invariant in let can = can_in c.session.view_is c.requires.can in let old = c.at_mut-document.result.now in let n = c.edit_with_room.new in
    let e = c.in_ok-edit_with_room.ensures in let f = c.follow_edit in let next = f.ensures.next in let pasted = c.in_ok-pasted in
    let at = c.at_mut-document.ensures.value in
    let same : c.message.inside.text.now ≡ a.task.now.message.now.text = search rules in
    let taken = of_document kept can.request (λ (d : Document). c.in_ok-taken.taken.items ≡ taken_along a.follow (text_of d)) c.in_ok-taken.ensures.taken in
    let put : SessionState = with_scene s a.task.now.document n.document f.new.views in
    let s' : SessionState = record put { clipboard = f.new.clipboard } in
    let made = edit_performed kept can c.deref.result.now c.deref-2.result.now pasted.pasted.items same c.deref.ensures.value c.deref-2.ensures.value pasted.ensures.pasted old at n.document n.views f.new.views a.notes.now n.notes s' c.in_ok-taken.taken.items e.scene e.id e.next
    (rw next refl) f.ensures.views f.ensures.clipboard taken in
    kept_performed c.plans_are_fit.ensures.keep_sound kept can made.done refl (still_named s kept a.task.now.document old n.document at e.id) f.ensures.named
    (widths_followed kept a.task.now.document n.document f.new.views n.views e.widths f.ensures.widths e.watched.widths)

pub returns-in_err-edit_with_room : goal.returns-in_err-edit_with_room
returns-in_err-edit_with_room c =
    let a = c.args in let s = c.session.inside.state in let id = a.task.now.document in let kept = c.session.invariant in let can = can_in c.session.view_is c.requires.can in let old = c.at_mut-document.result.now in let n = c.edit_with_room.new in
    let e = c.in_err-edit_with_room.ensures in let pasted = c.in_ok-pasted in
    let at = c.at_mut-document.ensures.value in
    let same : c.message.inside.text.now ≡ a.task.now.message.now.text = search rules in
    rw (err_from_is_err_and c.from_residual-in_err-edit_with_room.result c.from_residual-in_err-edit_with_room.ensures.1).1
    (record {
      done = tt;
      same = same_session s kept id old n.document at n.views e.same e.same_views ∙ c.session.view_is;
      free = rw (sym c.session.view_is)
          (λ free. e.free (steps_are kept can c.deref.result.now c.deref-2.result.now pasted.pasted.items same c.deref.ensures.value c.deref-2.ensures.value pasted.ensures.pasted old at ∙ free_steps (request_of (session_in s) a.task.now.view a.task.now.message.now) a.edit (pos 0) a.follow free));
    })

pub invariant_of-session : goal.invariant_of-session
invariant_of-session c =
    let a = c.args in let n = c.edit_with_room.new in let e = c.in_err-edit_with_room.ensures in
    still_kept c.session.inside.state c.session.invariant a.task.now.document c.at_mut-document.result.now n.document c.at_mut-document.ensures.value n.views e.same e.same_views

pub returns-in_err-pasted-clause-free : goal.returns-in_err-pasted-clause-free
returns-in_err-pasted-clause-free c = rw (sym c.session.view_is) (λ free.
    let a = c.args in let s = c.session.inside.state in let kept = c.session.invariant in let can = can_in c.session.view_is c.requires.can in
    let bad : false ≡ true = free_pasted (request_of (session_in s) a.task.now.view a.task.now.message.now) a.edit (pos 0) a.follow free (false ≡ true) c.in_err-pasted.ensures.free
    (of_document kept can.request (λ (d : Document). converted d.line_end s.clipboard.items ≡ [] → false ≡ true) c.in_err-pasted.ensures.empty) in absurd (cc))

pub returns-in_err-taken-clause-free : goal.returns-in_err-taken-clause-free
returns-in_err-taken-clause-free c = rw (sym c.session.view_is) (λ free.
    let a = c.args in
    let bad : false ≡ true = c.in_err-taken.ensures.free (free_taken (request_of (session_in c.session.inside.state) a.task.now.view a.task.now.message.now) a.edit (pos 0) a.follow free) in absurd (cc))
