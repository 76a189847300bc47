use Rattle.editor_session.proofs.Names.{rules, ◌≡◌, false, true, refl, sym, subst, ap, ◌∙◌, Document, err_from_is_err_and}
use Rattle.ed_model.specs.proved.Changes.{changed_id}
use Rattle.performing.specs.Changed.{Changes}
use Rattle.editor_session.proofs.OneDocument.{document_here, watched_here, still_named, same_session, still_kept, kept_performed, widths_after}
use Rattle.editor_session.proofs.DocumentChanges.{fits_here, text_read, change_performed, change_free}
use Rattle.editor_session.proofs.TableWay.{can_in, performed_in}
use Rattle.editor_session.proofs.changing.perform_change.Goals as goal

pub at_mut-document-requires : goal.at_mut-document-requires
at_mut-document-requires c = record { there = document_here c.session.invariant (can_in c.session.view_is c.requires.can).request }

pub change_document-requires : goal.change_document-requires
change_document-requires c =
    let old = c.at_mut-document.result.now in let kept = c.session.invariant in let can = can_in c.session.view_is c.requires.can in
    let at = c.at_mut-document.ensures.value in
    record { fits = fits_here kept can old at; text = text_read kept can c.message.inside.text.now (search rules); watched = watched_here kept can.request old at }

pub returns : goal.returns
returns c =
    let a = c.args in let old = c.at_mut-document.result.now in let kept = c.session.invariant in let can = can_in c.session.view_is c.requires.can in
    let n = c.change_document.new in
    let same : c.message.inside.text.now ≡ a.task.now.message.now.text = search rules in
    let e = subst (λ x. Changes x a.change.now a.task.now.view old n.document c.session.inside.state.views n.views a.notes.now n.notes) same c.in_ok-change_document.ensures.changed in
    let made = change_performed kept can old c.at_mut-document.ensures.value n.document n.views a.notes.now.notes n.notes.notes e.document e.lines e.stay.next e.told in
    record { done = performed_in c.session.view_is made; same = search rules; free = search rules }

pub invariant_of-session-2 : goal.invariant_of-session-2
invariant_of-session-2 c =
    let a = c.args in let s = c.session.inside.state in let old = c.at_mut-document.result.now in let kept = c.session.invariant in let can = can_in c.session.view_is c.requires.can in
    let n = c.change_document.new in let m = a.task.now.message.now in
    let same : c.message.inside.text.now ≡ m.text = search rules in
    let e = subst (λ x. Changes x a.change.now a.task.now.view old n.document s.views n.views a.notes.now n.notes) same c.in_ok-change_document.ensures.changed in
    let at = c.at_mut-document.ensures.value in
    let made = change_performed kept can old at n.document n.views a.notes.now.notes n.notes.notes e.document e.lines e.stay.next e.told in
    kept_performed c.plans_are_fit.ensures.keep_sound kept can made.done refl (still_named s kept a.task.now.document old n.document at (ap (λ (d : Document). d.id) e.document ∙ changed_id m.text a.change.now old.document)) e.watched.named
    (widths_after kept a.task.now.document n.document n.views e.stay.widths e.watched.widths)

pub returns-in_err-change_document : goal.returns-in_err-change_document
returns-in_err-change_document c =
    let a = c.args in let s = c.session.inside.state in let id = a.task.now.document in let old = c.at_mut-document.result.now in let n = c.change_document.new in let kept = c.session.invariant in
    let e = c.in_err-change_document.ensures in
    let at = c.at_mut-document.ensures.value in
    rw (err_from_is_err_and c.from_residual.result c.from_residual.ensures.1).1
    (record {
      done = tt;
      same = same_session s kept id old n.document at n.views e.same.document e.same.views ∙ c.session.view_is;
      free = rw (sym c.session.view_is) (change_free kept (can_in c.session.view_is c.requires.can) old at (false ≡ true) e.free);
    })

pub invariant_of-session : goal.invariant_of-session
invariant_of-session c =
    let a = c.args in let s = c.session.inside.state in let id = a.task.now.document in let old = c.at_mut-document.result.now in let n = c.change_document.new in
    let e = c.in_err-change_document.ensures in
    still_kept s c.session.invariant id old n.document c.at_mut-document.ensures.value n.views e.same.document e.same.views
