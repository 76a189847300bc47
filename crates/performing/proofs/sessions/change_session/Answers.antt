use Rattle.performing.proofs.SessionLemmas.{◌+◌, ◌≤◌, length, ap, sym, ◌∙◌, subst, Document, session_in, IsFitSessionChange, session_changed, asked, sender_of, document_for, text_from, document_there, same_document, without_text, few_held}
use Rattle.performing.proofs.sessions.change_session.Goals as goal

pub at-document-requires : goal.at-document-requires
at-document-requires c = record { there = document_there c.requires.kept c.requires.can.request }

pub text_to_vec-requires : goal.text_to_vec-requires
text_to_vec-requires c =
    let a = c.args in
    subst (λ (d : Document). c.in-Copy.start + c.in-Copy.count ≤ length d.cells)
    (sym (same_document c.requires.kept c.requires.can.request c.at-document.result.now c.at-document.ensures))
    (subst (IsFitSessionChange (asked (session_in a.state.now) a.view a.text.now)) c.in-Copy.is c.requires.can.fit)

pub attach_existing-requires-clause-can : goal.attach_existing-requires-clause-can
attach_existing-requires-clause-can c =
    let a = c.args in
    record { request = without_text c.requires.can.request; fit = subst (IsFitSessionChange (asked (session_in a.state.now) a.view a.text.now)) c.in-Attach.is c.requires.can.fit }

pub attach_new-requires-clause-can : goal.attach_new-requires-clause-can
attach_new-requires-clause-can c =
    let a = c.args in
    record { request = without_text c.requires.can.request; fit = subst (IsFitSessionChange (asked (session_in a.state.now) a.view a.text.now)) c.in-AttachNew.is c.requires.can.fit }

pub add_reference-requires-clause-few : goal.add_reference-requires-clause-few
add_reference-requires-clause-few c =
    let a = c.args in let fit = subst (IsFitSessionChange (asked (session_in a.state.now) a.view a.text.now)) c.in-AddReference.is c.requires.can.fit in
    few_held c.requires.kept c.in-AddReference.document fit.0 fit.1 fit.2

pub returns-in_ok-state-in-Copy-clause-changed : goal.returns-in_ok-state-in-Copy-clause-changed
returns-in_ok-state-in-Copy-clause-changed c =
    let s = session_in c.args.state.now in let kept = c.requires.kept in let is = c.requires.can.request in
    ap (λ bytes. record s { clipboard = bytes })
    (c.in_ok-state-in-Copy.ensures.bytes ∙ ap (text_from c.in-Copy.start c.in-Copy.count) (same_document kept is c.at-document.result.now c.at-document.ensures))
    ∙ ap (session_changed s (sender_of c.args.state.now c.args.view) (document_for c.args.state.now c.args.view) c.args.text.now) (sym c.in-Copy.is)
