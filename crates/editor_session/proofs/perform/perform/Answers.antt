use Rattle.editor_session.proofs.Names.{performed_at, ◌≡◌, ◌++◌, ◌+◌, ◌≤◌, ℕ, List, [], pos, false, true, IfSome, value_at, SessionState, Session, Notice, IsKept, IsSent, rules, refl, ap, sym, subst, length, slice_range, eqb-true, IsFitPlan, Document, text_of, watching, views_of, told, modify_attempt, blank, response, styled_text, session_in, request_of, Message, quiet, IsSound, not-true, CanPerform, ◌∙◌}
use Rattle.ed_model.specs.declared.plan.Plan.TheVariants as plan
use Rattle.performing.specs.SessionMemory.{takes_memory}
use Rattle.editor_session.proofs.Keeping.{kept_with}
use Rattle.editor_session.proofs.OneDocument.{document_here, for_document, kept_performed, of_document}
use Rattle.editor_session.proofs.TableWay.{can_as, can_in, performed_in, can_change_session, performed_as, revalued, quietly}
use Rattle.editor_session.proofs.perform.perform.Goals as goal

-- the bytes that are handed out are those of the request's document
module _ {s : SessionState} {s' : Session} {document view : ℕ} {m : Message} (kept : IsKept s) (same : session_in s ≡ s') (by : IsSent s' document view m) (start count : ℕ) (out : List ℕ) where
  here : IsSent (session_in s) document view m
  here = subst (λ (x : Session). IsSent x document view m) (sym same) by

  handed : IfSome (value_at s.documents.entries document) (λ k. out ≡ slice_range (text_of k.document) start (start + count)) → out ≡ slice_range (text_of (request_of s' view m).document) start (start + count)
  handed h = subst (λ (x : Session). out ≡ slice_range (text_of (request_of x view m).document) start (start + count)) same (of_document kept here (λ (d : Document). out ≡ slice_range (text_of d) start (start + count)) h)

  styled : IfSome (value_at s.documents.entries document) (λ k. out ≡ styled_text (slice_range k.document.cells start (start + count))) → out ≡ styled_text (slice_range (request_of s' view m).document.cells start (start + count))
  styled h = subst (λ (x : Session). out ≡ styled_text (slice_range (request_of x view m).document.cells start (start + count))) same (of_document kept here (λ (d : Document). out ≡ styled_text (slice_range d.cells start (start + count))) h)

pub returns-in-Answer-clause-done : goal.returns-in-Answer-clause-done
returns-in-Answer-clause-done c = performed_as c.in-Answer.is (quietly c.args.notes.now.notes refl) (search rules) c.requires.empty

pub perform_edit-requires : goal.perform_edit-requires
perform_edit-requires c = record { can = can_as c.requires.can c.in-Edit.is (λ h. h) }

pub returns-in_ok-perform_edit-in-Edit-clause-done : goal.returns-in_ok-perform_edit-in-Edit-clause-done
returns-in_ok-perform_edit-in-Edit-clause-done c = performed_as c.in-Edit.is (revalued c.in-Edit.value c.in_ok-perform_edit-in-Edit.ensures.done refl) (search rules) c.requires.empty

pub returns-in_err-perform_edit-in-Edit-clause-free : goal.returns-in_err-perform_edit-in-Edit-clause-free
returns-in_err-perform_edit-in-Edit-clause-free c = rw c.in-Edit.is (λ h. let bad : false ≡ true = c.in_err-perform_edit-in-Edit.ensures.free h in absurd (cc))

pub perform_change-requires : goal.perform_change-requires
perform_change-requires c = record { can = can_as c.requires.can c.in-ChangeDocument.is (λ h. h) }

pub returns-in_ok-perform_change-in-ChangeDocument-clause-done : goal.returns-in_ok-perform_change-in-ChangeDocument-clause-done
returns-in_ok-perform_change-in-ChangeDocument-clause-done c = performed_as c.in-ChangeDocument.is (revalued c.in-ChangeDocument.value c.in_ok-perform_change-in-ChangeDocument.ensures.done refl) (search rules) c.requires.empty

pub returns-in_err-perform_change-in-ChangeDocument-clause-free : goal.returns-in_err-perform_change-in-ChangeDocument-clause-free
returns-in_err-perform_change-in-ChangeDocument-clause-free c = rw c.in-ChangeDocument.is (λ h. let bad : false ≡ true = c.in_err-perform_change-in-ChangeDocument.ensures.free h in absurd (cc))

pub change_session-requires : goal.change_session-requires
change_session-requires c =
    let t = c.args.task.now in let p = c.in-ChangeSession in
    let can : CanPerform (session_in c.session-in-ChangeSession.inside.state) t.document t.view t.message.now (plan.ChangeSession p.change p.value) = can_as (can_in c.session-in-ChangeSession.view_is c.requires.can) p.is (λ h. h) in
    record { kept = c.session-in-ChangeSession.invariant; can = can_change_session p.change c.message.inside.text.now (search rules) can }

pub returns-in_ok-change_session-in-ChangeSession-clause-done : goal.returns-in_ok-change_session-in-ChangeSession-clause-done
returns-in_ok-change_session-in-ChangeSession-clause-done c =
    let t = c.args.task.now in let p = c.in-ChangeSession in
    let same : c.message.inside.text.now ≡ t.message.now.text = search rules in
    let changed = c.in_ok-change_session-in-ChangeSession.ensures.changed
    ∙ ap (λ text. (performed_at (session_in c.session-in-ChangeSession.inside.state) t.view text (plan.ChangeSession p.change p.value)).0) same in
    performed_in c.session-in-ChangeSession.view_is (performed_as p.is (quietly {what = plan.ChangeSession p.change p.value} c.args.notes.now.notes (ap (λ x. (x, quiet p.value)) (sym changed))) (search rules) c.requires.empty)

pub invariant_of-session-in-ChangeSession : goal.invariant_of-session-in-ChangeSession
invariant_of-session-in-ChangeSession c =
    let t = c.args.task.now in let p = c.in-ChangeSession in
    let same : c.message.inside.text.now ≡ t.message.now.text = search rules in
    let changed = c.in_ok-change_session-in-ChangeSession.ensures.changed
    ∙ ap (λ text. (performed_at (session_in c.session-in-ChangeSession.inside.state) t.view text (plan.ChangeSession p.change p.value)).0) same in
    let e = c.in_ok-change_session-in-ChangeSession.ensures.stays in
    kept_performed c.plans_are_fit.ensures.keep_sound {what = plan.ChangeSession p.change p.value} c.session-in-ChangeSession.invariant (can_as (can_in c.session-in-ChangeSession.view_is c.requires.can) p.is (λ h. h)) (ap (λ x. (x, quiet p.value)) (sym changed)) e.limits e.documents e.views e.widths

pub invariant_of-session : goal.invariant_of-session
invariant_of-session c =
    let e = c.in_err-change_session-in-ChangeSession.ensures in
    kept_with c.session-in-ChangeSession.inside.state c.change_session.new.state c.session-in-ChangeSession.invariant (subst IsSound (sym e.same) c.session-in-ChangeSession.invariant.sound) e.stays.limits e.stays.documents e.stays.views e.stays.widths

pub returns-in_err-change_session-in-ChangeSession-clause-free : goal.returns-in_err-change_session-in-ChangeSession-clause-free
returns-in_err-change_session-in-ChangeSession-clause-free c = rw c.in-ChangeSession.is (λ h. let bad : false ≡ true = c.in_err-change_session-in-ChangeSession.ensures.free (not-true (takes_memory c.in-ChangeSession.change) h) in absurd (cc))

pub perform_view_change-requires : goal.perform_view_change-requires
perform_view_change-requires c = record { can = can_as c.requires.can c.in-ChangeView.is (λ h. h) }

pub returns-in_ok-perform_view_change-in-ChangeView-clause-done : goal.returns-in_ok-perform_view_change-in-ChangeView-clause-done
returns-in_ok-perform_view_change-in-ChangeView-clause-done c = performed_as c.in-ChangeView.is (revalued c.in-ChangeView.value (quietly {what = plan.ChangeView c.in-ChangeView.change (pos 0)} c.args.notes.now.notes c.in_ok-perform_view_change-in-ChangeView.ensures.done) refl) (search rules) c.requires.empty

pub returns-in_err-perform_view_change-in-ChangeView-clause-free : goal.returns-in_err-perform_view_change-in-ChangeView-clause-free
returns-in_err-perform_view_change-in-ChangeView-clause-free c = rw c.in-ChangeView.is (λ h. let bad : false ≡ true = c.in_err-perform_view_change-in-ChangeView.ensures.free h in absurd (cc))

pub perform_transaction-requires : goal.perform_transaction-requires
perform_transaction-requires c = record { can = can_as c.requires.can c.in-Undo.is (λ h. h) }

pub returns-in_ok-perform_transaction-in-Undo-clause-done : goal.returns-in_ok-perform_transaction-in-Undo-clause-done
returns-in_ok-perform_transaction-in-Undo-clause-done c = performed_as c.in-Undo.is c.in_ok-perform_transaction-in-Undo.ensures.done refl c.requires.empty

pub returns-in_err-perform_transaction-in-Undo-clause-free : goal.returns-in_err-perform_transaction-in-Undo-clause-free
returns-in_err-perform_transaction-in-Undo-clause-free c = rw c.in-Undo.is (λ h. let bad : false ≡ true = h in absurd (cc))

pub perform_transaction-requires-in-Redo : goal.perform_transaction-requires-in-Redo
perform_transaction-requires-in-Redo c = record { can = can_as c.requires.can c.in-Redo.is (λ h. h) }

pub returns-in_ok-perform_transaction-in-Redo-clause-done : goal.returns-in_ok-perform_transaction-in-Redo-clause-done
returns-in_ok-perform_transaction-in-Redo-clause-done c = performed_as c.in-Redo.is c.in_ok-perform_transaction-in-Redo.ensures.done refl c.requires.empty

pub returns-in_err-perform_transaction-in-Redo-clause-free : goal.returns-in_err-perform_transaction-in-Redo-clause-free
returns-in_err-perform_transaction-in-Redo-clause-free c = rw c.in-Redo.is (λ h. let bad : false ≡ true = h in absurd (cc))

pub perform_attempt-requires-clause-there : goal.perform_attempt-requires-clause-there
perform_attempt-requires-clause-there c = let o = c.session-in-Attempt in document_here o.invariant (can_in o.view_is c.requires.can).request

pub returns-in_ok-perform_attempt-in-Attempt-clause-done : goal.returns-in_ok-perform_attempt-in-Attempt-clause-done
returns-in_ok-perform_attempt-in-Attempt-clause-done c =
    let o = c.session-in-Attempt in let before = c.args.notes.now.notes in let t = c.args.task.now in
    let notes : Session → List Notice = λ x. told (watching x.views (request_of x t.view t.message.now).document) (blank modify_attempt) in
    let heard = of_document o.invariant (can_in o.view_is c.requires.can).request (λ (d : Document). c.perform_attempt.new.notes.notes ≡ before ++ told (watching (views_of o.inside.state.views.entries) d) (blank modify_attempt)) c.in_ok-perform_attempt-in-Attempt.ensures.told in
    performed_as c.in-Attempt.is
    (record { told = notes c.args.session.now; done = refl; heard = subst (λ (x : Session). c.perform_attempt.new.notes.notes ≡ before ++ notes x) o.view_is heard })
    refl c.requires.empty

pub returns-in_err-perform_attempt-in-Attempt-clause-free : goal.returns-in_err-perform_attempt-in-Attempt-clause-free
returns-in_err-perform_attempt-in-Attempt-clause-free c = rw c.in-Attempt.is (λ h. let bad : false ≡ true = h in absurd (cc))

pub hand_out-requires : goal.hand_out-requires
hand_out-requires c =
    let p = c.in-HandOut in let can = can_in c.session.view_is c.requires.can in
    record { range = for_document c.session.invariant can.request (λ (d : Document). p.start + p.count ≤ length d.cells) (subst (IsFitPlan (request_of (session_in c.session.inside.state) c.args.task.now.view c.args.task.now.message.now)) p.is can.fit) }

pub returns-in_ok-handed_out-in-HandOut-clause-done : goal.returns-in_ok-handed_out-in-HandOut-clause-done
returns-in_ok-handed_out-in-HandOut-clause-done c =
    let p = c.in-HandOut in let h = c.in_ok-handed_out-in-HandOut in
    let bytes = handed c.session.invariant c.session.view_is c.requires.can.request p.start p.count _ h.ensures.bytes in
    performed_as p.is (quietly c.args.notes.now.notes (ap (λ b. (c.args.session.now, response p.value b [])) (sym bytes))) (search rules) refl

pub returns-in_err-handed_out-in-HandOut-clause-free : goal.returns-in_err-handed_out-in-HandOut-clause-free
returns-in_err-handed_out-in-HandOut-clause-free c = rw c.in-HandOut.is (λ h. let bad : false ≡ true = c.in_err-handed_out-in-HandOut.ensures.free (eqb-true c.in-HandOut.count 0 h) in absurd (cc))

pub hand_out_styled-requires : goal.hand_out_styled-requires
hand_out_styled-requires c =
    let p = c.in-HandOutStyled in let o = c.session-in-HandOutStyled in let can = can_in o.view_is c.requires.can in
    record { range = for_document o.invariant can.request (λ (d : Document). p.start + p.count ≤ length d.cells) (subst (IsFitPlan (request_of (session_in o.inside.state) c.args.task.now.view c.args.task.now.message.now)) p.is can.fit) }

pub returns-in_ok-handed_out-in-HandOutStyled-clause-done : goal.returns-in_ok-handed_out-in-HandOutStyled-clause-done
returns-in_ok-handed_out-in-HandOutStyled-clause-done c =
    let p = c.in-HandOutStyled in let o = c.session-in-HandOutStyled in let h = c.in_ok-handed_out-in-HandOutStyled in
    let bytes = styled o.invariant o.view_is c.requires.can.request p.start p.count _ h.ensures.bytes in
    performed_as p.is (quietly c.args.notes.now.notes (ap (λ b. (c.args.session.now, response (pos (length b)) b [])) (sym bytes))) (search rules) refl

pub returns-in_err-handed_out-in-HandOutStyled-clause-free : goal.returns-in_err-handed_out-in-HandOutStyled-clause-free
returns-in_err-handed_out-in-HandOutStyled-clause-free c = rw c.in-HandOutStyled.is (λ h. let bad : false ≡ true = c.in_err-handed_out-in-HandOutStyled.ensures.free (eqb-true c.in-HandOutStyled.count 0 h) in absurd (cc))
