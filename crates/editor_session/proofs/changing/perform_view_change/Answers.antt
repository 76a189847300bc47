use Rattle.editor_session.proofs.Names.{◌≡◌, pos, ap, sym, subst, quiet, documents_in, IsKept, IsSound, DocumentsAreNamed, HaveWidths, KeepWidths, SessionState, err_from_is_err_and, widths_kept}
use Rattle.editor_session.proofs.DocumentChanges.{fold_room}
use Rattle.editor_session.proofs.Keeping.{kept_with}
use Rattle.editor_session.proofs.OneDocument.{kept_performed}
use Rattle.editor_session.proofs.TableWay.{can_change_view, can_in}
use Rattle.editor_session.proofs.changing.perform_view_change.Goals as goal

-- only the views changed, and kept their documents and their widths
widths_only : {s : SessionState} → IsKept s → (new : SessionState) → new ≡ record s { views = record s.views { entries = new.views.entries } } → KeepWidths s.views new.views → HaveWidths (documents_in new.documents) new.views
widths_only {s} kept new rest same =
    subst (λ (x : SessionState). HaveWidths (documents_in x.documents) new.views) (sym rest) (widths_kept (documents_in s.documents) s.views new.views same kept.widths)

pub change_view-requires : goal.change_view-requires
change_view-requires c = record { kept = c.session.invariant; can = can_change_view (can_in c.session.view_is c.requires.can) }

pub returns-clause-done : goal.returns-clause-done
returns-clause-done c = rw (sym c.session.view_is) (ap (λ x. (x, quiet (pos 0))) (sym c.in_ok-change_view.ensures.changed))

pub invariant_of-session-2 : goal.invariant_of-session-2
invariant_of-session-2 c =
    let e = c.in_ok-change_view.ensures.stays in let kept = c.session.invariant in
    kept_performed c.plans_are_fit.ensures.keep_sound kept (can_in c.session.view_is c.requires.can) (ap (λ x. (x, quiet (pos 0))) (sym c.in_ok-change_view.ensures.changed)) (ap (λ (s : SessionState). s.limits) e.rest)
    (subst (λ (s : SessionState). DocumentsAreNamed s.documents.entries) (sym e.rest) kept.documents) e.views
    (widths_only kept c.change_view.new.state e.rest e.widths)

pub invariant_of-session : goal.invariant_of-session
invariant_of-session c =
    let e = c.in_err-change_view.ensures in let kept = c.session.invariant in
    kept_with c.session.inside.state c.change_view.new.state kept (subst IsSound (sym e.same) kept.sound) (ap (λ (s : SessionState). s.limits) e.stays.rest)
    (subst (λ (s : SessionState). DocumentsAreNamed s.documents.entries) (sym e.stays.rest) kept.documents) e.stays.views
    (widths_only kept c.change_view.new.state e.stays.rest e.stays.widths)

pub returns-in_err-change_view-clause-free : goal.returns-in_err-change_view-clause-free
returns-in_err-change_view-clause-free c =
    rw (err_from_is_err_and c.from_residual.result c.from_residual.ensures.1).1
    (rw (sym c.session.view_is) (λ free. c.in_err-change_view.ensures.free (fold_room c.session.invariant (can_in c.session.view_is c.requires.can).request c.args.change free)))
