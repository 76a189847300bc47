use Rattle.editor_session.proofs.Names.{reverse, refl, ◌∙◌, latest_text_step, changes_of, views_of, rules, err_from_is_err_and}
use Rattle.editor_session.proofs.Going.{steps_here, wide_here, caret_moved, gone_performed}
use Rattle.editor_session.proofs.OneDocument.{document_here, watched_here, still_named, same_session, still_kept, kept_performed, widths_followed}
use Rattle.editor_session.proofs.TableWay.{can_in, performed_in}
use Rattle.editor_session.proofs.history.perform_transaction.Goals as goal

pub at_mut-document-requires : goal.at_mut-document-requires
at_mut-document-requires c = record { there = document_here c.session.invariant (can_in c.session.view_is c.requires.can).request }

pub go_with_room-requires : goal.go_with_room-requires
go_with_room-requires c =
    let kept = c.session.invariant in let can = can_in c.session.view_is c.requires.can in let old = c.at_mut-document.result.now in let law = c.plans_are_fit.ensures in
    let at = c.at_mut-document.ensures.value in
    record {
      steps = steps_here c.args.direction kept can old at law.undo_steps law.redo_steps;
      wide = wide_here c.args.direction kept can old at law.undo_steps law.redo_steps;
      watched = watched_here kept can.request old at;
    }

pub returns : goal.returns
returns c =
    let a = c.args in let t = a.task.now in let s = c.session.inside.state in let kept = c.session.invariant in let can = can_in c.session.view_is c.requires.can in let old = c.at_mut-document.result.now in let n = c.go_with_room.new in
    let e = c.in_ok-place.ensures in let f = c.move_caret in
    let at = c.at_mut-document.ensures.value in
    let caret = caret_moved t.view c.in_ok-place.place (latest_text_step (reverse (changes_of a.direction old.document.history))) (views_of n.views.entries) e.place in
    let made = gone_performed a.direction kept can old at n.document n.views f.new.views a.notes.now n.notes e.scene e.id (f.ensures.views ∙ caret) e.next f.ensures.next in
    record { done = performed_in c.session.view_is made; same = search rules }

pub invariant_of-session-2 : goal.invariant_of-session-2
invariant_of-session-2 c =
    let a = c.args in let t = a.task.now in let s = c.session.inside.state in let kept = c.session.invariant in let can = can_in c.session.view_is c.requires.can in let old = c.at_mut-document.result.now in let n = c.go_with_room.new in
    let e = c.in_ok-place.ensures in let f = c.move_caret in
    let at = c.at_mut-document.ensures.value in
    let caret = caret_moved t.view c.in_ok-place.place (latest_text_step (reverse (changes_of a.direction old.document.history))) (views_of n.views.entries) e.place in
    let made = gone_performed a.direction kept can old at n.document n.views f.new.views a.notes.now n.notes e.scene e.id (f.ensures.views ∙ caret) e.next f.ensures.next in
    kept_performed c.plans_are_fit.ensures.keep_sound kept can made.done refl (still_named s kept t.document old n.document at e.id) f.ensures.named
    (widths_followed kept t.document n.document f.new.views n.views e.widths f.ensures.widths e.watched.widths)

pub returns-in_err-place : goal.returns-in_err-place
returns-in_err-place c =
    let n = c.go_with_room.new in let e = c.in_err-place.ensures in
    let same = same_session c.session.inside.state c.session.invariant c.args.task.now.document c.at_mut-document.result.now n.document c.at_mut-document.ensures.value n.views e.same e.same_views in
    rw (err_from_is_err_and c.from_residual.result c.from_residual.ensures.1).1 (record { done = tt; same = same ∙ c.session.view_is })

pub invariant_of-session : goal.invariant_of-session
invariant_of-session c =
    let n = c.go_with_room.new in let e = c.in_err-place.ensures in
    still_kept c.session.inside.state c.session.invariant c.args.task.now.document c.at_mut-document.result.now n.document c.at_mut-document.ensures.value n.views e.same e.same_views
