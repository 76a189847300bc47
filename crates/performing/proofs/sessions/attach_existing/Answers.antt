use Rattle.performing.proofs.SessionLemmas.{refl, ap, sym, ◌∙◌, subst, IfSome, err_from_is_err_and, Attach, attached, HasViewRoom, document_there_at, sender_of, stays_then, can_attach_there, place_stays, session_same, with_place}
use Rattle.performing.proofs.sessions.attach_existing.Goals as goal

pub at_mut-other-requires : goal.at_mut-other-requires
at_mut-other-requires c = record { there = document_there_at c.requires.kept c.args.to c.requires.can.fit.0 c.requires.can.fit.1 }

pub attach-requires : goal.attach-requires
attach-requires c =
    let at = c.at_mut-other.ensures.value in
    record { can = can_attach_there c.requires.kept c.requires.can.request c.args.to c.at_mut-other.result.now c.reserve_view.new.self at c.reserve_view.ensures.grown.0 c.in_ok-reserve_view.ensures.reserved.0 }

pub returns : goal.returns
returns c =
    let kept = c.requires.kept in let is = c.requires.can.request in let to = c.args.to in let old = c.at_mut-other.result.now in let new = c.reserve_view.new.self in
    let at = c.at_mut-other.ensures.value in let e = c.reserve_view.ensures in
    record {
      changed = c.attach.ensures.attached ∙ ap (attached to (sender_of c.args.state.now c.args.view)) (session_same kept is to old new at e.grown.0);
      same = tt;
      place = λ _. refl;
      stays = stays_then (Attach to) c.args.state.now (with_place kept is to old new at e.grown.0) c.attach.new.state refl (place_stays kept is to old new at e.grown.0 e.grown.2) c.attach.ensures.stays;
    }

pub returns-in_err-reserve_view : goal.returns-in_err-reserve_view
returns-in_err-reserve_view c =
    let kept = c.requires.kept in let is = c.requires.can.request in let to = c.args.to in let old = c.at_mut-other.result.now in let new = c.reserve_view.new.self in
    let at = c.at_mut-other.ensures.value in let e = c.reserve_view.ensures in let place = c.in_err-reserve_view.ensures.reserved.1 in
    rw (err_from_is_err_and c.from_residual.result c.from_residual.ensures.1).1
    (record {
      changed = tt;
      same = session_same kept is to old new at e.grown.0;
      place = λ has. (place (subst (λ o. IfSome o HasViewRoom) at has)).0;
      stays = place_stays kept is to old new at e.grown.0 e.grown.2;
    })
