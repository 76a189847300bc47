use Rattle.editor_session.proofs.Names.{rules, ◌≡◌, [], refl, subst, ap, ◌∙◌, Bool, true, false, Document, no_notes}
use Rattle.ed_model.specs.proved.Changes.{changed_id}
use Rattle.performing.specs.Changed.{IsMadeUnheard}
use Rattle.editor_session.proofs.OneDocument.{document_here, watched_here, still_named, same_session, still_kept, kept_performed, widths_after}
use Rattle.editor_session.proofs.DocumentChanges.{fits_here, text_read, change_performed}
use Rattle.editor_session.proofs.TableWay.{can_in, performed_in}
use Rattle.editor_session.proofs.changing.perform_unheard_change.Goals as goal

by_cases : {P : Type 0} (b : Bool) → (b ≡ true → P) → (b ≡ false → P) → P
by_cases true f g = f refl
by_cases false f g = g refl

pub at_mut-document-requires : goal.at_mut-document-requires
at_mut-document-requires c = record { there = document_here c.session.invariant (can_in c.session.view_is c.requires.can).request }

pub change_unheard-requires : goal.change_unheard-requires
change_unheard-requires c =
    let kept = c.session.invariant in let can = can_in c.session.view_is c.requires.can in let old = c.at_mut-document.result.now in
    let at = c.at_mut-document.ensures.value in
    record { fits = fits_here kept can old at; text = text_read kept can c.message.inside.text.now (search rules); watched = watched_here kept can.request old at }

pub returns : goal.returns
returns c =
    let a = c.args in let s = c.session.inside.state in let kept = c.session.invariant in let can = can_in c.session.view_is c.requires.can in
    let old = c.at_mut-document.result.now in let made = c.change_unheard.result in let new = c.change_unheard.new.document in
    let at = c.at_mut-document.ensures.value in
    let same : c.message.inside.text.now ≡ a.task.now.message.now.text = search rules in
    let unheard = λ (h : made ≡ true). subst (λ x. IsMadeUnheard x a.change.now old new s.views) same (c.change_unheard.ensures.made h) a.task.now.view no_notes in
    record {
      done = λ h. (let e = unheard h in performed_in c.session.view_is (change_performed kept can old at new s.views [] [] e.document e.lines refl e.told));
      same = λ h. same_session s kept a.task.now.document old new at s.views (c.change_unheard.ensures.same h) refl ∙ c.session.view_is;
    }

pub invariant_of-session : goal.invariant_of-session
invariant_of-session c =
    let a = c.args in let s = c.session.inside.state in let kept = c.session.invariant in let can = can_in c.session.view_is c.requires.can in
    let old = c.at_mut-document.result.now in let made = c.change_unheard.result in let new = c.change_unheard.new.document in
    let at = c.at_mut-document.ensures.value in
    let m = a.task.now.message.now in let same : c.message.inside.text.now ≡ m.text = search rules in
    let unheard = λ (h : made ≡ true). subst (λ x. IsMadeUnheard x a.change.now old new s.views) same (c.change_unheard.ensures.made h) a.task.now.view no_notes in
    by_cases made
    (λ h. (let e = unheard h in kept_performed c.plans_are_fit.ensures.keep_sound kept can (change_performed kept can old at new s.views [] [] e.document e.lines refl e.told).done refl
    (still_named s kept a.task.now.document old new at (ap (λ (d : Document). d.id) e.document ∙ changed_id m.text a.change.now old.document)) kept.views (widths_after kept a.task.now.document new s.views refl e.watched.widths)))
    (λ h. still_kept s kept a.task.now.document old new at s.views (c.change_unheard.ensures.same h) refl)
