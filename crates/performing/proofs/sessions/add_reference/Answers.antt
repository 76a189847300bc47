use Rattle.ed_model.specs.Changes.{held_more}
use Rattle.scene.specs.proved.ViewWidths.{one_place, widths_changed}
use Rattle.performing.proofs.SessionLemmas.{◌≡◌, ◌+◌, refl, ap, sym, ◌∙◌, subst, Document, Session, documents_in, HaveWidths, Kept, session_in, document_of, id_of_document, changed, documents_alone, one_stays}
use Rattle.performing.proofs.sessions.add_reference.Goals as goal

pub returns-clause-changed : goal.returns-clause-changed
returns-clause-changed c =
    let s = c.args.state.now in let kept = c.requires.kept in
    ap (λ ds. let x = session_in s in record x { documents = ds })
    (changed document_of id_of_document s.documents.entries c.args.document s.documents.next kept.documents kept.sound.document_ids c.at_mut-document.result.now c.hold.new.self
    c.at_mut-document.ensures.value (λ d. record d { held_by_callers = d.held_by_callers + 1 }) (ap document_of c.hold.ensures))

pub returns-clause-stays : goal.returns-clause-stays
returns-clause-stays c =
    let s = c.args.state.now in let kept = c.requires.kept in let old = c.at_mut-document.result.now in let made = c.hold.ensures in
    documents_alone kept _
    (one_stays s.documents c.args.document kept.documents kept.sound.document_ids old c.hold.new.self c.at_mut-document.ensures.value
    (made ∙ ap (λ d. record old { document = d }) (sym (ap document_of made))) (ap (λ (k : Kept). k.document.id) made))
    (subst (λ ds. HaveWidths ds s.views) (sym (ap (λ (x : Session). x.documents) (returns-clause-changed c)))
    (widths_changed (held_more c.args.document) (one_place (λ d. record d { held_by_callers = d.held_by_callers + 1 }) (λ d. (refl, refl)) c.args.document) (documents_in s.documents) s.views kept.widths))
