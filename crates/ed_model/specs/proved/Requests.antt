-- In a sound request, the document is sound and found by its id, and the view stands on it.
use Rattle.std.proofs.Common.{◌≡◌, ap, ◌∙◌, subst, Some}
use Rattle.std.specs.Prelude.{◌==◌}
use Rattle.ed_model.specs.Requests.{Request}
use Rattle.ed_model.specs.Session.{View, document_at}
use Rattle.ed_model.specs.SoundLaws.{IsSoundDocument, IsSoundView, StandsOn}
use Rattle.ed_model.specs.PlansFit.{IsSoundRequest}
use Rattle.ed_model.specs.proved.Elements.{found_all}
use Rattle.ed_model.specs.proved.Finding.{document_id, document_sound}

pub request_document : (r : Request) → IsSoundRequest r → IsSoundDocument r.session.limits r.document
request_document r h = document_sound r.session.limits r.session.documents r.view.document r.document h.sound.documents h.document

pub request_stands : (r : Request) → IsSoundRequest r → StandsOn r.document r.view
request_stands r h =
    let v = found_all (IsSoundView r.session.documents) (λ (v : View). v.id == r.view.id) r.session.views r.view h.sound.views h.view in
    let f : document_at r.session.documents r.view.document ≡ Some v.document = v.found in
    let g : document_at r.session.documents r.view.document ≡ Some r.document = h.document in
    let same : v.document ≡ r.document = cc in
    subst (λ d. StandsOn d r.view) same v.stands

pub own_document : (r : Request) → IsSoundRequest r → document_at r.session.documents r.document.id ≡ Some r.document
own_document r h = ap (document_at r.session.documents) (document_id r.session.documents r.view.document r.document h.document) ∙ h.document
