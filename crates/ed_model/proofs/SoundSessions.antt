-- A session stays sound when one document and its views change.
use Rattle.ed_model.proofs.Names.{◌≡◌, ℕ, Bool, true, false, cond, map, refl, ap, sym, ◌∙◌, subst, inl, inr, ◌⊎◌, Some, ◌==◌, if◌then◌else◌, AllByRecursion, cond_both, eqb-true, cases_eq, Session, Document, View, document_at, view_at, with_document, with_view, in_place_of_view, Rise, IsSound, IsSoundDocument, IsSoundView, StandsOn, ListsItsViews, all_map, all_both, found_all, replaced_found, replaced_other, replaced_all, replaced_ids, same_ids, in_place_id, with_view_ids, IsOwner}
use Rattle.ed_model.proofs.SoundListing.{lists_mapped, lists_alike}

-- replacing a document, and changing the views on it with it
pub document_replaced : (s : Session) (d d' : Document) (f : View → View) → IsSound s → document_at s.documents d.id ≡ Some d → d'.id ≡ d.id → d'.views ≡ d.views
    → IsSoundDocument s.limits d' → ((v : View) → (f v).id ≡ v.id) → ((v : View) → (f v).document ≡ v.document)
    → ((v : View) → v.document ≡ d.id → StandsOn d v → StandsOn d' (f v))
    → ((v : View) → (v.document ≡ d.id → ⊥) → f v ≡ v)
    → IsSound (record s { documents = with_document d' s.documents; views = map f s.views })
document_replaced s d d' f sound found same alike made keeps_id keeps_document moves others = record {
  document_ids = subst (λ ids. Rise 0 s.next_document ids) (sym (replaced_ids d' s.documents)) sound.document_ids;
  view_ids = subst (λ ids. Rise 0 s.next_view ids) (sym (same_ids f keeps_id s.views)) sound.view_ids;
  documents = replaced_all (IsSoundDocument s.limits) d' s.documents made sound.documents;
  views = all_map (IsSoundView s.documents) (IsSoundView (with_document d' s.documents)) f (λ v h. go v h (cases_eq v.document d.id)) s.views sound.views;
  lists = replaced_all (ListsItsViews (map f s.views)) d' s.documents
      (lists_alike (map f s.views) d d' same alike (found_all (ListsItsViews (map f s.views)) (λ (e : Document). e.id == d.id) s.documents d lists found)) lists;
}
  where
    lists : AllByRecursion (ListsItsViews (map f s.views)) s.documents
    lists = lists_mapped f keeps_id s.views (λ v e. keeps_document v) s.documents sound.lists

    go : (v : View) → IsSoundView s.documents v → (v.document ≡ d.id) ⊎ (v.document ≡ d.id → ⊥) → IsSoundView (with_document d' s.documents) (f v)
    go v h (inl e) =
        let hf : document_at s.documents v.document ≡ Some h.document = h.found in
        let at : document_at s.documents v.document ≡ Some d = ap (document_at s.documents) e ∙ found in
        let is : h.document ≡ d = cc in
        let on : StandsOn d v = subst (λ x. StandsOn x v) is h.stands in
        let there : document_at s.documents d'.id ≡ Some d = ap (document_at s.documents) same ∙ found in
        record {
          document = d';
          found = ap (document_at (with_document d' s.documents)) (keeps_document v ∙ e ∙ sym same) ∙ replaced_found s.documents d'.id d d' refl there;
          stands = moves v e on;
        }
    go v h (inr ne) = subst (λ w. IsSoundView (with_document d' s.documents) w) (sym (others v ne)) (record {
      document = h.document;
      found = replaced_other s.documents d' v.document (λ e. ne (e ∙ same)) ∙ h.found;
      stands = h.stands;
    })

-- replacing a view
pub view_replaced : (s : Session) (d : Document) (new : View) → IsSound s → document_at s.documents new.document ≡ Some d
    → ((old : View) → view_at s.views new.id ≡ Some old → new.document ≡ old.document) → StandsOn d new
    → IsSound (record s { views = with_view new s.views })
view_replaced s d new sound found keeps stands = record {
  document_ids = sound.document_ids;
  view_ids = subst (λ ids. Rise 0 s.next_view ids) (sym (with_view_ids new s.views)) sound.view_ids;
  documents = sound.documents;
  views = all_map (IsSoundView s.documents) (IsSoundView s.documents) (in_place_of_view new)
      (λ v h. cond_both (v.id == new.id) new v (IsSoundView s.documents) (λ _. record { document = d; found = found; stands = stands }) (λ _. h)) s.views sound.views;
  lists = lists_mapped (in_place_of_view new) (in_place_id new) s.views (λ v e. same_document v e (v.id == new.id) refl) s.documents sound.lists;
}
  where
    same_document : (v : View) → view_at s.views v.id ≡ Some v → (b : Bool) → (v.id == new.id) ≡ b → (cond b new v).document ≡ v.document
    same_document v e true t = keeps v (ap (view_at s.views) (sym (eqb-true v.id new.id t)) ∙ e)
    same_document v e false t = refl

-- changing the views with the sender's id
pub sender_changed : (s : Session) (d : Document) (sender : ℕ) (change : View → View) → IsSound s → document_at s.documents d.id ≡ Some d
    → IsOwner sender d.id s.views → ((v : View) → (change v).id ≡ v.id) → ((v : View) → (change v).document ≡ v.document)
    → ((v : View) → StandsOn d v → StandsOn d (change v))
    → IsSound (record s { views = map (λ (v : View). if v.id == sender then change v else v) s.views })
sender_changed s d sender change sound found owner keeps_id keeps_document stands = record {
  document_ids = sound.document_ids;
  view_ids = subst (λ ids. Rise 0 s.next_view ids) (sym (same_ids (λ (v : View). if v.id == sender then change v else v) ids s.views)) sound.view_ids;
  documents = sound.documents;
  views = all_map (λ (v : View). IsSoundView s.documents v × (v.id ≡ sender → v.document ≡ d.id)) (IsSoundView s.documents)
      (λ (v : View). if v.id == sender then change v else v) (λ v h. go v h.0 h.1 (v.id == sender) refl) s.views
      (all_both (IsSoundView s.documents) (λ (v : View). v.id ≡ sender → v.document ≡ d.id) s.views sound.views owner);
  lists = lists_mapped (λ (v : View). if v.id == sender then change v else v) ids s.views (λ v e. same_document v (v.id == sender)) s.documents sound.lists;
}
  where
    same_document : (v : View) (b : Bool) → (cond b (change v) v).document ≡ v.document
    same_document v true = keeps_document v
    same_document v false = refl

    by_test : (v : View) (b : Bool) → (cond b (change v) v).id ≡ v.id
    by_test v true = keeps_id v
    by_test v false = refl

    ids : (v : View) → (if v.id == sender then change v else v).id ≡ v.id
    ids v = by_test v (v.id == sender)

    go : (v : View) → IsSoundView s.documents v → (v.id ≡ sender → v.document ≡ d.id) → (b : Bool) → (v.id == sender) ≡ b → IsSoundView s.documents (cond b (change v) v)
    go v h o true t =
        let on : v.document ≡ d.id = o (eqb-true v.id sender t) in
        let hf : document_at s.documents v.document ≡ Some h.document = h.found in
        let at : document_at s.documents v.document ≡ Some d = ap (document_at s.documents) on ∙ found in
        let is : h.document ≡ d = cc in
        record {
          document = d;
          found = ap (document_at s.documents) (keeps_document v) ∙ at;
          stands = stands v (subst (λ x. StandsOn x v) is h.stands);
        }
    go v h o false t = h
