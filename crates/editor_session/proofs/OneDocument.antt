-- The document that a plan is performed on: it is in the session's table, and it changes there, the views with it; and views that the table has.
use Rattle.editor_session.proofs.Names.{◌≡◌, ℕ, ◌==◌, ◌∙◌, List, [], ◌∷◌, map, refl, ap, sym, subst, Some, None, IfSome, IsSome, IsSomeAnd, if◌then◌else◌, Document, View, Session, Response, Notice, Plan, document_at, view_at, with_document, IsSound, IsSoundView, StandsOn, ListsItsViews, PlansKeepSound, Scene, session_of, performed_at, found_all, Entries, value_at, with_value_at, Kept, KeptView, Gathered, AreNamed, StandsIfOn, IsWatched, kept_scene, session_in, documents_in, SessionState, IsKept, DocumentsAreNamed, views_of, view_in, id_of_view, document_of, id_of_document, unchanged, named_with, own_document, changed, id_of_old, all_weaker, same_document, IsKeptAs, kept_as, IsSent, CanPerform, request_of, Message, true, false, cond, Option, option_map, is_some, Entry, found, width_at, HasWidths, HaveWidths, KeepWidths, widths_put}
use Rattle.editor_session.proofs.Keeping.{kept_with}
use Rattle.editor_session.proofs.Telling.{telling}

-- the documents, with this one under the id
abbrev pub with_one : Entries Kept → ℕ → Kept → Entries Kept
with_one documents id k = record documents { entries = with_value_at id k documents.entries }

-- the session, with this document under the id, and these views
abbrev pub with_scene : SessionState → ℕ → Kept → Entries KeptView → SessionState
with_scene s id k views = record s { documents = with_one s.documents id k; views = views }

-- The views stand well on a document of a sound session.
watched_by : (s : SessionState) (d : Document) → IsKept s → document_at (session_in s).documents d.id ≡ Some d → IsWatched d s.views
watched_by s d kept there = record {
  named = kept.views;
  rise = kept.sound.view_ids;
  listed = found_all (ListsItsViews (session_in s).views) (λ (e : Document). e.id == d.id) (session_in s).documents d kept.sound.lists there;
  stand = all_weaker (IsSoundView (session_in s).documents) (StandsIfOn d)
      (λ v h on. subst (λ x. StandsOn x v) (same_document _ h.document d h.found (ap (document_at (session_in s).documents) on ∙ there)) h.stands) (session_in s).views kept.sound.views;
  widths = found_all (HasWidths (map width_at s.views.entries)) (λ (e : Document). e.id == d.id) (session_in s).documents d kept.widths there;
}

-- What a plan is performed on, in a session that is kept.
module _ {s : SessionState} {document view : ℕ} {m : Message} (kept : IsKept s) (by : IsSent (session_in s) document view m) where
  document_there : document_at (session_in s).documents document ≡ Some (request_of (session_in s) view m).document
  document_there = ap (document_at (session_in s).documents) (sym by.document_id) ∙ own_document (request_of (session_in s) view m) by.sound

  kept_at : IsKeptAs document_of id_of_document (value_at s.documents.entries document) (request_of (session_in s) view m).document
  kept_at = kept_as document_of id_of_document s.documents.entries document (request_of (session_in s) view m).document kept.documents document_there

  -- what holds of its document holds of the one with the id
  pub for_document : (P : Document → Type 0) → P (request_of (session_in s) view m).document → IsSomeAnd (value_at s.documents.entries document) (λ k. P k.document)
  for_document P h = subst (λ o. IsSomeAnd o (λ k. P k.document)) (sym kept_at.there) (subst P (sym kept_at.is) h)

  -- and the other way round
  pub of_document : (P : Document → Type 0) → IfSome (value_at s.documents.entries document) (λ k. P k.document) → P (request_of (session_in s) view m).document
  of_document P h = subst P kept_at.is (subst (λ o. IfSome o (λ k. P k.document)) kept_at.there h)

  pub document_here : IsSome (value_at s.documents.entries document)
  document_here = subst (λ o. IsSome o) (sym kept_at.there) refl

  view_kept : IsKeptAs view_in id_of_view (value_at s.views.entries view) (request_of (session_in s) view m).view
  view_kept =
      let r = request_of (session_in s) view m in
      kept_as view_in id_of_view s.views.entries view r.view kept.views (ap (view_at r.session.views) (sym by.view_id) ∙ by.sound.view)

  -- a fact of the view that is kept
  pub for_view : (P : KeptView → Type 0) → ((v : KeptView) → v.view ≡ (request_of (session_in s) view m).view → P v) → IsSomeAnd (value_at s.views.entries view) P
  for_view P h = subst (λ o. IsSomeAnd o P) (sym view_kept.there) (h view_kept.value view_kept.is)

  module _ (old : Kept) (at : value_at s.documents.entries document ≡ Some old) where
    -- the document that is found under the id is that of the request
    pub found_is : old.document ≡ (request_of (session_in s) view m).document
    found_is =
        let there : value_at s.documents.entries document ≡ Some kept_at.value = kept_at.there in
        let same : old ≡ kept_at.value = cc in
        ap (λ (k : Kept). k.document) same ∙ kept_at.is

    pub watched_here : IsWatched old.document s.views
    watched_here =
        subst (λ d. IsWatched d s.views) (sym found_is) (watched_by s (request_of (session_in s) view m).document kept (ap (document_at (session_in s).documents) by.document_id ∙ document_there))

-- One document of a session changes, and the views with it.
module _ (s : SessionState) (kept : IsKept s) (id : ℕ) (old new : Kept) (at : value_at s.documents.entries id ≡ Some old) where
  pub still_named : new.document.id ≡ old.document.id → DocumentsAreNamed (with_one s.documents id new).entries
  still_named same = named_with document_of id_of_document s.documents.entries id s.documents.next kept.documents kept.sound.document_ids old new at same

  pub documents_put : (d : Document) → new.document ≡ d → d.id ≡ old.document.id → documents_in (with_one s.documents id new) ≡ with_document d (documents_in s.documents)
  documents_put d is same =
      changed document_of id_of_document s.documents.entries id s.documents.next kept.documents kept.sound.document_ids old new at (λ _. d) is
      ∙ ap (λ n. map (λ (e : Document). if e.id == n then d else e) (documents_in s.documents))
      (sym (same ∙ id_of_old document_of id_of_document s.documents.entries id s.documents.next kept.documents kept.sound.document_ids old new at))

  -- The document, the views and the notes become those of a scene, behind the notes before.
  pub scene_put : (between : Entries KeptView) (notes' : Gathered) (ns : List Notice) (scene : Scene) → kept_scene new between notes' ≡ telling ns scene → new.document.id ≡ old.document.id → between.next ≡ s.views.next
      → session_in (with_scene s id new between) ≡ session_of (session_in s) scene
  scene_put between notes' ns scene made same next =
      let is : new.document ≡ scene.document = ap (λ (x : Scene). x.document) made in
      let documents = documents_put scene.document is (ap (λ (d : Document). d.id) (sym is) ∙ same) in
      let views : views_of between.entries ≡ scene.views = ap (λ (x : Scene). x.views) made in
      rw (documents, views, next) refl

  -- Where the model sees no difference between the documents, it sees none between the sessions.
  module _ (views : Entries KeptView) (same : new.document ≡ old.document) (same_views : views ≡ s.views) where
    pub same_session : session_in (with_scene s id new views) ≡ session_in s
    same_session =
        let documents : documents_in (with_one s.documents id new) ≡ documents_in s.documents =
        unchanged document_of id_of_document s.documents.entries id s.documents.next kept.documents kept.sound.document_ids old new at same in
        rw (documents, same_views) refl

    pub still_kept : IsKept (with_scene s id new views)
    still_kept =
        kept_with s (with_scene s id new views) kept (subst IsSound (sym same_session) kept.sound) refl (still_named (ap (λ (d : Document). d.id) same))
        (subst (λ (v : Entries KeptView). AreNamed v.entries) (sym same_views) kept.views)
        (subst (λ (v : Entries KeptView). HaveWidths (documents_in (with_one s.documents id new)) v) (sym same_views)
        (subst (λ ds. HaveWidths ds s.views) (sym (ap (λ (x : Session). x.documents) same_session)) kept.widths))

-- what holds of a session goes on holding when a plan is performed
pub kept_performed : PlansKeepSound → {s s' : SessionState} {document view : ℕ} {m : Message} {what : Plan} {reply : Response} → IsKept s → CanPerform (session_in s) document view m what
    → performed_at (session_in s) view m.text what ≡ (session_in s', reply) → s'.limits ≡ s.limits → DocumentsAreNamed s'.documents.entries → AreNamed s'.views.entries
    → HaveWidths (documents_in s'.documents) s'.views → IsKept s'
kept_performed law {s} {s'} {document} {view} {m} {what} {reply} kept can done limits documents views widths =
    kept_with s s' kept (subst (λ (x : Session × Response). IsSound x.0) done (law (request_of (session_in s) view m) what can.request.sound can.fit)) limits documents views widths

-- One of the documents changed, and the views followed.
module _ {s : SessionState} (kept : IsKept s) (id : ℕ) (new : Kept) (views : Entries KeptView) where
  pub widths_after : KeepWidths s.views views → HasWidths (map width_at views.entries) new.document → HaveWidths (documents_in (with_one s.documents id new)) views
  widths_after same has = widths_put s.documents.entries id new s.views views same has kept.widths

  -- first by the steps, and then by what follows them
  pub widths_followed : (between : Entries KeptView) → KeepWidths s.views between → KeepWidths between views → HasWidths (map width_at between.entries) new.document
      → HaveWidths (documents_in (with_one s.documents id new)) views
  widths_followed between first then_ has = widths_after (then_ ∙ first) (subst (λ widths. HasWidths widths new.document) (sym then_) has)

-- Where the view of an id is not there, no change of it changes any.

none_changes : (g : View → View) (id : ℕ) (views : List View) → view_at views id ≡ None → views ≡ map (λ (v : View). if v.id == id then g v else v) views
none_changes g id [] e = refl
none_changes g id (v ∷ vs) e =
    let each = λ (w : View). if w.id == id then g w else w in
    elim (v.id == id) as (λ b. cond b (Some v) (view_at vs id) ≡ None → v ∷ vs ≡ cond b (g v) v ∷ map each vs) [ true ↦ λ e. absurd (cc) | false ↦ λ e. ap (λ ws. v ∷ ws) (none_changes g id vs e) ] e

pub no_view_changed : (g : View → View) (entries : List (Entry KeptView)) (id : ℕ) → AreNamed entries → value_at entries id ≡ None → views_of entries ≡ map (λ (v : View). if v.id == id then g v else v) (views_of entries)
no_view_changed g entries id named none = none_changes g id (views_of entries) (found view_in id_of_view entries id named ∙ ap (option_map view_in) none)

some_kept : (o : Option KeptView) → is_some o ≡ is_some (option_map view_in o)
some_kept None = refl
some_kept (Some k) = refl

-- a view is open where the table has its id
pub some_seen : (entries : List (Entry KeptView)) (id : ℕ) → AreNamed entries → is_some (value_at entries id) ≡ is_some (view_at (views_of entries) id)
some_seen entries id named = some_kept (value_at entries id) ∙ ap is_some (sym (found view_in id_of_view entries id named))
