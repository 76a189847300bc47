-- How a message changes each document: that of its own view changes by the plan, and the others stay. `Goes` says which changes
-- are allowed; the views attached to a document, and the number of references that callers hold, do not count.
use Rattle.run_laws.proofs.Names.{◌≡◌, ℕ, ◌+◌, ◌≤◌, ◌==◌, nat_lt, cond, Bool, true, false, List, [], ◌∷◌, ◌++◌, length, map, refl, ap, ◌∙◌, sym, subst, arith, Option, Some, None, Result, Ok, Err, option_map, ◌||◌, nat_le, option_or, eqb-true, eq-eqb, Kind, Message, Refusal, TooMany, Command, LoadFile, SendMessage, Outcome, Response, SessionChange, Plan, Change, undo_changes, redo_changes, undone, redone, Session, Document, View, document_at, view_at, with_document, living, left_by, new_document, new_view, Request, text, steps_of, Scene, scene_of, session_of, edit_made, transaction_performed, changes_performed, changed_document, session_changed, with_attached, attached_last, with_new_document, held_more, held_less, table, performed_for, request, opened, closed_view, IsSound, Rise, IsSoundRequest, IsFitPlan, IsFitPlanned, PlansFit, Running, after_command, set_text_message, document_id, view_id, replaced_found, replaced_other, mapped_found, mapped_ids, living_from, documents_added, added_at, edit_made_id, changed_id, IfOk, IfOk-at_ok}
use Rattle.ed_model.specs.declared.plan.SessionChange.TheVariants as session_change
use Rattle.ed_model.specs.declared.plan.Plan.TheVariants as plan
use Rattle.ed_model.specs.Notes as notes
use Rattle.run_laws.proofs.Choices.{either}
use Rattle.run_laws.proofs.Walks.{changes_views, followed_same}
use Rattle.run_laws.proofs.TableWays.{OfMessages, of_command, Sent, of_answer}

-- the request's document after its plan
abbrev pub own_after : Request → Plan → Document
own_after r (plan.Edit change value after) = (edit_made (steps_of r change) (scene_of r.session r.document)).document
own_after r plan.Undo = (transaction_performed notes.performed_undo (undo_changes r.document.history) (undone r.document.history) (scene_of r.session r.document)).document
own_after r plan.Redo = (transaction_performed notes.performed_redo (redo_changes r.document.history) (redone r.document.history) (scene_of r.session r.document)).document
own_after r (plan.ChangeDocument change value) = changed_document r.message.text change r.document
own_after r other = r.document

-- A plan keeps the document's id.

changes_performed_id : (who : ℕ) (cs : List Change) (scene : Scene)
    → (changes_performed who (notes.bit_if (nat_lt 1 (length cs)) notes.multi_step) false cs scene).document.id ≡ scene.document.id
changes_performed_id who cs scene =
    (changes_views scene.document.id (λ views. Unit {0}) (λ step d views e h. tt) who (notes.bit_if (nat_lt 1 (length cs)) notes.multi_step) false cs scene (refl, tt)).0

pub own_id : (r : Request) (p : Plan) → (own_after r p).id ≡ r.document.id
own_id r (plan.Edit change value after) = edit_made_id (steps_of r change) (scene_of r.session r.document)
own_id r plan.Undo = changes_performed_id notes.performed_undo (undo_changes r.document.history) (scene_of r.session r.document)
own_id r plan.Redo = changes_performed_id notes.performed_redo (redo_changes r.document.history) (scene_of r.session r.document)
own_id r (plan.ChangeDocument change value) = changed_id r.message.text change r.document
own_id r _ = refl

-- a new document, with any views and references
abbrev pub IsMadeNew : Document → Type 0
IsMadeNew e = (options : ℕ) × (e ≡ record (new_document e.id options) { views = e.views; held_by_callers = e.held_by_callers })

-- a document is the result of an allowed change, or it is new, with an id from the next one on
abbrev pub From : (Document → Document → Type 0) → ℕ → Option Document → Document → Type 0
From Goes next None e = (next ≤ e.id) × IsMadeNew e
From Goes next (Some d) e = Goes d e

-- all these documents come so from those of the session
abbrev AllIn : (Document → Document → Type 0) → Session → List Document → Type 0
AllIn Goes s es = (id : ℕ) (e : Document) → document_at es id ≡ Some e → From Goes s.next_document (document_at s.documents id) e

abbrev pub AllFrom : (Document → Document → Type 0) → Session → Session → Type 0
AllFrom Goes s t = AllIn Goes s t.documents

-- what is to be shown of a message to a sound session: its plan makes an allowed change of its document
abbrev pub MayGo : (Document → Document → Type 0) → Session → ℕ → Message → Type 0
MayGo Goes s view m =
    (v : View) (kind : Kind) (d : Document) (p : Plan) → Sent s view m v kind d p → IsSoundRequest (request s v d m) → IsFitPlan (request s v d m) p
    → Goes d (own_after (request s v d m) p)

-- a change of the views of a document, and of the references that callers hold
abbrev IsRelisted : Document → Document → Type 0
IsRelisted d e = e ≡ record d { views = e.views; held_by_callers = e.held_by_callers }

module _ (Goes : Document → Document → Type 0) (same : (d : Document) → Goes d d)
    (relisted : (d e : Document) (views : List ℕ) (held_by_callers : ℕ) → Goes d e → Goes d (record e { views = views; held_by_callers = held_by_callers }))
    (s : Session) where
  abbrev All : List Document → Type 0
  All es = AllIn Goes s es

  all_same : All s.documents
  all_same id e f = subst (λ (o : Option Document). From Goes s.next_document o e) (sym f) (same e)

  -- one document replaced by the result of an allowed change
  all_replaced : (old new : Document) → document_at s.documents new.id ≡ Some old → Goes old new → All (with_document new s.documents)
  all_replaced old new found goes id e f = go (id == new.id) refl
    where
      go : (b : Bool) → (id == new.id) ≡ b → From Goes s.next_document (document_at s.documents id) e
      go true t =
          let at = eqb-true id new.id t in
          let was : document_at s.documents id ≡ Some old = ap (document_at s.documents) at ∙ found in
          let there : document_at (with_document new s.documents) id ≡ Some new = replaced_found s.documents id old new (sym at) was in
          let is_new : new ≡ e = cc in
          subst (λ (o : Option Document). From Goes s.next_document o e) (sym was) (subst (λ (x : Document). Goes old x) is_new goes)
      go false t =
          let other : id ≡ new.id → ⊥ = λ at. let yes = eq-eqb id new.id at in absurd (cc) in
          all_same id e (sym (replaced_other s.documents new id other) ∙ f)

  -- documents of which the views and references change
  all_mapped : (f : Document → Document) → ((d : Document) → IsRelisted d (f d)) → (es : List Document) → All es → All (map f es)
  all_mapped f is es h id e found = go (document_at es id) refl (sym (mapped_found (λ (d : Document). d.id) f (λ d. ap (λ (x : Document). x.id) (is d)) es id) ∙ found)
    where
      again : (o : Option Document) (x : Document) → From Goes s.next_document o x → From Goes s.next_document o (f x)
      again None x h =
          subst (λ (y : Document). (s.next_document ≤ y.id) × IsMadeNew y) (sym (is x)) (h.0, (h.1.0, ap (λ (y : Document). record y { views = (f x).views; held_by_callers = (f x).held_by_callers }) h.1.1))
      again (Some d) x h = subst (Goes d) (sym (is x)) (relisted d x (f x).views (f x).held_by_callers h)

      go : (o : Option Document) → document_at es id ≡ o → option_map f o ≡ Some e → From Goes s.next_document (document_at s.documents id) e
      go None there g = absurd (cc)
      go (Some x) there g = let same : f x ≡ e = cc in subst (From Goes s.next_document (document_at s.documents id)) same (again (document_at s.documents id) x (h id x there))

  -- .. and of which those without references go
  all_living : (f : Document → Document) → ((d : Document) → IsRelisted d (f d)) → (es : List Document) (high : ℕ) → Rise 0 high (map (λ (x : Document). x.id) es) → All es → All (living (map f es))
  all_living f is es high rise h id e found =
      all_mapped f is es h id e
      (living_from 0 high (map f es) id e (subst (Rise 0 high) (sym (mapped_ids (λ (d : Document). d.id) f (λ d. ap (λ (x : Document). x.id) (is d)) es)) rise) found)

  -- a new document is added last
  all_pushed : (new : Document) → s.next_document ≤ new.id → IsMadeNew new → All (s.documents ++ new ∷ [])
  all_pushed new le made id e f = go (document_at s.documents id) (sym (added_at s.documents new id) ∙ f)
    where
      alone : (b : Bool) → cond b (Some new) None ≡ Some e → From Goes s.next_document None e
      alone true g = let is : new ≡ e = cc in subst (λ (x : Document). From Goes s.next_document None x) is (le, made)
      alone false g = absurd (cc)

      go : (o : Option Document) → option_or o (document_at (new ∷ []) id) ≡ Some e → From Goes s.next_document o e
      go None g = alone (new.id == id) g
      go (Some x) g = let is : x ≡ e = cc in subst (λ (y : Document). From Goes s.next_document (Some x) y) is (same x)

  -- Changes of views and references.

  attached_from : (t : Session) (o : Option Document) (v : View) (high : ℕ) → Rise 0 high (map (λ (x : Document). x.id) t.documents) → All t.documents → All (with_attached o v t).documents
  attached_from t None v high rise h = h
  attached_from t (Some d) v high rise h =
      all_living (attached_last v.id d.id) (λ x. either (IsRelisted x) (x.id == d.id) _ (left_by v.id x) refl refl) t.documents high rise h

  session_change_from : (v : View) (d : Document) (m : Message) (what : SessionChange) → IsSound s → All (session_changed s v d m.text what).documents
  session_change_from v d m (session_change.Attach id) h = attached_from s (document_at s.documents id) v s.next_document h.document_ids all_same
  session_change_from v d m session_change.AttachNew h =
      let new = new_document s.next_document 0 in
      let with = with_new_document new s in
      attached_from with (document_at with.documents s.next_document) v (s.next_document + 1) (documents_added s.next_document s.documents new refl h.document_ids)
      (all_pushed new (omega arith) (0, refl))
  session_change_from v d m (session_change.Create options) h =
      let new = new_document s.next_document options in all_pushed (record new { held_by_callers = 1 }) (omega arith) (options, refl)
  session_change_from v d m (session_change.AddReference id) h = all_mapped (held_more id) (λ x. either (IsRelisted x) (x.id == id) _ x refl refl) s.documents all_same
  session_change_from v d m (session_change.Release id) h =
      all_living (held_less id) (λ x. either (IsRelisted x) (x.id == id) _ x refl refl) s.documents s.next_document h.document_ids all_same
  session_change_from v d m _ h = all_same

  -- The documents after a plan.

  performed_from : (v : View) (d : Document) (m : Message) (p : Plan) → IsSoundRequest (request s v d m) → Goes d (own_after (request s v d m) p) → All (performed_for (request s v d m) p).0.documents
  performed_from v d m p h goes = go p goes
    where
      r : Request
      r = request s v d m

      replaced : (p : Plan) → Goes d (own_after r p) → All (with_document (own_after r p) s.documents)
      replaced p goes =
          all_replaced d (own_after r p) (ap (document_at s.documents) (own_id r p ∙ document_id s.documents v.document d h.document) ∙ h.document) goes

      go : (p : Plan) → Goes d (own_after r p) → All (performed_for r p).0.documents
      go (plan.ChangeSession change value) goes = session_change_from v d m change h.sound
      go (plan.ChangeDocument change value) goes = replaced (plan.ChangeDocument change value) goes
      go (plan.Edit change value after) goes =
          subst All (sym (followed_same (λ (s : Session). s.documents) (λ s views. refl) (λ s clipboard. refl) v.id (text r) after (session_of s (edit_made (steps_of r change) (scene_of r.session r.document)))))
          (replaced (plan.Edit change value after) goes)
      go plan.Undo goes = replaced plan.Undo goes
      go plan.Redo goes = replaced plan.Redo goes
      go _ goes = all_same

  -- after a message to a sound session all documents are results of allowed changes, if its own is
  pub table_from : PlansFit → (view : ℕ) (m : Message) → IsSound s → MayGo Goes s view m → (done : Session × Response) → table s view m ≡ Ok done → AllFrom Goes s done.0
  table_from fits view m sound goes =
      of_answer (λ (done : Session × Response). AllFrom Goes s done.0) s view m
      (λ v kind d p sent.
      let r = request s v d m in
      let h : IsSoundRequest r = record { sound = sound; view = ap (view_at s.views) (view_id s.views view v sent.sees) ∙ sent.sees; document = sent.finds } in
      performed_from v d m p h (goes v kind d p sent h (subst (IsFitPlanned r) sent.plans (fits kind r h))))

  -- Views that are opened and closed.

  opening_from : IfOk (opened s) (λ (done : Session × ℕ). AllFrom Goes s done.0)
  opening_from =
      let d = new_document s.next_document 0 in
      let with = with_new_document (record d { views = s.next_view ∷ [] }) s in
      either (λ (x : Result (Session × ℕ) Refusal). IfOk x (λ (done : Session × ℕ). AllFrom Goes s done.0))
      (nat_le s.limits.views (length s.views) || nat_lt s.limits.ids s.next_view || nat_lt s.limits.ids s.next_document) (Err TooMany)
      (Ok (record with { views = s.views ++ new_view s.next_view d ∷ []; next_view = s.next_view + 1 }, s.next_view))
      tt (all_pushed (record d { views = s.next_view ∷ [] }) (omega arith) (0, refl))

  closing_from : (o : Option View) → IsSound s → IfOk (closed_view s o) (AllFrom Goes s)
  closing_from None h = tt
  closing_from (Some v) h = all_living (left_by v.id) (λ d. refl) s.documents s.next_document h.document_ids all_same

-- after a command in a sound session all documents are results of allowed changes, if its messages make such changes
pub command_from : (Goes : Document → Document → Type 0) → ((d : Document) → Goes d d)
    → ((d e : Document) (views : List ℕ) (held_by_callers : ℕ) → Goes d e → Goes d (record e { views = views; held_by_callers = held_by_callers }))
    → PlansFit → (files : List (List ℕ)) (c : Command) (s : Running) → IsSound s.session → OfMessages (MayGo Goes s.session) c
    → AllFrom Goes s.session (after_command files c s).0.session
command_from Goes same relisted fits files c s sound may =
    let now = s.session in
    of_command (λ (x : Running × Outcome). AllFrom Goes now x.0.session) files s
    (λ refusal. all_same Goes same relisted now)
    (λ done e. IfOk-at_ok (λ (done : Session × ℕ). AllFrom Goes now done.0) e (opening_from Goes same relisted now))
    (λ view t e. IfOk-at_ok (AllFrom Goes now) e (closing_from Goes same relisted now (view_at now.views view) sound))
    (λ value. all_same Goes same relisted now)
    c (go c may)
  where
    go : (c : Command) → OfMessages (MayGo Goes s.session) c
        → OfMessages (λ view m. (done : Session × Response) → table s.session view m ≡ Ok done → AllFrom Goes s.session done.0) c
    go (SendMessage view m) may = table_from Goes same relisted s.session fits view m sound may
    go (LoadFile view file) may = λ bytes. table_from Goes same relisted s.session fits view (set_text_message bytes) sound (may bytes)
    go _ may = tt
