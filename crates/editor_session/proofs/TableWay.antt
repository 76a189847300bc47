-- The way of a message through the table: to its plan, and from what the plan did to the table's answer.
use Rattle.editor_session.proofs.Names.{IsAnswered, ◌&&◌, inl, inr, ◌≡◌, ◌≢◌, ℕ, true, false, cond, ◌==◌, Bool, List, [], ◌∷◌, ◌++◌, ℤ, refl, ap, sym, ◌∙◌, subst, append-nil, Option, Some, None, Ok, Err, Result, not, IfErr, Message, Kind, Refusal, OutOfMemory, Notice, Response, kind_of, marks_of, Session, View, Document, document_at, view_at, watching, IsSound, IsSoundRequest, PlansFit, Request, Planned, IsFitPlan, IsFitPlanned, response, Plan, table, performed_at, record_note, with_recording, table_from_view, table_from_kind, table_from_document, answered, request, plan_of, id_of_view, own_at, needs_no_fold_room, needs_no_memory, planned_without_memory, is_free, is_free_request, is_free_from_document, is_free_from_kind, is_free_from_view, is_marked_free, is_recorded_by, MarkedMessagesAreFree, document_asked, IsPerformed, request_of, IsFound, IsPlannedAs, recording, first_note, DocumentChange, ViewChange, SessionChange, History, and_parts, not-true, pos, asked, IsSent, CanPerform}
use Rattle.ed_model.specs.Rows.{Flags}
use Rattle.ed_model.specs.declared.plan.Plan.TheVariants as plan
use Rattle.ed_model.specs.FreePlans.{IsFreeDocumentChange, IsFreeViewChange, IsFreeSessionChange, IsFreePlan, IsFreePlanned, MarkedPlansAreFree}
use Rattle.ed_model.specs.declared.plan.DocumentChange.TheVariants as document_change
use Rattle.ed_model.specs.declared.plan.ViewChange.TheVariants as view_change
use Rattle.ed_model.specs.declared.plan.SessionChange.TheVariants as session_change
use Rattle.performing.specs.ChangeNeeds.{needs_room, notes_of_change}
use Rattle.performing.specs.SessionMemory.{takes_memory}
use Rattle.editor_session.specs.Answers.{told}
use Rattle.performing.specs.proved.Asked.{view_asked_at, document_asked_at}
use Rattle.ed_model.specs.PlansFit.{IsFitViewChange, IsFitSessionChange}
use Rattle.performing.specs.Asked.{IsAsked, CanChangeView, CanChangeSession}

-- What is found is what the plan is performed on.

pub request_is : (s : Session) (view : ℕ) (m : Message) (v : View) (d : Document) → view_at s.views view ≡ Some v → document_at s.documents v.document ≡ Some d → request s v d m ≡ request_of s view m
request_is s view m v d found there =
    ap (λ x. request s v x m) (sym (document_asked_at s.documents v.document d there)) ∙ ap (λ (x : View). request s x (document_asked s.documents x.document) m) (sym (view_asked_at s.views view v found))

pub is_found : (s : Session) (id : ℕ) (m : Message) (v : View) (kind : Kind) (d : Document) → IsSound s → view_at s.views id ≡ Some v → kind_of m.number ≡ Some kind →
    document_at s.documents v.document ≡ Some d → IsFound s id m kind
is_found s id m v kind d sound found is there =
    let own : v.id ≡ id = own_at id_of_view s.views id v found in
    let same : request s v d m ≡ request_of s id m = request_is s id m v d found there in
    record {
      sound = subst IsSoundRequest same (record { sound = sound; view = ap (view_at s.views) own ∙ found; document = there });
      decoded = is;
      view_id = ap (λ (v : View). v.id) (view_asked_at s.views id v found) ∙ own;
      answer = ap (table_from_view s m) found ∙ ap (table_from_kind s v m) is ∙ ap (table_from_document s v kind m) there ∙ ap (λ r. answered kind r (plan_of kind r)) same;
    }

-- that a message which is found has this plan
pub has_plan : PlansFit → {s : Session} {view : ℕ} {m : Message} {kind : Kind} {what : Plan} (r : Request) → r ≡ request_of s view m → IsFound s view m kind → plan_of kind r ≡ Ok what → (document : ℕ) → document ≡ r.document.id
    → (is_recorded : Bool) → is_recorded ≡ (r.view.records && (marks_of kind).r) → IsPlannedAs s view m document what is_recorded
has_plan fit {s} {view} {m} {kind} {what} r same found planned document own is_recorded recorded =
    let planned_so : plan_of kind (request_of s view m) ≡ Ok what = subst (λ x. plan_of kind x ≡ Ok what) same planned in
    record {
      kind = kind;
      found = found;
      planned = planned_so;
      recorded = subst (λ (x : Request). is_recorded ≡ (x.view.records && (marks_of kind).r)) same recorded;
      can = record {
        request = record { sound = found.sound; document_id = sym (subst (λ (x : Request). document ≡ x.document.id) same own); view_id = found.view_id };
        fit = subst (IsFitPlanned (request_of s view m)) planned_so (fit kind (request_of s view m) found.sound);
      };
    }

-- a plan was performed that gave a value alone, and perhaps bytes
pub quietly : {s : Session} {view : ℕ} {text : List ℕ} {what : Plan} {new : Session} {value : ℤ} {bytes : List ℕ} (ns : List Notice) → performed_at s view text what ≡ (new, response value bytes [])
    → IsPerformed s view text what new ns ns value bytes
quietly ns done = record { told = []; done = done; heard = sym (append-nil ns) }

-- The answer to a message that is refused by the table, and to one that is not.

pub refused_so : {s : Session} {view : ℕ} {m : Message} {refusal : Refusal} → table s view m ≡ Err refusal → refusal ≢ OutOfMemory → IsAnswered s view m s (Err refusal)
refused_so {s} {view} {m} {refusal} is other = let result : Result Response Refusal = Err refusal in record { answer = (refl, inr is); refused = subst (λ t. IfErr t (λ r. result ≡ Err r)) (sym is) refl; free = λ _. other }

pub replied_so : {s new : Session} {view : ℕ} {m : Message} {reply : Response} → table s view m ≡ Ok (new, reply) → IsAnswered s view m new (Ok reply)
replied_so {s} {new} {view} {m} {reply} is = let result : Result Response Refusal = Ok reply in record { answer = is; refused = subst (λ t. IfErr t (λ r. result ≡ Err r)) (sym is) tt; free = λ _. tt }

-- what is so of the reply that was left is so of the value
pub told_refused : {S : Type 0} (says : Result S Refusal) (result : Result ℤ Refusal) (left : Response) → IfErr says (λ r. told result left ≡ Err r) → IfErr says (λ r. result ≡ Err r)
told_refused (Ok done) result left h = tt
told_refused (Err r) (Ok value) left h = absurd (cc)
told_refused (Err r) (Err refusal) left h = let same : refusal ≡ r = cc in ap Err same

pub told_free : (result : Result ℤ Refusal) (left : Response) (P : Refusal → Type 0) → IfErr (told result left) P → IfErr result P
told_free (Ok value) left P h = tt
told_free (Err refusal) left P h = h

module _ {s : Session} {view : ℕ} {m : Message} {document : ℕ} {what : Plan} {is_recorded : Bool} (t : IsPlannedAs s view m document what is_recorded) where
  planned_answer : table s view m ≡ answered t.kind (request_of s view m) (Ok what)
  planned_answer = t.found.answer ∙ ap (answered t.kind (request_of s view m)) t.planned

  -- the reply, with the note by which it is recorded
  recorded_reply : (reply : Response) → with_recording t.kind (request_of s view m) reply ≡ record reply { notes = first_note is_recorded view m ++ reply.notes }
  recorded_reply reply =
      go ((request_of s view m).view.records && (marks_of t.kind).r) ∙ ap (λ b. record reply { notes = first_note b view m ++ reply.notes }) (sym t.recorded)
    where
      go : (b : Bool) → cond b (record reply { notes = record_note (request_of s view m) ∷ reply.notes }) reply ≡ record reply { notes = first_note b view m ++ reply.notes }
      go true = ap (λ n. record reply { notes = recording n m ∷ reply.notes }) t.found.view_id
      go false = refl

  -- the table's answer: what the plan did, behind the note by which the message is recorded
  pub answered_so : {new : Session} {before after : List Notice} {value : ℤ} {bytes : List ℕ} → before ≡ first_note is_recorded view m → IsPerformed s view m.text what new before after value bytes
      → table s view m ≡ Ok (new, response value bytes after)
  answered_so {new} {before} {after} {value} {bytes} first done =
      planned_answer
      ∙ ap (λ (x : Session × Response). Ok (x.0, with_recording t.kind (request_of s view m) x.1)) done.done
      ∙ ap (λ x. Ok (new, x)) (recorded_reply (response value bytes done.told))
      ∙ ap (λ xs. Ok (new, response value bytes xs)) (sym (done.heard ∙ ap (λ xs. xs ++ done.told) first))

  -- the plan was not performed, for want of memory
  pub unperformed : {new : Session} → new ≡ s → (is_free s view m ≡ true → ⊥) → IsAnswered s view m new (Err OutOfMemory)
  unperformed same needs =
      let result : Result Response Refusal = Err OutOfMemory in
      record { answer = (same, inl refl); refused = subst (λ t. IfErr t (λ r. result ≡ Err r)) (sym planned_answer) tt; free = λ free. absurd (needs free) }

  -- a message that needs no memory: its plan needs none, and it is not recorded
  pub free_plan : is_free s view m ≡ true → (needs_no_memory (request_of s view m) what ≡ true) × (is_recorded ≡ false)
  free_plan free =
      let r = request_of s view m in
      let seen : view_at s.views view ≡ Some r.view = ap (view_at s.views) (sym t.found.view_id) ∙ t.found.sound.view in
      let is : is_free s view m ≡ is_free_request t.kind r =
      ap (is_free_from_view s m) seen ∙ ap (is_free_from_kind s r.view m) t.found.decoded ∙ ap (is_free_from_document s r.view t.kind m) t.found.sound.document in
      let parts = and_parts (planned_without_memory r (plan_of t.kind r)) (not (r.view.records && (marks_of t.kind).r)) (sym is ∙ free) in
      (subst (λ p. planned_without_memory r p ≡ true) t.planned parts.0, t.recorded ∙ not-true (r.view.records && (marks_of t.kind).r) parts.1)

-- Messages that are marked as needing no memory.

free_change : (change : DocumentChange) (h : History) (views : List View) → IsFreeDocumentChange change → (not (needs_room change) && (notes_of_change change h views == 0)) ≡ true
free_change (document_change.SetReadOnly on) h views f = refl
free_change (document_change.SetLineEnd to) h views f = refl
free_change document_change.BeginGroup h views f = refl
free_change document_change.EndGroup h views f = refl
free_change document_change.ForgetHistory h views f = refl
free_change (document_change.CollectUndo on) h views f = refl
free_change (document_change.SetEndStyled place) h views f = refl
free_change _ h views f = absurd f

free_view_change : (flags : List Flags) (change : ViewChange) → IsFreeViewChange change → needs_no_fold_room flags change ≡ true
free_view_change flags (view_change.HideLines first past) f = absurd f
free_view_change flags (view_change.SetExpanded line on) f = absurd f
free_view_change flags (view_change.Contract line) f = absurd f
free_view_change flags (view_change.Expand line) f = absurd f
free_view_change flags (view_change.EnsureVisible line) f = absurd f
free_view_change flags _ f = refl

free_session_change : (change : SessionChange) → IsFreeSessionChange change → not (takes_memory change) ≡ true
free_session_change (session_change.AddReference id) f = refl
free_session_change (session_change.Release id) f = refl
free_session_change _ f = absurd f

free_needs_none : (r : Request) (what : Plan) → IsFreePlan what → needs_no_memory r what ≡ true
free_needs_none r (plan.Answer value) h = refl
free_needs_none r (plan.ChangeDocument change value) h = free_change change r.document.history (watching r.session.views r.document) h
free_needs_none r (plan.ChangeView change value) h = free_view_change r.view.flags change h
free_needs_none r (plan.ChangeSession change value) h = free_session_change change h
free_needs_none r _ h = absurd h

pub marked_are_free : MarkedPlansAreFree → MarkedMessagesAreFree
marked_are_free law s view m marked unrecorded = from_view (view_at s.views view) marked unrecorded
  where
    of_plan : (r : Request) (p : Planned) → IsFreePlanned p → planned_without_memory r p ≡ true
    of_plan r (Ok what) h = free_needs_none r what h
    of_plan r (Err refusal) h = refl

    from_document : (v : View) (kind : Kind) (o : Option Document) → (marks_of kind).n ≡ true → (v.records && (marks_of kind).r) ≡ false → is_free_from_document s v kind m o ≡ true
    from_document v kind None n r = refl
    from_document v kind (Some d) n r = let q = request s v d m in rw (of_plan q (plan_of kind q) (law kind q n), r) refl

    from_kind : (v : View) (kind : Option Kind) → is_marked_free kind ≡ true → is_recorded_by (Some v) kind ≡ false → is_free_from_kind s v m kind ≡ true
    from_kind v None n r = refl
    from_kind v (Some kind) n r = from_document v kind (document_at s.documents v.document) n r

    from_view : (o : Option View) → is_marked_free (kind_of m.number) ≡ true → is_recorded_by o (kind_of m.number) ≡ false → is_free_from_view s m o ≡ true
    from_view None n r = refl
    from_view (Some v) n r = from_kind v (kind_of m.number) n r

-- A plan in other words: with another value, and as a change of the view or of the session.

abbrev pub with_value : ℤ → Session × Response → Session × Response
with_value value done = (done.0, let reply = done.1 in record reply { value = value })

-- it can be performed
pub can_as : {s : Session} {document view : ℕ} {m : Message} {what what' what'' : Plan} → CanPerform s document view m what → what ≡ what' → (IsFitPlan (request_of s view m) what' → IsFitPlan (request_of s view m) what'') → CanPerform s document view m what''
can_as {s} {document} {view} {m} can is fits = record { request = can.request; fit = fits (subst (IsFitPlan (request_of s view m)) is can.fit) }

-- it was performed
pub performed_as : {s : Session} {view : ℕ} {text : List ℕ} {what what' : Plan} {new : Session} {before after : List Notice} {value value' : ℤ} {bytes bytes' : List ℕ} → what ≡ what' → IsPerformed s view text what' new before after value' bytes' → value ≡ value' → bytes ≡ bytes'
    → IsPerformed s view text what new before after value bytes
performed_as {s} {view} {text} {what} {what'} {new} {before} {after} {value} {value'} {bytes} {bytes'} is h same_value same_bytes = record {
  told = h.told;
  done = ap (performed_at s view text) is ∙ h.done ∙ ap (λ v. (new, response v bytes' h.told)) (sym same_value) ∙ ap (λ b. (new, response value b h.told)) (sym same_bytes);
  heard = h.heard;
}

-- The session that a function looks into is the one that it was given: `same` says so.

pub can_in : {s s' : Session} {document view : ℕ} {m : Message} {what : Plan} → s ≡ s' → CanPerform s' document view m what → CanPerform s document view m what
can_in {s} {s'} {document} {view} {m} {what} same can = subst (λ (x : Session). CanPerform x document view m what) (sym same) can

pub performed_in : {s s' : Session} {view : ℕ} {text : List ℕ} {what : Plan} {new : Session} {before after : List Notice} {value : ℤ} {bytes : List ℕ} → s ≡ s'
    → IsPerformed s view text what new before after value bytes → IsPerformed s' view text what new before after value bytes
performed_in {s} {s'} {view} {text} {what} {new} {before} {after} {value} {bytes} same done = subst (λ (x : Session). IsPerformed x view text what new before after value bytes) same done

-- with its own value in place of another
pub revalued : {s : Session} {view : ℕ} {text : List ℕ} {what what' : Plan} {new : Session} {before after : List Notice} {other : ℤ} {bytes : List ℕ} (value : ℤ)
    → IsPerformed s view text what new before after other bytes → performed_at s view text what' ≡ with_value value (performed_at s view text what) → IsPerformed s view text what' new before after value bytes
revalued value h is = record { told = h.told; done = is ∙ ap (with_value value) h.done; heard = h.heard }

-- A change of the view reads nothing of the message, and one of the session no more than its text.

asked_so : {s : Session} {document view : ℕ} {m : Message} (text : List ℕ) → IsSent s document view m → IsAsked s document view text
asked_so text by = let sound = by.sound in record { sound = record { sound = sound.sound; view = sound.view; document = sound.document }; document_id = by.document_id; view_id = by.view_id }

fit_view : (r : Request) (m : Message) (what : ViewChange) → IsFitViewChange r what → IsFitViewChange (record r { message = m }) what
fit_view r m (view_change.SetMask mask) h = h
fit_view r m _ h = h

pub can_change_view : {s : Session} {document view : ℕ} {m : Message} {what : ViewChange} {value : ℤ} → CanPerform s document view m (plan.ChangeView what value) → CanChangeView s document view what
can_change_view {s} {document} {view} {m} {what} can = record { request = asked_so [] can.request; fit = fit_view (request_of s view m) (record m { number = 0; w = pos 0; l = pos 0; text = [] }) what can.fit }

fit_session : (r : Request) (m : Message) (what : SessionChange) → IsFitSessionChange (record r { message = m }) what → IsFitSessionChange (record r { message = record r.message { text = m.text } }) what
fit_session r m session_change.AttachNew h = h
fit_session r m _ h = h

pub can_change_session : {s : Session} {document view : ℕ} {m : Message} {value : ℤ} (what : SessionChange) (text : List ℕ) → text ≡ m.text → CanPerform s document view m (plan.ChangeSession what value) → CanChangeSession s document view text what
can_change_session {s} {document} {view} {m} what text same can =
    subst (λ x. CanChangeSession s document view x what) (sym same) (record { request = asked_so m.text can.request; fit = fit_session (asked s view m.text) m what can.fit })
