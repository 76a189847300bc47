-- The next ids, and the ids of documents and views, after each command.
use Rattle.run_laws.proofs.Names.{◌≡◌, ℕ, ◌+◌, ◌≤◌, ◌<◌, nat_lt, cond, Bool, true, false, List, [], ◌∷◌, ◌++◌, length, map, refl, ap, ◌∙◌, sym, subst, arith, Option, Some, None, Result, Ok, Err, ◌==◌, find, filter, not, nat_le, ◌||◌, option_map, option_or, ne_eqb, Message, Refusal, TooMany, Command, Outcome, Plan, Session, Document, View, document_at, view_at, new_document, new_view, attached_to, Request, text, steps_of, levels, scene_of, session_of, edit_made, followed, view_after, changed_lines, changed_view, with_attached, with_new_document, table, performed_for, request, opened, closed_view, Running, after_command, run_to, outcomes, IsSound, Rise, CommandKeepsSound, PlansFit, document_id, ids_of, same_ids, with_view_ids, view_after_id, changed_lines_id, IfOk, IfOk-at_ok, Response, found_below}
use Rattle.std.proofs.lemmas.List.Folds.{find-append}
use Rattle.run_laws.specs.IdLaws.{DocumentIdsNeverComeBack, ViewIdsNeverComeBack, NextIdsNeverFall, OpenedIdsRise, opened_ids}
use Rattle.ed_model.specs.declared.plan.SessionChange.TheVariants as session_change
use Rattle.ed_model.specs.declared.plan.Plan.TheVariants as plan
use Rattle.run_laws.proofs.Choices.{either}
use Rattle.run_laws.proofs.Walks.{sender_keeps, followed_same, performed_views}
use Rattle.run_laws.proofs.TableWays.{of_any_command, of_each_message, of_answer}
use Rattle.run_laws.proofs.Going.{AllFrom, From, MayGo, command_from}

-- Documents: any change is allowed.

abbrev pub Any : Document → Document → Type 0
Any d e = Unit {0}

pub command_goes_on : PlansFit → (files : List (List ℕ)) (c : Command) (s : Running) → IsSound s.session → AllFrom Any s.session (after_command files c s).0.session
command_goes_on fits files c s sound =
    command_from Any (λ d. tt) (λ d e views held_by_callers h. tt) fits files c s sound (of_each_message (MayGo Any s.session) (λ view m v kind d p sent h fit. tt) c)

none_again : (s t : Session) (id : ℕ) → AllFrom Any s t → id < s.next_document → document_at s.documents id ≡ None → document_at t.documents id ≡ None
none_again s t id on below none = go (document_at t.documents id) refl
  where
    go : (o : Option Document) → document_at t.documents id ≡ o → o ≡ None
    go None e = refl
    go (Some e) found =
        let new : From Any s.next_document None e = subst (λ (o : Option Document). From Any s.next_document o e) none (on id e found) in
        let above : s.next_document ≤ e.id = new.0 in
        let same : e.id ≡ id = document_id t.documents id e found in
        absurd (omega arith)

-- Views: a message keeps their ids.

-- the sender alone is changed
sender_ids : (f : View → View) → ((v : View) → (f v).id ≡ v.id) → (sender : ℕ) (views : List View) → ids_of (map (λ (v : View). cond (v.id == sender) (f v) v) views) ≡ ids_of views
sender_ids f same sender views = same_ids (λ (v : View). cond (v.id == sender) (f v) v) (sender_keeps (λ (w : View). w.id) f same sender) views

performed_ids : (r : Request) (p : Plan) → ids_of (performed_for r p).0.views ≡ ids_of r.session.views
performed_ids r p =
    performed_views r (λ (vs : List View). ids_of vs ≡ ids_of r.session.views)
    (λ step d vs is h. same_ids (view_after step d) (view_after_id step d) vs ∙ h)
    (λ place vs h. sender_ids (λ (v : View). record v { anchor = place; caret = place }) (λ v. refl) r.view.id vs ∙ h)
    (λ start past vs h. sender_ids (λ (v : View). record v { target_start = start; target_end = past }) (λ v. refl) r.view.id vs ∙ h)
    (λ change h. same_ids (changed_lines change r.document) (changed_lines_id change r.document) r.session.views ∙ h)
    p
    (λ what value is h. with_view_ids (changed_view (levels r) what r.view) r.session.views ∙ h)
    (λ what value d is attaches h. with_view_ids (attached_to d r.view) r.session.views ∙ h)
    refl

-- the next ids do not decrease, and the views keep their ids
record Keeps (s t : Session) : Type 0 where
  documents : s.next_document ≤ t.next_document
  views : t.next_view ≡ s.next_view
  ids_stay : ids_of t.views ≡ ids_of s.views

keeps_same : (s : Session) → Keeps s s
keeps_same s = record { documents = omega arith; views = refl; ids_stay = refl }

attached_next : (o : Option Document) (v : View) (s : Session) → ((with_attached o v s).next_document ≡ s.next_document) × ((with_attached o v s).next_view ≡ s.next_view)
attached_next None v s = (refl, refl)
attached_next (Some d) v s = (refl, refl)

performed_next : (r : Request) (p : Plan) → (r.session.next_document ≤ (performed_for r p).0.next_document) × ((performed_for r p).0.next_view ≡ r.session.next_view)
performed_next r (plan.Edit change value after) =
    let s = session_of r.session (edit_made (steps_of r change) (scene_of r.session r.document)) in
    let same : (followed r.view.id (text r) after s).next_document ≡ r.session.next_document = followed_same (λ (x : Session). x.next_document) (λ x views. refl) (λ x clipboard. refl) r.view.id (text r) after s in
    (omega arith, followed_same (λ (x : Session). x.next_view) (λ x views. refl) (λ x clipboard. refl) r.view.id (text r) after s)
performed_next r (plan.ChangeSession (session_change.Attach id) value) =
    let same = attached_next (document_at r.session.documents id) r.view r.session in (omega (arith, same.0), same.1)
performed_next r (plan.ChangeSession session_change.AttachNew value) =
    let s = r.session in
    let with = with_new_document (new_document s.next_document 0) s in
    let same = attached_next (document_at with.documents s.next_document) r.view with in (omega (arith, same.0), same.1)
performed_next r _ = (omega arith, refl)

performed_keeps : (r : Request) (p : Plan) → Keeps r.session (performed_for r p).0
performed_keeps r p = let next = performed_next r p in record { documents = next.0; views = next.1; ids_stay = performed_ids r p }

message_keeps : (s : Session) (view : ℕ) (m : Message) (done : Session × Response) → table s view m ≡ Ok done → Keeps s done.0
message_keeps s view m = of_answer (λ (done : Session × Response). Keeps s done.0) s view m (λ v kind d p sent. performed_keeps (request s v d m) p)

-- Whether a view with an id exists depends only on the ids of the views.

found_among : (views : List View) (id : ℕ) → option_map (λ (v : View). v.id) (view_at views id) ≡ find (λ n. n == id) (ids_of views)
found_among [] id = refl
found_among (v ∷ vs) id = go (v.id == id) (found_among vs id)
  where
    go : (b : Bool) → option_map (λ (v : View). v.id) (view_at vs id) ≡ find (λ n. n == id) (ids_of vs)
        → option_map (λ (v : View). v.id) (cond b (Some v) (view_at vs id)) ≡ cond b (Some v.id) (find (λ n. n == id) (ids_of vs))
    go true h = refl
    go false h = h

none_mapped : (o : Option View) → option_map (λ (v : View). v.id) o ≡ None → o ≡ None
none_mapped None e = refl
none_mapped (Some v) e = absurd (cc)

none_by_ids : (vs ws : List View) (id : ℕ) → ids_of ws ≡ ids_of vs → view_at vs id ≡ None → view_at ws id ≡ None
none_by_ids vs ws id same none =
    none_mapped (view_at ws id) (found_among ws id ∙ ap (find (λ n. n == id)) same ∙ sym (found_among vs id) ∙ ap (option_map (λ (v : View). v.id)) none)

none_filtered : (gone : ℕ) (views : List View) (id : ℕ) → view_at views id ≡ None → view_at (filter (λ (w : View). not (w.id == gone)) views) id ≡ None
none_filtered gone [] id none = refl
none_filtered gone (v ∷ vs) id none = go (v.id == id) refl none (λ n. none_filtered gone vs id n)
  where
    kept : (b : Bool) → (v.id == id) ≡ false → view_at (filter (λ (w : View). not (w.id == gone)) vs) id ≡ None
        → view_at (cond (not b) (v ∷ filter (λ (w : View). not (w.id == gone)) vs) (filter (λ (w : View). not (w.id == gone)) vs)) id ≡ None
    kept true f n = n
    kept false f n = rw f n

    go : (b : Bool) → (v.id == id) ≡ b → cond b (Some v) (view_at vs id) ≡ None → (view_at vs id ≡ None → view_at (filter (λ (w : View). not (w.id == gone)) vs) id ≡ None)
        → view_at (cond (not (v.id == gone)) (v ∷ filter (λ (w : View). not (w.id == gone)) vs) (filter (λ (w : View). not (w.id == gone)) vs)) id ≡ None
    go true t n rest = absurd (cc)
    go false t n rest = kept (v.id == gone) t (rest n)

-- After a command the next ids are not lower, and an id below the next one that no view had is still the id of none.
record Goes (s t : Session) : Type 0 where
  next_document : s.next_document ≤ t.next_document
  next_view : s.next_view ≤ t.next_view
  gone : (id : ℕ) → id < s.next_view → view_at s.views id ≡ None → view_at t.views id ≡ None

kept_goes : (s t : Session) → Keeps s t → Goes s t
kept_goes s t h = record { next_document = h.documents; next_view = omega (arith, h.views); gone = λ id below none. none_by_ids s.views t.views id h.ids_stay none }

-- a view that is opened has the next id
abbrev OpenedGoes : Session → Session × ℕ → Type 0
OpenedGoes s done = (done.1 ≡ s.next_view) × (done.0.next_view ≡ s.next_view + 1) × Goes s done.0

opening_goes : (s : Session) → IfOk (opened s) (OpenedGoes s)
opening_goes s =
    let d = new_document s.next_document 0 in
    let with = with_new_document (record d { views = s.next_view ∷ [] }) s in
    either (λ (x : Result (Session × ℕ) Refusal). IfOk x (OpenedGoes s)) (nat_le s.limits.views (length s.views) || nat_lt s.limits.ids s.next_view || nat_lt s.limits.ids s.next_document) (Err TooMany)
    (Ok (record with { views = s.views ++ new_view s.next_view d ∷ []; next_view = s.next_view + 1 }, s.next_view))
    tt (
      refl,
      refl,
      record {
        next_document = omega arith;
        next_view = omega arith;
        gone = λ id below none.
            find-append (λ (v : View). v.id == id) s.views (new_view s.next_view d ∷ [])
            ∙ ap (λ (o : Option View). option_or o (view_at (new_view s.next_view d ∷ []) id)) none
            ∙ ap (λ b. cond b (Some (new_view s.next_view d)) None) (ne_eqb s.next_view id (λ e. omega arith));
      },
    )

abbrev ClosedGoes : Session → Session → Type 0
ClosedGoes s t = (t.next_view ≡ s.next_view) × Goes s t

closing_goes : (s : Session) (o : Option View) → IfOk (closed_view s o) (ClosedGoes s)
closing_goes s None = tt
closing_goes s (Some v) = (refl, record { next_document = omega arith; next_view = omega arith; gone = λ id below none. none_filtered v.id s.views id none })

command_goes : (files : List (List ℕ)) (c : Command) (s : Running) → Goes s.session (after_command files c s).0.session
command_goes files c s =
    let now = s.session in
    of_any_command (λ (x : Running × Outcome). Goes now x.0.session) files s
    (λ refusal. kept_goes now now (keeps_same now))
    (λ done e. (IfOk-at_ok (OpenedGoes now) e (opening_goes now)).2)
    (λ view t e. (IfOk-at_ok (ClosedGoes now) e (closing_goes now (view_at now.views view))).1)
    (λ value. kept_goes now now (keeps_same now))
    c
    (λ view m done e. kept_goes now done.0 (message_keeps now view m done e))

pub next_document_rises : (files : List (List ℕ)) (c : Command) (s : Running) → s.session.next_document ≤ (after_command files c s).0.session.next_document
next_document_rises files c s = (command_goes files c s).next_document

-- Runs.

pub next_ids_never_fall : NextIdsNeverFall
next_ids_never_fall files [] s = (omega arith, omega arith)
next_ids_never_fall files (c ∷ cs) s =
    let t = (after_command files c s).0 in
    let first = command_goes files c s in
    let rest = next_ids_never_fall files cs t in
    (omega (arith, first.next_document, rest.0), omega (arith, first.next_view, rest.1))

pub document_ids_never_come_back : PlansFit → CommandKeepsSound → DocumentIdsNeverComeBack
document_ids_never_come_back fits keeps files [] s id sound below none = none
document_ids_never_come_back fits keeps files (c ∷ cs) s id sound below none =
    let t = (after_command files c s).0 in
    let first = command_goes files c s in
    document_ids_never_come_back fits keeps files cs t id (keeps files c s sound) (omega (arith, first.next_document))
    (none_again s.session t.session id (command_goes_on fits files c s sound) below none)

-- a document that exists after some commands, and whose id was given before them, existed before them
pub there_before : PlansFit → CommandKeepsSound → (files : List (List ℕ)) (cs : List Command) (s : Running) (id : ℕ) (x : Document) → IsSound s.session → id < s.session.next_document
    → document_at (run_to files cs s).session.documents id ≡ Some x → (d : Document) × (document_at s.session.documents id ≡ Some d)
there_before fits keeps files cs s id x sound below end = go (document_at s.session.documents id) refl
  where
    go : (o : Option Document) → document_at s.session.documents id ≡ o → (d : Document) × (document_at s.session.documents id ≡ Some d)
    go (Some d) there = (d, there)
    go None gone = let none = document_ids_never_come_back fits keeps files cs s id sound below gone in absurd (cc)

-- .. so a document that exists before a command and after further ones exists between
pub still_there : PlansFit → CommandKeepsSound → (files : List (List ℕ)) (c : Command) (cs : List Command) (s : Running) (id : ℕ) (d e : Document) → IsSound s.session
    → document_at s.session.documents id ≡ Some d → document_at (run_to files cs (after_command files c s).0).session.documents id ≡ Some e
    → (x : Document) × (document_at (after_command files c s).0.session.documents id ≡ Some x)
still_there fits keeps files c cs s id d e sound found end =
    let below = found_below 0 s.session.next_document s.session.documents id d sound.document_ids found in
    let rises = next_document_rises files c s in
    there_before fits keeps files cs (after_command files c s).0 id e (keeps files c s sound) (omega arith) end

pub view_ids_never_come_back : ViewIdsNeverComeBack
view_ids_never_come_back files [] s id below none = none
view_ids_never_come_back files (c ∷ cs) s id below none =
    let t = (after_command files c s).0 in
    let first = command_goes files c s in
    view_ids_never_come_back files cs t id (omega (arith, first.next_view)) (first.gone id below none)

-- Opened views.

command_opens : (files : List (List ℕ)) (c : Command) (s : Running) (os : List Outcome) (high : ℕ) → (after_command files c s).0.session.next_view ≤ high
    → Rise (after_command files c s).0.session.next_view high (opened_ids os) → Rise s.session.next_view high (opened_ids ((after_command files c s).1 ∷ os))
command_opens files c s os high =
    let now = s.session in
    of_any_command (λ (x : Running × Outcome). x.0.session.next_view ≤ high → Rise x.0.session.next_view high (opened_ids os) → Rise now.next_view high (opened_ids (x.1 ∷ os))) files s
    (λ refusal le rise. rise)
    (λ done e le rise.
    let k = IfOk-at_ok (OpenedGoes now) e (opening_goes now) in
    let at : done.1 ≡ now.next_view = k.0 in
    let next : done.0.next_view ≡ now.next_view + 1 = k.1 in
    (omega arith, omega arith, subst (λ n. Rise n high (opened_ids os)) (next ∙ ap (λ n. n + 1) (sym at)) rise))
    (λ view t e le rise. subst (λ n. Rise n high (opened_ids os)) (IfOk-at_ok (ClosedGoes now) e (closing_goes now (view_at now.views view))).0 rise)
    (λ value le rise. rise)
    c
    (λ view m done e le rise. subst (λ n. Rise n high (opened_ids os)) (message_keeps now view m done e).views rise)

pub opened_ids_rise : OpenedIdsRise
opened_ids_rise files [] s = tt
opened_ids_rise files (c ∷ cs) s =
    let t = (after_command files c s).0 in
    command_opens files c s (outcomes files cs t) (run_to files cs t).session.next_view (next_ids_never_fall files cs t).1 (opened_ids_rise files cs t)
