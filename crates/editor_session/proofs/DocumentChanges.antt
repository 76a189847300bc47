-- Changes of documents, and the room that a change of a view's lines needs in the view.
use Rattle.editor_session.proofs.Names.{◌≡◌, ℕ, ◌-◌, ◌^◌, ◌≤◌, ◌==◌, ◌++◌, ℤ, List, [], length, map, refl, ap, sym, ◌∙◌, subst, arith, true, false, Some, not, and_parts, eqb-true, not-true, Notice, Limits, DocumentChange, Request, Session, Document, View, is_allowed, watching, with_document, changed_document, changed_lines, change_told, IsFitDocumentChange, response, value_at, Kept, KeptView, Entries, IsFitChange, bytes_read, views_of, watchers, session_in, documents_in, SessionState, IsKept, needs_no_memory, request_of, Message, CanPerform, IsPerformed, ViewChange, needs_no_fold_room, IsSent}
use Rattle.ed_model.specs.declared.plan.DocumentChange.TheVariants as change
use Rattle.ed_model.specs.declared.plan.Plan.TheVariants as plan
use Rattle.ed_model.specs.proved.Changes.{changed_id}
use Rattle.std.proofs.lemmas.Bool.Decides.{nat_tests}
use Rattle.performing.specs.ChangeNeeds.{needs_room, notes_of_change}
use Rattle.editor_session.proofs.OneDocument.{with_one, with_scene, documents_put, found_is, for_view}
use Rattle.ed_model.specs.declared.plan.ViewChange.TheVariants as view_change
use Rattle.ed_view.specs.Folding.{fold_need, HasFoldRoom}
use Rattle.performing.specs.Folding.{takes_fold_room, HasFoldRoomAt}

-- A fit change fits its document.

bounded : (l : Limits) → is_allowed l ≡ true → (l.handles ≤ 2 ^ 31 - 1) × (l.depth ≤ 255)
bounded l h = (grind (arith, nat_tests), grind (arith, nat_tests))

fit_change : (r : Request) (what : DocumentChange) → is_allowed r.session.limits ≡ true → IsFitDocumentChange r what → IsFitChange r.document what
fit_change r change.BeginGroup l h = let b = (bounded r.session.limits l).1 in omega (arith, h, b)
fit_change r (change.AddMarker line number) l h = let b = (bounded r.session.limits l).0 in (h.0, omega (arith, h.1), omega (arith, h.2, b))
fit_change r (change.AddMarkers line mask) l h = let b = (bounded r.session.limits l).0 in (h.0, omega (arith, h.2, b))
fit_change r (change.DeleteMarker line number) l h = h.0
fit_change r (change.DeleteHandle handle) l h = h
fit_change r (change.SetLevel line level) l h = h.0
fit_change r (change.SetState line state) l h = h.0
fit_change r (change.StyleRun count style) l h = h.0
fit_change r (change.StyleBytes count) l h = h.0
fit_change r (change.NeedStyle start past) l h = h.1
fit_change r (change.FillIndicator indicator start count value) l h = h
fit_change r _ l h = tt

read_change : (r : Request) (what : DocumentChange) → IsFitDocumentChange r what → bytes_read what ≤ length r.message.text
read_change r (change.StyleBytes count) h = h.1
read_change r _ h = omega arith

module _ {s : SessionState} {document view : ℕ} {m : Message} {what : DocumentChange} {value : ℤ} (kept : IsKept s) (can : CanPerform (session_in s) document view m (plan.ChangeDocument what value)) where
  pub text_read : (text : List ℕ) → text ≡ m.text → bytes_read what ≤ length text
  text_read text same = subst (λ x. bytes_read what ≤ length x) (sym same) (read_change (request_of (session_in s) view m) what can.fit)

  module _ (old : Kept) (at : value_at s.documents.entries document ≡ Some old) where
    pub fits_here : IsFitChange old.document what
    fits_here = subst (λ d. IsFitChange d what) (sym (found_is kept can.request old at)) (fit_change (request_of (session_in s) view m) what kept.limits can.fit)

    -- if the plan needs no memory, the change needs no room, and no view hears of it
    pub change_free : (P : Type 0) → (needs_room what ≡ false → notes_of_change what old.document.history (watchers old.document s.views) ≡ 0 → P) → needs_no_memory (request_of (session_in s) view m) (plan.ChangeDocument what value) ≡ true → P
    change_free P here free =
        let d : Document = (request_of (session_in s) view m).document in
        let parts = and_parts (not (needs_room what)) (notes_of_change what d.history (watching (views_of s.views.entries) d) == 0) free in
        here (not-true (needs_room what) parts.0)
        (subst (λ (x : Document). notes_of_change what x.history (watchers x s.views) ≡ 0) (sym (found_is kept can.request old at))
        (eqb-true (notes_of_change what d.history (watching (views_of s.views.entries) d)) 0 parts.1))

    -- the session, with the changed document under the id and these views, and the notes are those after the plan
    pub change_performed : (new : Kept) (views' : Entries KeptView) (ns ns' : List Notice) → new.document ≡ changed_document m.text what old.document → views_of views'.entries ≡ map (changed_lines what old.document) (views_of s.views.entries)
        → views'.next ≡ s.views.next → ((v : View) → v.id ≡ view → ns' ≡ ns ++ change_told v (watchers old.document s.views) old.document new.document what)
        → IsPerformed (session_in s) view m.text (plan.ChangeDocument what value) (session_in (with_scene s document new views')) ns ns' value []
    change_performed new views' ns ns' is lines next told =
        let r = request_of (session_in s) view m in
        let same : old.document ≡ r.document = found_is kept can.request old at in
        let after : Document → Session = λ d. (let t = session_in s in record t { documents = with_document (changed_document m.text what d) t.documents; views = map (changed_lines what d) t.views }) in
        let tells : Document → List Notice = λ d. change_told r.view (watchers d s.views) d (changed_document m.text what d) what in
        let documents : documents_in (with_one s.documents document new) ≡ with_document (changed_document m.text what old.document) (documents_in s.documents) =
        documents_put s kept document old new at (changed_document m.text what old.document) is (changed_id m.text what old.document) in
        let session : session_in (with_scene s document new views') ≡ after old.document = rw (documents, lines, next) refl in
        record {
          told = tells r.document;
          done = ap (λ x. (x, response value [] (tells r.document))) (sym (session ∙ ap after same));
          heard = told r.view can.request.view_id ∙ ap (λ x. ns ++ change_told r.view (watchers old.document s.views) old.document x what) is ∙ ap (λ d. ns ++ tells d) same;
        }

no_fold_room : (what : ViewChange) (v : KeptView) → takes_fold_room what ≡ false → HasFoldRoom v.capacity (fold_need v.view.flags what)
no_fold_room (view_change.HideLines first past) v h = absurd (cc)
no_fold_room (view_change.SetExpanded line false) v h = absurd (cc)
no_fold_room (view_change.Contract line) v h = absurd (cc)
no_fold_room (view_change.Expand line) v h = absurd (cc)
no_fold_room (view_change.EnsureVisible line) v h = absurd (cc)
no_fold_room _ v h = (omega arith, omega arith)

has_fold_room : (v : KeptView) (what : ViewChange) → needs_no_fold_room v.view.flags what ≡ true → HasFoldRoom v.capacity (fold_need v.view.flags what)
has_fold_room v (view_change.EnsureVisible line) h = rw h (omega arith, omega arith)
has_fold_room v other h = no_fold_room other v (not-true (takes_fold_room other) h)

module _ {s : SessionState} {document view : ℕ} {m : Message} (kept : IsKept s) (by : IsSent (session_in s) document view m) (what : ViewChange) where
  pub fold_room : needs_no_fold_room (request_of (session_in s) view m).view.flags what ≡ true → HasFoldRoomAt s.views.entries view what
  fold_room free =
      for_view kept by (λ v. HasFoldRoom v.capacity (fold_need v.view.flags what))
      (λ v is. has_fold_room v what (subst (λ (x : View). needs_no_fold_room x.flags what ≡ true) (sym is) free))
