-- A message that is not about documents leaves the other views, other documents and the clipboard unchanged.
use Rattle.run_laws.proofs.Names.{◌≡◌, ℕ, ◌==◌, cond, Bool, true, false, List, map, refl, ap, ◌∙◌, sym, subst, ℤ, eqb-true, and_parts, Follow, DocumentChange, SessionChange, Plan, Step, Session, Document, View, document_at, with_view, text_of, regrouped, flags_together, Request, text, steps_of, levels, scene_of, session_of, moved_view, view_after, edit_made, followed, changed_lines, changed_view, session_changed, performed_for, replaced_other, IsOwner, changed_view_id, changed_view_document}
use Rattle.ed_model.specs.declared.plan.Follow.TheVariants as follow
use Rattle.ed_model.specs.declared.plan.DocumentChange.TheVariants as document_change
use Rattle.ed_model.specs.declared.plan.SessionChange.TheVariants as session_change
use Rattle.ed_model.specs.declared.plan.Plan.TheVariants as plan
use Rattle.run_laws.proofs.Walks.{attaches, followed_same, performed_views}
use Rattle.run_laws.proofs.Going.{own_after, own_id}
use Rattle.run_laws.proofs.PlanShapes.{Leave, may_follow, KeepsTo}
use Rattle.run_laws.proofs.Alike.{IsAlike, AreAlike, alike_same, all_alike, alike_through, alike_changed, kept_on}

-- a plan that is not about documents attaches no view
attaches_none : (l : Leave) (what : SessionChange) (value : ℤ) → l.documents ≡ false → KeepsTo l (plan.ChangeSession what value) → attaches what ≡ true → ⊥
attaches_none l (session_change.Attach id) value barred keeps e = cc
attaches_none l _ value barred keeps e = cc

-- `Own` does not hold for the sender's document.
module _ (Own : ℕ → Type 0) (sender document : ℕ) (apart : Own document → ⊥) where
  abbrev IsOnce : View → Type 0
  IsOnce v = v.id ≡ sender → v.document ≡ document

  -- views of which one changes only if it is alike afterwards
  changed_leave : (test : View → Bool) (f : View → View) → ((v : View) → IsOnce v → test v ≡ true → IsAlike Own v (f v)) → (views : List View) → IsOwner sender document views
      → AreAlike Own views (map (λ (v : View). cond (test v) (f v) v) views)
  changed_leave test f h views once = alike_changed IsOnce (λ (v : View). cond (test v) (f v) v) (λ v p. go v (test v) refl p) views once
    where
      go : (v : View) (b : Bool) → test v ≡ b → IsOnce v → IsAlike Own v (cond b (f v) v)
      go v true t p = h v p t
      go v false t p = alike_same v

  -- a view of the sender's document may change anything but its id and document
  own_alike : (v w : View) → v.document ≡ document → w.id ≡ v.id → w.document ≡ v.document → IsAlike Own v w
  own_alike v w at id on = record { id = id; document = on; own = λ o. absurd (apart (subst Own at o)) }

  step_leaves : (step : Step) (d : Document) → d.id ≡ document → (views : List View) → IsOwner sender document views → AreAlike Own views (map (view_after step d) views)
  step_leaves step d e views once =
      changed_leave (λ (v : View). v.document == d.id) (moved_view step d) (λ v p t. own_alike v (moved_view step d v) (eqb-true v.document d.id t ∙ e) refl refl) views once

  -- only the sender changes, and keeps its id and document
  sender_leaves : (f : View → View) → ((v : View) → (f v).id ≡ v.id) → ((v : View) → (f v).document ≡ v.document) → (views : List View) → IsOwner sender document views
      → AreAlike Own views (map (λ (v : View). cond (v.id == sender) (f v) v) views)
  sender_leaves f id on views once = changed_leave (λ (v : View). v.id == sender) f (λ v p t. own_alike v (f v) (p (eqb-true v.id sender t)) (id v) (on v)) views once

  with_view_leaves : (new : View) (views : List View) → new.id ≡ sender → new.document ≡ document → IsOwner sender document views → AreAlike Own views (with_view new views)
  with_view_leaves new views id on once =
      changed_leave (λ (v : View). v.id == new.id) (λ v. new)
      (λ v p t.
      let same = eqb-true v.id new.id t in
      let at = p (same ∙ id) in
      own_alike v new at (sym same) (on ∙ sym at))
      views once

  lines_leave : (change : DocumentChange) (d : Document) → d.id ≡ document → (views : List View) → IsOwner sender document views → AreAlike Own views (map (changed_lines change d) views)
  lines_leave (document_change.SetLineEndTypes to) d e views once =
      changed_leave (λ (v : View). v.document == d.id) (λ (v : View). record v { flags = regrouped flags_together d.line_end_types to (text_of d) v.flags })
      (λ v p t. own_alike v (record v { flags = regrouped flags_together d.line_end_types to (text_of d) v.flags }) (eqb-true v.document d.id t ∙ e) refl refl) views once
  lines_leave change d e views once = alike_changed IsOnce (changed_lines change d) (λ v p. alike_same v) views once

-- the views after a plan that is not about documents
pub performed_leaves_views : (Own : ℕ → Type 0) (r : Request) (p : Plan) (l : Leave) → (Own r.view.document → ⊥) → l.documents ≡ false → KeepsTo l p → r.document.id ≡ r.view.document
    → IsOwner r.view.id r.view.document r.session.views → AreAlike Own r.session.views (performed_for r p).0.views
performed_leaves_views Own r p l apart barred keeps e once =
    performed_views r (AreAlike Own r.session.views)
    (λ step d vs is h. further vs _ h (step_leaves Own r.view.id r.view.document apart step d (is ∙ e) vs))
    (λ place vs h.
    further vs _ h (sender_leaves Own r.view.id r.view.document apart (λ (v : View). record v { anchor = place; caret = place }) (λ v. refl) (λ v. refl) vs))
    (λ start past vs h.
    further vs _ h (sender_leaves Own r.view.id r.view.document apart (λ (v : View). record v { target_start = start; target_end = past }) (λ v. refl) (λ v. refl) vs))
    (λ change h. lines_leave Own r.view.id r.view.document apart change r.document e r.session.views once)
    p
    (λ what value is h.
    with_view_leaves Own r.view.id r.view.document apart (changed_view (levels r) what r.view) r.session.views (changed_view_id (levels r) what r.view)
    (changed_view_document (levels r) what r.view) once)
    (λ what value d is yes h. absurd (attaches_none l what value barred (subst (KeepsTo l) is keeps) yes))
    (all_alike r.session.views)
  where
    further : (vs ws : List View) → AreAlike Own r.session.views vs → (IsOwner r.view.id r.view.document vs → AreAlike Own vs ws) → AreAlike Own r.session.views ws
    further vs ws h k =
        alike_through h (k (kept_on (λ n m. n ≡ r.view.id → m ≡ r.view.document) h once))

-- a change of the session that is not about documents changes the clipboard alone
session_leaves : (r : Request) (what : SessionChange) (value : ℤ) (l : Leave) → l.documents ≡ false → KeepsTo l (plan.ChangeSession what value)
    → session_changed r.session r.view r.document r.message.text what ≡ (let s = r.session in record s { clipboard = (session_changed r.session r.view r.document r.message.text what).clipboard })
session_leaves r (session_change.Copy start count) value l barred keeps = refl
session_leaves r (session_change.CopyText count) value l barred keeps = refl
session_leaves r _ value l barred keeps = absurd (cc)

pub performed_leaves_document : (r : Request) (p : Plan) (l : Leave) (id : ℕ) → l.documents ≡ false → KeepsTo l p → (id ≡ r.document.id → ⊥)
    → document_at (performed_for r p).0.documents id ≡ document_at r.session.documents id
performed_leaves_document r (plan.Edit change value after) l id barred keeps other =
    ap (λ (ds : List Document). document_at ds id)
    (followed_same (λ (s : Session). s.documents) (λ s views. refl) (λ s clipboard. refl) r.view.id (text r) after (session_of r.session (edit_made (steps_of r change) (scene_of r.session r.document))))
    ∙ replaced_other r.session.documents (own_after r (plan.Edit change value after)) id (λ e. other (e ∙ own_id r (plan.Edit change value after)))
performed_leaves_document r plan.Undo l id barred keeps other = replaced_other r.session.documents (own_after r plan.Undo) id (λ e. other (e ∙ own_id r plan.Undo))
performed_leaves_document r plan.Redo l id barred keeps other = replaced_other r.session.documents (own_after r plan.Redo) id (λ e. other (e ∙ own_id r plan.Redo))
performed_leaves_document r (plan.ChangeDocument change value) l id barred keeps other =
    replaced_other r.session.documents (own_after r (plan.ChangeDocument change value)) id (λ e. other (e ∙ own_id r (plan.ChangeDocument change value)))
performed_leaves_document r (plan.ChangeSession what value) l id barred keeps other = ap (λ (s : Session). document_at s.documents id) (session_leaves r what value l barred keeps)
performed_leaves_document r _ l id barred keeps other = refl

-- the clipboard after what follows an edit, if that takes nothing to it
followed_clipboard : (view : ℕ) (before : List ℕ) (after : Follow) (s : Session) (l : Leave) → l.copies ≡ false → may_follow l after ≡ true
    → (followed view before after s).clipboard ≡ s.clipboard
followed_clipboard view before (follow.Clipboard start count) s l barred keeps = absurd (cc)
followed_clipboard view before _ s l barred keeps = refl

pub performed_leaves_clipboard : (r : Request) (p : Plan) (l : Leave) → l.documents ≡ false → l.copies ≡ false → KeepsTo l p → (performed_for r p).0.clipboard ≡ r.session.clipboard
performed_leaves_clipboard r (plan.Edit change value after) l none barred keeps =
    followed_clipboard r.view.id (text r) after (session_of r.session (edit_made (steps_of r change) (scene_of r.session r.document))) l barred (and_parts l.edits (may_follow l after) keeps).1
performed_leaves_clipboard r (plan.ChangeSession what value) l none barred keeps = absurd (go what keeps)
  where
    -- each change of the session needs a leave that is not given
    go : (what : SessionChange) → KeepsTo l (plan.ChangeSession what value) → ⊥
    go (session_change.Copy start count) k = cc
    go _ k = cc
performed_leaves_clipboard r _ l none barred keeps = refl

pub performed_leaves_limits : (r : Request) (p : Plan) (l : Leave) → l.documents ≡ false → KeepsTo l p → (performed_for r p).0.limits ≡ r.session.limits
performed_leaves_limits r (plan.Edit change value after) l none keeps =
    followed_same (λ (s : Session). s.limits) (λ s views. refl) (λ s clipboard. refl) r.view.id (text r) after (session_of r.session (edit_made (steps_of r change) (scene_of r.session r.document)))
performed_leaves_limits r (plan.ChangeSession what value) l none keeps = ap (λ (s : Session). s.limits) (session_leaves r what value l none keeps)
performed_leaves_limits r _ l none keeps = refl
