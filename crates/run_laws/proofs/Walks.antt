-- What each step keeps, the steps of a message keep: in a scene, in two scenes, and in the views of a session after a plan.
use Rattle.run_laws.proofs.Names.{◌≡◌, ℕ, ◌+◌, ◌==◌, nat_lt, cond, Bool, true, false, List, [], ◌∷◌, length, map, refl, sym, subst, Option, Some, None, ℤ, reverse, slice_range, Follow, DocumentChange, ViewChange, SessionChange, Plan, regrouped, Flags, flags_together, Step, History, Change, TextStep, ContainerStep, undo_changes, redo_changes, undone, redone, latest_text_step, Session, Document, View, document_at, text_of, with_view, attached_to, new_document, Request, text, steps_of, levels, Scene, scene_of, session_of, moved_view, view_after, step_made, steps_made, sealed_scene, edit_made, followed, with_caret, with_target, caret_behind, change_performed, changes_performed, changes_lines, is_last, history_performed, place_behind, changed_lines, changed_view, with_attached, with_new_document, performed_for}
use Rattle.ed_model.specs.declared.plan.Follow.TheVariants as follow
use Rattle.ed_model.specs.declared.plan.DocumentChange.TheVariants as document_change
use Rattle.ed_model.specs.declared.plan.SessionChange.TheVariants as session_change
use Rattle.ed_model.specs.declared.plan.Plan.TheVariants as plan
use Rattle.ed_model.specs.Notes as notes
use Rattle.run_laws.proofs.Choices.{either}

-- Scenes.

-- what each step keeps between two scenes, an edit of both keeps
module _ (R : Scene → Scene → Type 0) (step_related : (later : Bool) (step : Step) (a b : Scene) → R a b → R (step_made later step a) (step_made later step b))
    (sealed_related : (a b : Scene) → R a b → R (sealed_scene a) (sealed_scene b)) where
  steps_related : (later : Bool) (steps : List Step) (a b : Scene) → R a b → R (steps_made later steps a) (steps_made later steps b)
  steps_related later [] a b h = h
  steps_related later (step ∷ steps) a b h = steps_related true steps (step_made later step a) (step_made later step b) (step_related later step a b h)

  pub edit_related : (steps : List Step) (a b : Scene) → R a b → R (edit_made steps a) (edit_made steps b)
  edit_related steps a b h = go (nat_lt 1 (length steps))
    where
      go : (c : Bool) → R (cond c (sealed_scene (steps_made false steps (sealed_scene a))) (steps_made false steps a)) (cond c (sealed_scene (steps_made false steps (sealed_scene b))) (steps_made false steps b))
      go true = sealed_related (steps_made false steps (sealed_scene a)) (steps_made false steps (sealed_scene b)) (steps_related false steps (sealed_scene a) (sealed_scene b) (sealed_related a b h))
      go false = steps_related false steps a b h

-- .. and so in one scene
pub edit_kept : (P : Scene → Type 0) → ((later : Bool) (step : Step) (scene : Scene) → P scene → P (step_made later step scene)) → ((scene : Scene) → P scene → P (sealed_scene scene))
    → (steps : List Step) (scene : Scene) → P scene → P (edit_made steps scene)
edit_kept P made sealed steps scene h = edit_related (λ (a b : Scene). P a) (λ later step a b p. made later step a p) (λ a b p. sealed a p) steps scene scene h

-- what each change of a transaction keeps between two scenes of one document, the transaction keeps
module _ (R : Scene → Scene → Type 0) (document_related : (a b : Scene) → R a b → b.document ≡ a.document)
    (change_related : (who several : ℕ) (last lines_changed : Bool) (c : Change) (a b : Scene) → R a b
    → R (change_performed who several last lines_changed c a) (change_performed who several last lines_changed c b)) where
  pub changes_related : (who several : ℕ) (lines_changed : Bool) (cs : List Change) (a b : Scene) → R a b
      → R (changes_performed who several lines_changed cs a) (changes_performed who several lines_changed cs b)
  changes_related who several lines_changed [] a b h = h
  changes_related who several lines_changed (c ∷ cs) a b h =
      let changed = cond lines_changed true (changes_lines c a.document) in
      subst (λ (d : Document). R (changes_performed who several lines_changed (c ∷ cs) a)
      (changes_performed who several (cond lines_changed true (changes_lines c d)) cs (change_performed who several (is_last cs) (cond lines_changed true (changes_lines c d)) c b)))
      (sym (document_related a b h))
      (changes_related who several changed cs (change_performed who several (is_last cs) changed c a) (change_performed who several (is_last cs) changed c b)
      (change_related who several (is_last cs) changed c a b h))

-- .. and so in one scene
pub changes_kept : (P : Scene → Type 0)
    → ((who several : ℕ) (last lines_changed : Bool) (c : Change) (scene : Scene) → P scene → P (change_performed who several last lines_changed c scene))
    → (who several : ℕ) (lines_changed : Bool) (cs : List Change) (scene : Scene) → P scene → P (changes_performed who several lines_changed cs scene)
changes_kept P kept who several lines_changed [] scene h = h
changes_kept P kept who several lines_changed (c ∷ cs) scene h =
    let changed = cond lines_changed true (changes_lines c scene.document) in
    changes_kept P kept who several changed cs (change_performed who several (is_last cs) changed c scene) (kept who several (is_last cs) changed c scene h)

-- The views of a scene: what each step of the document with this id keeps.
module _ (id : ℕ) (V : List View → Type 0) (stepped : (step : Step) (d : Document) (views : List View) → d.id ≡ id → V views → V (map (view_after step d) views)) where
  abbrev pub Keeps : Scene → Type 0
  Keeps scene = (scene.document.id ≡ id) × V scene.views

  change_views : (who several : ℕ) (last lines_changed : Bool) (c : Change) (scene : Scene) → Keeps scene → Keeps (change_performed who several last lines_changed c scene)
  change_views who several last lines_changed (TextStep step) scene h = (h.0, stepped step scene.document scene.views h.0 h.1)
  change_views who several last lines_changed (ContainerStep token coalesce) scene h = h

  pub changes_views : (who several : ℕ) (lines_changed : Bool) (cs : List Change) (scene : Scene) → Keeps scene → Keeps (changes_performed who several lines_changed cs scene)
  changes_views who several lines_changed cs scene h = changes_kept Keeps change_views who several lines_changed cs scene h

-- One view: a field that a step, the sender's change, or new line end types leave.

pub step_keeps : {X : Type 0} (get : View → X) → ((step : Step) (d : Document) (v : View) → get (moved_view step d v) ≡ get v) → (step : Step) (d : Document) (v : View)
    → get (view_after step d v) ≡ get v
step_keeps get same step d v = either (λ (w : View). get w ≡ get v) (v.document == d.id) (moved_view step d v) v (same step d v) refl

pub sender_keeps : {X : Type 0} (get : View → X) (f : View → View) → ((v : View) → get (f v) ≡ get v) → (sender : ℕ) (v : View) → get (cond (v.id == sender) (f v) v) ≡ get v
sender_keeps get f same sender v = either (λ (w : View). get w ≡ get v) (v.id == sender) (f v) v (same v) refl

pub lines_keep : {X : Type 0} (get : View → X) → ((v : View) (flags : List Flags) → get (record v { flags = flags }) ≡ get v) → (change : DocumentChange) (d : Document) (v : View)
    → get (changed_lines change d v) ≡ get v
lines_keep get same (document_change.SetLineEndTypes to) d v =
    let flags : List Flags = regrouped flags_together d.line_end_types to (text_of d) v.flags in
    either (λ (w : View). get w ≡ get v) (v.document == d.id) (record v { flags = flags }) v (same v flags) refl
lines_keep get same _ d v = refl

-- a field of the session that what follows an edit leaves
pub followed_same : {X : Type 0} (get : Session → X) → ((s : Session) (views : List View) → get (record s { views = views }) ≡ get s)
    → ((s : Session) (clipboard : List ℕ) → get (record s { clipboard = clipboard }) ≡ get s)
    → (view : ℕ) (before : List ℕ) (after : Follow) (s : Session) → get (followed view before after s) ≡ get s
followed_same get views clipboard view before follow.Nothing s = refl
followed_same get views clipboard view before (follow.Caret place) s = views s (with_caret view place s.views)
followed_same get views clipboard view before (follow.Target start past) s = views s (with_target view start past s.views)
followed_same get views clipboard view before (follow.Clipboard start count) s = clipboard s (slice_range before start (start + count))

-- whether the change attaches the sending view to a document
abbrev pub attaches : SessionChange → Bool
attaches (session_change.Attach document) = true
attaches session_change.AttachNew = true
attaches other = false

-- The views of the session after a plan: what each change of them keeps.
module _ (r : Request) (V : List View → Type 0)
    (stepped : (step : Step) (d : Document) (views : List View) → d.id ≡ r.document.id → V views → V (map (view_after step d) views))
    (caret : (place : ℕ) (views : List View) → V views → V (with_caret r.view.id place views))
    (target : (start past : ℕ) (views : List View) → V views → V (with_target r.view.id start past views))
    (lines : (change : DocumentChange) → V r.session.views → V (map (changed_lines change r.document) r.session.views)) where
  followed_views : (after : Follow) (s : Session) → V s.views → V (followed r.view.id (text r) after s).views
  followed_views (follow.Caret place) s h = caret place s.views h
  followed_views (follow.Target start past) s h = target start past s.views h
  followed_views _ s h = h

  behind_views : (o : Option Step) (views : List View) → V views → V (caret_behind r.view.id o views)
  behind_views None views h = h
  behind_views (Some step) views h = caret (place_behind step) views h

  history_views : (who : ℕ) (cs : List Change) (new : History) → V r.session.views → V (history_performed r.session r.view r.document who cs new).0.views
  history_views who cs new h =
      let several = notes.bit_if (nat_lt 1 (length cs)) notes.multi_step in
      behind_views (latest_text_step (reverse cs)) (changes_performed who several false cs (scene_of r.session r.document)).views
      (changes_views r.document.id V stepped who several false cs (scene_of r.session r.document) (refl, h)).1

  attached_views : (o : Option Document) (s : Session) → ((d : Document) → V s.views → V (with_view (attached_to d r.view) s.views)) → V s.views → V (with_attached o r.view s).views
  attached_views None s attach h = h
  attached_views (Some d) s attach h = attach d h

  pub performed_views : (p : Plan)
      → ((what : ViewChange) (value : ℤ) → p ≡ plan.ChangeView what value → V r.session.views → V (with_view (changed_view (levels r) what r.view) r.session.views))
      → ((what : SessionChange) (value : ℤ) (d : Document) → p ≡ plan.ChangeSession what value → attaches what ≡ true → V r.session.views
      → V (with_view (attached_to d r.view) r.session.views))
      → V r.session.views → V (performed_for r p).0.views
  performed_views (plan.Edit change value after) put attach h =
      followed_views after (session_of r.session (edit_made (steps_of r change) (scene_of r.session r.document))) (edit_kept (Keeps r.document.id V stepped) (λ later step x k. (k.0, stepped step x.document x.views k.0 k.1)) (λ x k. k) (steps_of r change) (scene_of r.session r.document) (refl, h)).1
  performed_views plan.Undo put attach h = history_views notes.performed_undo (undo_changes r.document.history) (undone r.document.history) h
  performed_views plan.Redo put attach h = history_views notes.performed_redo (redo_changes r.document.history) (redone r.document.history) h
  performed_views (plan.ChangeDocument change value) put attach h = lines change h
  performed_views (plan.ChangeView what value) put attach h = put what value refl h
  performed_views (plan.ChangeSession (session_change.Attach id) value) put attach h =
      attached_views (document_at r.session.documents id) r.session (λ d. attach (session_change.Attach id) value d refl refl) h
  performed_views (plan.ChangeSession session_change.AttachNew value) put attach h =
      let s = r.session in
      let with = with_new_document (new_document s.next_document 0) s in
      attached_views (document_at with.documents s.next_document) with (λ d. attach session_change.AttachNew value d refl refl) h
  performed_views _ put attach h = h
