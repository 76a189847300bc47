-- Whether a view records depends on nothing else, and nothing else depends on it.
use Rattle.run_laws.proofs.Names.{◌≡◌, ℕ, ◌==◌, nat_lt, cond, Bool, true, false, List, [], ◌∷◌, length, map, refl, ap, ◌∙◌, sym, subst, Option, Some, None, Ok, Err, ◌+◌, slice_range, reverse, option_map, eq-eqb, Kind, Message, kind_of, Edit, Follow, DocumentChange, ViewChange, SessionChange, Plan, Step, History, Change, TextStep, ContainerStep, undo_changes, redo_changes, undone, redone, latest_text_step, sealed_outside_groups, Session, Document, View, document_at, view_at, with_document, with_view, Request, Planned, text, steps_of, levels, Scene, scene_of, session_of, document_after, moved_view, view_after, step_made, sealed_scene, edit_made, followed, with_caret, with_target, caret_behind, change_performed, changes_performed, history_performed, place_behind, changed_lines, changed_view, table, answered, plan_of, performed_for, request, table_from_view, table_from_kind, table_from_document, Answered, attached_to, new_document, text_of, regrouped, flags_together, replacement, appended, with_attached, with_new_document, session_changed, after_message, view_id, mapped_found, changed_view_id, not_recording}
use Rattle.ed_model.specs.declared.plan.Edit.TheVariants as edit
use Rattle.ed_model.specs.declared.plan.Source.TheVariants as source
use Rattle.ed_model.specs.declared.plan.Follow.TheVariants as follow
use Rattle.ed_model.specs.declared.plan.DocumentChange.TheVariants as document_change
use Rattle.ed_model.specs.declared.plan.ViewChange.TheVariants as view_change
use Rattle.ed_model.specs.declared.plan.SessionChange.TheVariants as session_change
use Rattle.ed_model.specs.declared.plan.Plan.TheVariants as plan
use Rattle.ed_model.specs.Notes as notes
use Rattle.run_laws.proofs.Walks.{edit_related, changes_related}
use Rattle.run_laws.proofs.PlanShapes.{same_converted, same_plan_recording}

module _ (view : ℕ) where
  abbrev quiet : View → View
  quiet v = not_recording view v

  abbrev pub Like : List View → List View → Type 0
  Like vs ws = map quiet vs ≡ map quiet ws

  -- a change of both lists, which does not depend on whether the view records
  like_both : (f g h : View → View) → ((v : View) → quiet (f v) ≡ h (quiet v)) → ((v : View) → quiet (g v) ≡ h (quiet v)) → (vs ws : List View) → Like vs ws → Like (map f vs) (map g ws)
  like_both f g h left right vs ws e = commuted f left vs ∙ ap (map h) e ∙ sym (commuted g right ws)
    where
      commuted : (f : View → View) → ((v : View) → quiet (f v) ≡ h (quiet v)) → (vs : List View) → map quiet (map f vs) ≡ map h (map quiet vs)
      commuted f same [] = refl
      commuted f same (v ∷ vs) = ap (λ x. x ∷ map quiet (map f vs)) (same v) ∙ ap (λ xs. h (quiet v) ∷ xs) (commuted f same vs)

  -- a choice between a view and its change
  chosen_quiet : (b : Bool) (x y v : View) → quiet x ≡ y → quiet (cond b x v) ≡ cond b y (quiet v)
  chosen_quiet true x y v same = same
  chosen_quiet false x y v same = refl

  step_quiet : (step : Step) (d : Document) (v : View) → quiet (view_after step d v) ≡ view_after step d (quiet v)
  step_quiet step d v = chosen_quiet (v.document == d.id) (moved_view step d v) (moved_view step d (quiet v)) v refl

  sender_like : (f : View → View) → ((v : View) → quiet (f v) ≡ f (quiet v)) → (sender : ℕ) (vs ws : List View) → Like vs ws
      → Like (map (λ (v : View). cond (v.id == sender) (f v) v) vs) (map (λ (v : View). cond (v.id == sender) (f v) v) ws)
  sender_like f same sender vs ws e =
      let g : View → View = λ (v : View). cond (v.id == sender) (f v) v in
      let alike : (v : View) → quiet (g v) ≡ g (quiet v) = λ v. chosen_quiet (v.id == sender) (f v) (f (quiet v)) v (same v) in
      like_both g g g alike alike vs ws e

  caret_like : (sender place : ℕ) (vs ws : List View) → Like vs ws → Like (with_caret sender place vs) (with_caret sender place ws)
  caret_like sender place vs ws e = sender_like (λ (v : View). record v { anchor = place; caret = place }) (λ v. refl) sender vs ws e

  behind_like : (sender : ℕ) (o : Option Step) (vs ws : List View) → Like vs ws → Like (caret_behind sender o vs) (caret_behind sender o ws)
  behind_like sender None vs ws e = e
  behind_like sender (Some step) vs ws e = caret_like sender (place_behind step) vs ws e

  put_like : (new new' : View) (vs ws : List View) → quiet new ≡ quiet new' → new'.id ≡ new.id → Like vs ws → Like (with_view new vs) (with_view new' ws)
  put_like new new' vs ws same id e =
      like_both (λ (v : View). cond (v.id == new.id) new v) (λ (v : View). cond (v.id == new'.id) new' v) (λ (v : View). cond (v.id == new.id) (quiet new) v)
      (λ v. chosen_quiet (v.id == new.id) new (quiet new) v refl)
      (λ v. ap (λ n. quiet (cond (v.id == n) new' v)) id ∙ chosen_quiet (v.id == new.id) new' (quiet new) v (sym same))
      vs ws e

  lines_quiet : (change : DocumentChange) (d : Document) (v : View) → quiet (changed_lines change d v) ≡ changed_lines change d (quiet v)
  lines_quiet (document_change.SetLineEndTypes to) d v =
      let flags = regrouped flags_together d.line_end_types to (text_of d) v.flags in
      chosen_quiet (v.document == d.id) (record v { flags = flags }) (let w = quiet v in record w { flags = flags }) v refl
  lines_quiet _ d v = refl

  -- Two scenes of one document that differ only in which views record, and in the notes.
  record Scenes (a b : Scene) : Type 0 where
    document : b.document ≡ a.document
    views : Like a.views b.views

  step_views : (step : Step) (a b : Scene) → Scenes a b → Like (map (view_after step a.document) a.views) (map (view_after step b.document) b.views)
  step_views step a b h =
      subst (λ (d : Document). Like (map (view_after step a.document) a.views) (map (view_after step d) b.views)) (sym h.document)
      (like_both (view_after step a.document) (view_after step a.document) (view_after step a.document) (step_quiet step a.document) (step_quiet step a.document) a.views b.views h.views)

  step_scenes : (later : Bool) (step : Step) (a b : Scene) → Scenes a b → Scenes (step_made later step a) (step_made later step b)
  step_scenes later step a b h = record {
    document = ap (λ (d : Document). let e = document_after step d in record e { history = appended later (TextStep step) d.history }) h.document;
    views = step_views step a b h;
  }

  sealed_scenes : (a b : Scene) → Scenes a b → Scenes (sealed_scene a) (sealed_scene b)
  sealed_scenes a b h = record { document = ap (λ (d : Document). record d { history = sealed_outside_groups d.history }) h.document; views = h.views }

  change_scenes : (who several : ℕ) (last lines_changed : Bool) (c : Change) (a b : Scene) → Scenes a b
      → Scenes (change_performed who several last lines_changed c a) (change_performed who several last lines_changed c b)
  change_scenes who several last lines_changed (TextStep step) a b h = record { document = ap (document_after step) h.document; views = step_views step a b h }
  change_scenes who several last lines_changed (ContainerStep token coalesce) a b h = record { document = h.document; views = h.views }

  -- Two sessions that differ only in whether the view records.
  pub record Same (s t : Session) : Type 0 where
    pub same : t ≡ record s { views = t.views }
    pub views : Like s.views t.views

  -- the same request in the other session, in which the sender may record or not
  abbrev other : Request → List View → Bool → Request
  other r ws b = let s = r.session in let v = r.view in record r { session = record s { views = ws }; view = record v { records = b } }

  same_steps : (r : Request) (ws : List View) (b : Bool) (change : Edit) → steps_of (other r ws b) change ≡ steps_of r change
  same_steps r ws b (edit.Replace start count (source.Clipboard convert)) =
      ap (λ (bytes : List ℕ). replacement start count bytes (text r)) (same_converted convert r.document (other r ws b).document r.session.clipboard refl)
  same_steps r ws b _ = refl

  scene_sessions : (s : Session) (ws : List View) (a b : Scene) → Scenes a b → Same (session_of s a) (session_of (record s { views = ws }) b)
  scene_sessions s ws a b h = record { same = ap (λ (d : Document). record s { documents = with_document d s.documents; views = b.views }) h.document; views = h.views }

  followed_same : (sender : ℕ) (before : List ℕ) (after : Follow) (s t : Session) → Same s t → Same (followed sender before after s) (followed sender before after t)
  followed_same sender before follow.Nothing s t h = h
  followed_same sender before (follow.Caret place) s t h =
      record { same = ap (λ (x : Session). record x { views = with_caret sender place t.views }) h.same; views = caret_like sender place s.views t.views h.views }
  followed_same sender before (follow.Target start past) s t h = record {
    same = ap (λ (x : Session). record x { views = with_target sender start past t.views }) h.same;
    views = sender_like (λ (v : View). record v { target_start = start; target_end = past }) (λ v. refl) sender s.views t.views h.views;
  }
  followed_same sender before (follow.Clipboard start count) s t h = record { same = ap (λ (x : Session). record x { clipboard = slice_range before start (start + count) }) h.same; views = h.views }

  history_same : (r : Request) (ws : List View) (b : Bool) (who : ℕ) (cs : List Change) (new : History) → Like r.session.views ws → Same (history_performed r.session r.view r.document who cs new).0 (history_performed (other r ws b).session (other r ws b).view (other r ws b).document who cs new).0
  history_same r ws b who cs new e =
      let several = notes.bit_if (nat_lt 1 (length cs)) notes.multi_step in
      let x = changes_performed who several false cs (scene_of r.session r.document) in
      let y = changes_performed who several false cs (scene_of (other r ws b).session (other r ws b).document) in
      let h : Scenes x y = changes_related Scenes (λ a b k. k.document) change_scenes who several false cs (scene_of r.session r.document) (scene_of (other r ws b).session (other r ws b).document) (record { document = refl; views = e }) in
      let step = latest_text_step (reverse cs) in
      let s = r.session in
      record {
        same = ap (λ (d : Document). record s { documents = with_document (record d { history = new }) s.documents; views = caret_behind r.view.id step y.views }) h.document;
        views = behind_like r.view.id step x.views y.views h.views;
      }

  no_flag : (v : View) (b : Bool) → (v.id == view) ≡ true → cond (v.id == view) false v.records ≡ cond (v.id == view) false b
  no_flag v b at = rw at refl

  -- changing a view does the same, whether it records or not
  changed_quiet : (levels : List ℕ) (what : ViewChange) (v : View) (b : Bool) → (v.id == view) ≡ true → quiet (changed_view levels what v) ≡ quiet (changed_view levels what (record v { records = b }))
  changed_quiet levels (view_change.SetRecording on) v b at = refl
  changed_quiet levels what v b at = ap (λ c. let w = changed_view levels what v in record w { records = c }) (no_flag v b at)

  attached_same : (s : Session) (ws : List View) (o : Option Document) (v : View) (b : Bool) → (v.id == view) ≡ true → Like s.views ws → Same (with_attached o v s) (with_attached o (record v { records = b }) (record s { views = ws }))
  attached_same s ws None v b at e = record { same = refl; views = e }
  attached_same s ws (Some d) v b at e = record {
    same = refl;
    views = put_like (attached_to d v) (attached_to d (record v { records = b })) s.views ws (ap (λ c. let w = attached_to d v in record w { records = c }) (no_flag v b at)) refl e;
  }

  session_same : (r : Request) (ws : List View) (b : Bool) (what : SessionChange) → (r.view.id == view) ≡ true → Like r.session.views ws → Same (session_changed r.session r.view r.document r.message.text what) (session_changed (other r ws b).session (other r ws b).view (other r ws b).document (other r ws b).message.text what)
  session_same r ws b (session_change.Attach id) at e = attached_same r.session ws (document_at r.session.documents id) r.view b at e
  session_same r ws b session_change.AttachNew at e =
      let s = r.session in
      let with = with_new_document (new_document s.next_document 0) s in
      attached_same with ws (document_at with.documents s.next_document) r.view b at e
  session_same r ws b _ at e = record { same = refl; views = e }

  performed_same : (r : Request) (ws : List View) (b : Bool) (p : Plan) → (r.view.id == view) ≡ true → Like r.session.views ws → Same (performed_for r p).0 (performed_for (other r ws b) p).0
  performed_same r ws b (plan.Edit change value after) at e =
      subst (λ (steps : List Step). Same (performed_for r (plan.Edit change value after)).0 (followed r.view.id (text r) after (session_of (other r ws b).session (edit_made steps (scene_of (other r ws b).session (other r ws b).document))))) (sym (same_steps r ws b change))
      (let x = edit_made (steps_of r change) (scene_of r.session r.document) in
      let y = edit_made (steps_of r change) (scene_of (other r ws b).session (other r ws b).document) in
      followed_same r.view.id (text r) after (session_of r.session x) (session_of (other r ws b).session y)
      (scene_sessions r.session ws x y (edit_related Scenes step_scenes sealed_scenes (steps_of r change) (scene_of r.session r.document) (scene_of (other r ws b).session (other r ws b).document) (record { document = refl; views = e }))))
  performed_same r ws b plan.Undo at e = history_same r ws b notes.performed_undo (undo_changes r.document.history) (undone r.document.history) e
  performed_same r ws b plan.Redo at e = history_same r ws b notes.performed_redo (redo_changes r.document.history) (redone r.document.history) e
  performed_same r ws b (plan.ChangeDocument change value) at e =
      let f : View → View = changed_lines change r.document in
      record { same = refl; views = like_both f f f (lines_quiet change r.document) (lines_quiet change r.document) r.session.views ws e }
  performed_same r ws b (plan.ChangeView change value) at e =
      let v = r.view in
      record {
        same = refl;
        views = put_like (changed_view (levels r) change r.view) (changed_view (levels r) change (record v { records = b })) r.session.views ws (changed_quiet (levels r) change r.view b at)
            (changed_view_id (levels r) change (record v { records = b }) ∙ sym (changed_view_id (levels r) change r.view)) e;
      }
  performed_same r ws b (plan.ChangeSession change value) at e = session_same r ws b change at e
  performed_same r ws b _ at e = record { same = refl; views = e }

  -- Messages to the view.

  -- the answers of both sessions leave sessions that differ only in that
  abbrev After : Session → Session → Answered → Answered → Type 0
  After s t x y = Same (after_message s x).0.session (after_message t y).0.session

  answered_after : (kind : Kind) (r : Request) (ws : List View) (b : Bool) (p : Planned) → (r.view.id == view) ≡ true → Like r.session.views ws
      → (let s = r.session in After s (record s { views = ws }) (answered kind r p) (answered kind (other r ws b) p))
  answered_after kind r ws b (Err refusal) at e = record { same = refl; views = e }
  answered_after kind r ws b (Ok p) at e = performed_same r ws b p at e

  document_after_both : (s : Session) (ws : List View) (v : View) (b : Bool) (kind : Kind) (m : Message) (o : Option Document) → (v.id == view) ≡ true → Like s.views ws
      → After s (record s { views = ws }) (table_from_document s v kind m o) (table_from_document (record s { views = ws }) (record v { records = b }) kind m o)
  document_after_both s ws v b kind m None at e = record { same = refl; views = e }
  document_after_both s ws v b kind m (Some d) at e =
      let r = request s v d m in
      subst (λ (p : Planned). After s (record s { views = ws }) (answered kind r (plan_of kind r)) (answered kind (other r ws b) p)) (sym (same_plan_recording kind r ws b))
      (answered_after kind r ws b (plan_of kind r) at e)

  kind_after_both : (s : Session) (ws : List View) (v : View) (b : Bool) (m : Message) (o : Option Kind) → (v.id == view) ≡ true → Like s.views ws
      → After s (record s { views = ws }) (table_from_kind s v m o) (table_from_kind (record s { views = ws }) (record v { records = b }) m o)
  kind_after_both s ws v b m None at e = record { same = refl; views = e }
  kind_after_both s ws v b m (Some kind) at e = document_after_both s ws v b kind m (document_at s.documents v.document) at e

  view_after_both : (s : Session) (ws : List View) (m : Message) (o p : Option View) → option_map quiet o ≡ option_map quiet p → ((v : View) → o ≡ Some v → v.id ≡ view) → Like s.views ws
      → After s (record s { views = ws }) (table_from_view s m o) (table_from_view (record s { views = ws }) m p)
  view_after_both s ws m None None found is e = record { same = refl; views = e }
  view_after_both s ws m None (Some w) found is e = absurd (cc)
  view_after_both s ws m (Some v) None found is e = absurd (cc)
  view_after_both s ws m (Some v) (Some w) found is e =
      let alike : quiet v ≡ quiet w = cc in
      let as_v : record v { records = w.records } ≡ w = ap (λ (x : View). record x { records = w.records }) alike in
      subst (λ (x : View). After s (record s { views = ws }) (table_from_kind s v m (kind_of m.number)) (table_from_kind (record s { views = ws }) x m (kind_of m.number))) as_v
      (kind_after_both s ws v w.records m (kind_of m.number) (eq-eqb v.id view (is v refl)) e)

  pub table_after_both : (s t : Session) (m : Message) → Same s t → After s t (table s view m) (table t view m)
  table_after_both s t m h =
      subst (λ (x : Session). After s x (table s view m) (table x view m)) (sym h.same)
      (view_after_both s t.views m (view_at s.views view) (view_at t.views view)
      (sym (mapped_found (λ (v : View). v.id) quiet (λ v. refl) s.views view) ∙ ap (λ (vs : List View). view_at vs view) h.views ∙ mapped_found (λ (v : View). v.id) quiet (λ v. refl) t.views view)
      (λ v sees. view_id s.views view v sees) h.views)
