-- Undo and redo at once.
use Rattle.editor_session.proofs.Names.{◌≡◌, ℕ, List, pos, [], refl, sym, ap, ◌∙◌, subst, reverse, Option, Some, None, history_performed, UndoStepsFit, RedoStepsFit, IsSoundRequest, IsFitPlan, IsRoomFor, Request, text, Session, Document, View, text_of, with_caret_if, AreStepsOf, Step, latest_text_step, Scene, scene_of, session_of, transaction_performed, caret_behind, place_behind_any, response, performed_for, changes_of, history_behind, Direction, value_at, Entries, Kept, KeptView, Gathered, views_of, kept_scene, scene_gone, bits_of, session_in, SessionState, IsKept, ChangesFitWidth, request_of, Message, CanPerform, IsPerformed, going}
use Rattle.ed_model.specs.UndoPlans.{text_steps}
use Rattle.document.specs.declared.undoing.Direction.TheVariants.{Undo, Redo}
use Rattle.editor_session.proofs.OneDocument.{with_scene, found_is, scene_put}
use Rattle.editor_session.proofs.Telling.{telling, transaction_told_from}
use Rattle.editor_session.proofs.Widths.{changes_fit_width}

steps_fit : UndoStepsFit → RedoStepsFit → (direction : Direction) (r : Request) → IsSoundRequest r → AreStepsOf (text r) (text_steps (changes_of direction r.document.history))
steps_fit undo redo Undo r sound = undo r sound
steps_fit undo redo Redo r sound = redo r sound

going_is : (direction : Direction) (r : Request) → performed_for r (going direction) ≡ history_performed r.session r.view r.document (bits_of direction) (changes_of direction r.document.history) (history_behind direction r.document.history)
going_is Undo r = refl
going_is Redo r = refl

room_for : (direction : Direction) (r : Request) → IsFitPlan r (going direction) → IsRoomFor r (text_steps (changes_of direction r.document.history))
room_for Undo r fit = fit.1
room_for Redo r fit = fit.1

-- the caret after undo and redo
pub caret_moved : (view : ℕ) (place : Option ℕ) (latest : Option Step) (views : List View) → place ≡ place_behind_any latest → with_caret_if view place views ≡ caret_behind view latest views
caret_moved view place None views e = rw e refl
caret_moved view place (Some step) views e = rw e refl

module _ {s : SessionState} {document view : ℕ} {m : Message} (direction : Direction) (kept : IsKept s) (can : CanPerform (session_in s) document view m (going direction)) (old : Kept) (at : value_at s.documents.entries document ≡ Some old) where
  pub steps_here : UndoStepsFit → RedoStepsFit → AreStepsOf (text_of old.document) (text_steps (changes_of direction old.document.history))
  steps_here undo redo =
      subst (λ (d : Document). AreStepsOf (text_of d) (text_steps (changes_of direction d.history))) (sym (found_is kept can.request old at)) (steps_fit undo redo direction (request_of (session_in s) view m) can.request.sound)

  pub wide_here : UndoStepsFit → RedoStepsFit → ChangesFitWidth old.document (changes_of direction old.document.history)
  wide_here undo redo =
      let r = request_of (session_in s) view m in
      subst (λ (d : Document). ChangesFitWidth d (changes_of direction d.history)) (sym (found_is kept can.request old at))
      (changes_fit_width r kept.limits can.request.sound (changes_of direction r.document.history) (steps_fit undo redo direction r can.request.sound) (room_for direction r can.fit))

  -- the session after undo or redo in its document, and after the caret is set
  pub gone_performed : (new : Kept) (between views' : Entries KeptView) (notes notes' : Gathered) → kept_scene new between notes' ≡ scene_gone direction s.views notes old → new.document.id ≡ old.document.id
      → views_of views'.entries ≡ caret_behind view (latest_text_step (reverse (changes_of direction old.document.history))) (views_of between.entries) → between.next ≡ s.views.next → views'.next ≡ between.next
      → IsPerformed (session_in s) view m.text (going direction) (session_in (with_scene s document new views')) notes.notes notes'.notes (pos 0) []
  gone_performed new between views' notes notes' gone same caret next next' =
      let r = request_of (session_in s) view m in
      let is : old.document ≡ r.document = found_is kept can.request old at in
      let base = transaction_performed (bits_of direction) (changes_of direction r.document.history) (history_behind direction r.document.history) (scene_of r.session r.document) in
      let scene : kept_scene new between notes' ≡ telling notes.notes base =
      gone
      ∙ ap (λ (d : Document). transaction_performed (bits_of direction) (changes_of direction d.history) (history_behind direction d.history) (record { document = d; views = views_of s.views.entries; notes = notes.notes })) is
      ∙ transaction_told_from notes.notes (bits_of direction) (changes_of direction r.document.history) (history_behind direction r.document.history) r.document (views_of s.views.entries) in
      let after : Session → Document → ℕ → Session = λ t d id. record t { views = caret_behind id (latest_text_step (reverse (changes_of direction d.history))) t.views } in
      let put = scene_put s kept document old new at between notes' notes.notes base scene same next in
      let session : session_in (with_scene s document new views') ≡ after (session_of r.session base) r.document r.view.id =
      let moved : session_in (with_scene s document new views') ≡ after (session_in (with_scene s document new between)) old.document view = rw (caret, next') refl in
      moved ∙ ap (λ t. after t old.document view) put ∙ ap (λ d. after (session_of r.session base) d view) is ∙ ap (after (session_of r.session base) r.document) (sym can.request.view_id) in
      record { told = base.notes; done = going_is direction r ∙ ap (λ x. (x, response (pos 0) [] base.notes)) (sym session); heard = ap (λ (x : Scene). x.notes) scene }
