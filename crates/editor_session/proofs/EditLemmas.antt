-- Edits of the text.
use Rattle.editor_session.proofs.Names.{◌≡◌, ◌⊎◌, inl, inr, ℕ, ℤ, true, false, List, [], ◌∷◌, ◌++◌, length, refl, ap, sym, ◌∙◌, subst, Option, Some, None, IfSome, not, and_parts, eqb-true, Follow, steps_of, source_bytes, has_steps, converted, after_steps, replacement, Scene, scene_of, session_of, edit_made, followed, response, EditStepsFit, IsFitEdit, IsFitSource, IsFitFollow, IsFitPlan, Request, text, size, Document, Session, View, text_of, Step, insertion, Entries, value_at, Gathered, Kept, KeptView, kept_scene, scene_in, views_of, session_in, SessionState, IsKept, IsStoredIn, IsPastedFor, IsEditWithin, TakesWithin, is_turned, stored_bytes, clipboard_need, taken_along, followed_views, followed_clipboard, MakesEdit, edit_steps, takes_nothing_along, needs_no_memory, StepsFitWidth, request_of, Message, CanPerform, IsPerformed}
use Rattle.ed_model.specs.declared.plan.Source.{Source}
use Rattle.ed_model.specs.declared.plan.Source.TheVariants as source
use Rattle.ed_model.specs.declared.plan.Edit.{Edit}
use Rattle.ed_model.specs.declared.plan.Edit.TheVariants as edit
use Rattle.ed_model.specs.declared.plan.Follow.TheVariants as follow
use Rattle.ed_model.specs.declared.plan.Plan.TheVariants as plan
use Rattle.editor_session.proofs.OneDocument.{with_scene, found_is, of_document, scene_put}
use Rattle.editor_session.proofs.Telling.{telling, edit_told_from}
use Rattle.editor_session.proofs.Widths.{steps_fit_width}

-- The bytes that an edit inserts, and the ranges in it.

same_bytes : (r : Request) (start count : ℕ) (from : Source) (pasted : List ℕ) → IsPastedFor (edit.Replace start count from) r.session.clipboard r.document.line_end pasted
    → stored_bytes from r.message.text r.session.clipboard pasted r.document.line_end ≡ source_bytes r from
same_bytes r start count (source.Clipboard true) pasted h = h
same_bytes r start count _ pasted h = refl

same_edit : (r : Request) (change : Edit) (pasted : List ℕ) → IsPastedFor change r.session.clipboard r.document.line_end pasted → edit_steps change r.message.text r.session.clipboard pasted r.document ≡ steps_of r change
same_edit r (edit.Replace start count from) pasted h = ap (λ xs. replacement start count xs (text r)) (same_bytes r start count from pasted h)
same_edit r (edit.ConvertLineEnds to) pasted h = refl

stored_in : (r : Request) (from : Source) → IsFitSource r from → IsStoredIn from (length r.message.text)
stored_in r (source.MessageText count) h = h
stored_in r _ h = tt

edit_within : (r : Request) (change : Edit) → IsFitEdit r change → IsEditWithin change (size r) (length r.message.text)
edit_within r (edit.Replace start count from) fit = (fit.0, stored_in r from fit.1)
edit_within r (edit.ConvertLineEnds to) fit = tt

takes_within : (r : Request) (after : ℕ) (f : Follow) → IsFitFollow r after f → TakesWithin f (size r)
takes_within r after (follow.Clipboard start count) h = h
takes_within r after _ h = tt

pub edit_takes : (r : Request) (change : Edit) (value : ℤ) (f : Follow) → IsFitPlan r (plan.Edit change value f) → TakesWithin f (size r)
edit_takes r change value f fit = takes_within r (length (after_steps (steps_of r change) (text r))) f fit.1

-- what the edit puts in of the clipboard, if that is not converted
pub pasted_none : (change : Edit) (clipboard pasted : List ℕ) (end : _) → is_turned change ≡ false → IsPastedFor change clipboard end pasted
pasted_none (edit.Replace start count (source.Clipboard true)) clipboard pasted end h = absurd (cc)
pasted_none _ clipboard pasted end h = tt

pub all_promised : {X : Type 0} (o : Option X) (P : X → Type 0) → ((x : X) → P x) → IfSome o P
all_promised None P all = tt
all_promised (Some x) P all = all x

-- An edit that needs no memory: nothing is converted, nothing is taken along, and there are no steps.

inserts_nothing : (gone : List Step) (start : ℕ) (bytes : List ℕ) → not (has_steps (gone ++ insertion start bytes)) ≡ true → bytes ≡ []
inserts_nothing [] start [] h = refl
inserts_nothing [] start (b ∷ bs) h = absurd (cc)
inserts_nothing (g ∷ gs) start bytes h = absurd (cc)

turns_nothing : (r : Request) (change : Edit) → not (has_steps (steps_of r change)) ≡ true → (is_turned change ≡ false) ⊎ (converted r.document.line_end r.session.clipboard ≡ [])
turns_nothing r (edit.Replace start count (source.Clipboard true)) h = inr (inserts_nothing _ start (converted r.document.line_end r.session.clipboard) h)
turns_nothing r _ h = inl refl

no_steps : (ss : List Step) → not (has_steps ss) ≡ true → ss ≡ []
no_steps [] h = refl
no_steps (s ∷ ss) h = absurd (cc)

nothing_along : (f : Follow) → takes_nothing_along f ≡ true → clipboard_need f ≡ 0
nothing_along (follow.Clipboard start count) h = eqb-true count 0 h
nothing_along _ h = refl

module _ (r : Request) (change : Edit) (value : ℤ) (after : Follow) (free : needs_no_memory r (plan.Edit change value after) ≡ true) where
  parts : (not (has_steps (steps_of r change)) ≡ true) × (takes_nothing_along after ≡ true)
  parts = and_parts (not (has_steps (steps_of r change))) (takes_nothing_along after) free

  pub free_steps : steps_of r change ≡ []
  free_steps = no_steps (steps_of r change) parts.0

  pub free_taken : clipboard_need after ≡ 0
  free_taken = nothing_along after parts.1

  pub free_pasted : (P : Type 0) → (is_turned change ≡ false → P) → (converted r.document.line_end r.session.clipboard ≡ [] → P) → P
  free_pasted P unturned empty = elim (turns_nothing r change parts.0) [ inl e ↦ unturned e | inr e ↦ empty e ]

-- what follows: the views, and the clipboard
followed_so : (after : Follow) (view : ℕ) (before taken : List ℕ) (was : Session) (views' : List View) (clipboard' : List ℕ) → views' ≡ followed_views view after was.views → clipboard' ≡ followed_clipboard after taken was.clipboard
    → taken ≡ taken_along after before → record was { views = views'; clipboard = clipboard' } ≡ followed view before after was
followed_so follow.Nothing view before taken was views' clipboard' moved held take = rw (moved, held) refl
followed_so after view before taken was views' clipboard' moved held take = let all = held ∙ ap (λ t. followed_clipboard after t was.clipboard) take in rw (moved, all) refl

module _ {s : SessionState} {document view : ℕ} {m : Message} {bytes : List ℕ} {change : Edit} {value : ℤ} {after : Follow} (kept : IsKept s) (can : CanPerform (session_in s) document view m (plan.Edit change value after)) (held pasted turned : List ℕ)
    (same_text : bytes ≡ m.text) (clipboard : held ≡ s.clipboard.items) (lent : pasted ≡ turned) (turned_for : IfSome (value_at s.documents.entries document) (λ k. IsPastedFor change s.clipboard.items k.document.line_end turned))
    (old : Kept) (at : value_at s.documents.entries document ≡ Some old) where
  turned_here : IsPastedFor change s.clipboard.items (request_of (session_in s) view m).document.line_end pasted
  turned_here =
      subst (λ x. IsPastedFor change s.clipboard.items (request_of (session_in s) view m).document.line_end x) (sym lent)
      (of_document kept can.request (λ (d : Document). IsPastedFor change s.clipboard.items d.line_end turned) turned_for)

  pub steps_are : edit_steps change bytes held pasted old.document ≡ steps_of (request_of (session_in s) view m) change
  steps_are =
      ap (λ x. edit_steps change x held pasted old.document) same_text ∙ ap (λ x. edit_steps change m.text x pasted old.document) clipboard ∙ ap (edit_steps change m.text s.clipboard.items pasted) (found_is kept can.request old at) ∙ same_edit (request_of (session_in s) view m) change pasted turned_here

  pub within_here : IsEditWithin change (length old.document.cells) (length bytes)
  within_here = subst (λ x. IsEditWithin change (length old.document.cells) (length x)) (sym same_text) (subst (λ (d : Document). IsEditWithin change (length d.cells) (length m.text)) (sym (found_is kept can.request old at)) (edit_within (request_of (session_in s) view m) change can.fit.0))

  pub wide_here : EditStepsFit → StepsFitWidth old.document (edit_steps change bytes held pasted old.document)
  wide_here fit =
      let r = request_of (session_in s) view m in
      subst (λ ss. StepsFitWidth old.document ss) (sym steps_are)
      (subst (λ d. StepsFitWidth d (steps_of r change)) (sym (found_is kept can.request old at)) (steps_fit_width r kept.limits can.request.sound (steps_of r change) (fit r change can.fit.0) can.fit.2))

  -- the session after the edit in its document, and after what follows it
  pub edit_performed : (new : Kept) (between views' : Entries KeptView) (notes notes' : Gathered) (s' : SessionState) (taken : List ℕ) → MakesEdit (edit_steps change bytes held pasted old.document) old s.views notes new between notes'
      → new.document.id ≡ old.document.id → between.next ≡ s.views.next
      → session_in s' ≡ (let t = session_in (with_scene s document new between) in record t { views = views_of views'.entries; clipboard = s'.clipboard.items })
      → views_of views'.entries ≡ followed_views view after (views_of between.entries) → s'.clipboard.items ≡ followed_clipboard after taken s.clipboard.items → taken ≡ taken_along after (text_of (request_of (session_in s) view m).document)
      → IsPerformed (session_in s) view m.text (plan.Edit change value after) (session_in s') notes.notes notes'.notes value []
  edit_performed new between views' notes notes' s' taken made same next after_is moved clip take =
      let r = request_of (session_in s) view m in
      let base = edit_made (steps_of r change) (scene_of r.session r.document) in
      let scene : kept_scene new between notes' ≡ telling notes.notes base =
      made ∙ ap (λ ss. edit_made ss (kept_scene old s.views notes)) steps_are ∙ ap (λ d. edit_made (steps_of r change) (scene_in d s.views.entries notes.notes)) (found_is kept can.request old at)
      ∙ edit_told_from notes.notes (steps_of r change) r.document (views_of s.views.entries) in
      let was = session_in (with_scene s document new between) in
      let session : session_in s' ≡ followed r.view.id (text r) after (session_of r.session base) =
      after_is ∙ followed_so after view (text r) taken was (views_of views'.entries) s'.clipboard.items moved clip take
      ∙ ap (followed view (text r) after) (scene_put s kept document old new at between notes' notes.notes base scene same next) ∙ ap (λ id. followed id (text r) after (session_of r.session base)) (sym can.request.view_id) in
      record { told = base.notes; done = ap (λ x. (x, response value [] base.notes)) (sym session); heard = ap (λ (x : Scene). x.notes) scene }
