-- Undo and redo lead back to the text of the save point, whatever changes come between.
use Rattle.run_laws.proofs.Names.{◌≡◌, ℕ, suc, ◌+◌, ◌-◌, ◌≤◌, ◌<◌, nat_lt, cond, Bool, true, false, List, [], ◌∷◌, length, take, replicate, refl, ap, ◌∙◌, sym, subst, arith, inl, inr, Option, Some, None, Ok, ◌⊎◌, ℤ, pos, ◌==◌, ◌&&◌, ◌||◌, not, nat_le, reverse, cases_lt, eqb-true, eqb-false, leb-true, and_parts, Kind, GetModify, SetText, Message, Command, LoadFile, SendMessage, Response, kind_of, marks_of, DocumentChange, Plan, is_number, flag, Step, edited, after_steps, History, Change, Transaction, TextStep, ContainerStep, at_save_point, joins, appended, begins_transaction, reachable, seal_first, sealed_outside_groups, with_container_step, undo_changes, redo_changes, undone, undone_to, redone, redone_from, collecting_set, first_changes, text_steps, Session, Document, View, document_at, view_at, text_of, Request, text, steps_of, Scene, scene_of, document_after, step_made, steps_made, sealed_scene, edit_made, quiet, changed_document, undone_text, redone_text, BegunStepIsOneTransactionMore, JoinedStepKeepsEarlierTexts, BegunContainerStepIsOneTransactionMore, JoinedContainerStepKeepsEarlierTexts, UndoKeepsEarlierTexts, RedoIsOneTransactionMore, SealsKeepEarlierTexts, table, request, with_recording, record_note, IsSound, IsSoundDocument, CommandKeepsSound, IsSoundRequest, IsFitPlan, PlansFit, EditStepsFit, UndoStepsFit, RedoStepsFit, Running, after_command, set_text_message, run_to, found_all, document_id, text_of_styled, is_saving, SetsNoSavePoint, IsCollected, KeepsTheSavePoint, UnmodifiedIsTheSavedText, GetModifyTells}
use Rattle.ed_model.specs.StepLaws.{CellsFollowBytes}
use Rattle.ed_model.specs.HistoryLaws.{SameButForSeals, SealsChangeNoChange, GroupBegunChangesNoChange, GroupEndedChangesNoChange, AppendKeepsAllButThePast, AppendJoins, NothingJoinsNone, AppendCounts, NotCollectingAppendsNothing}
use Rattle.ed_model.specs.InverseLaws.{Fits, FitInTurn, after_undo, after_redo, UndoMakesItsSteps, RedoMakesItsSteps, UndoThenRedoGivesBackTheText}
use Rattle.ed_model.specs.proved.Histories.{same_length, sealed_length}
use Rattle.ed_model.specs.proved.Steps.{fit_in_turn}
use Rattle.ed_model.specs.declared.plan.DocumentChange.TheVariants as document_change
use Rattle.ed_model.specs.declared.plan.Plan.TheVariants as plan
use Rattle.run_laws.proofs.Choices.{either}
use Rattle.run_laws.proofs.TableWays.{table_at, OfMessages}
use Rattle.run_laws.proofs.PlanShapes.{Leave, KeepsTo, leave_of}
use Rattle.run_laws.proofs.Going.{own_after, AllFrom, From, MayGo, command_from}
use Rattle.run_laws.proofs.IdLemmas.{still_there}

-- The laws of the history that these proofs use.
pub record Cited : Type 0 where
  pub begun : BegunStepIsOneTransactionMore
  pub joined : JoinedStepKeepsEarlierTexts
  pub container_begun : BegunContainerStepIsOneTransactionMore
  pub container_joined : JoinedContainerStepKeepsEarlierTexts
  pub undo : UndoKeepsEarlierTexts
  pub redo : RedoIsOneTransactionMore
  pub seals : SealsKeepEarlierTexts
  pub cells : CellsFollowBytes
  pub undo_made : UndoMakesItsSteps
  pub redo_made : RedoMakesItsSteps
  pub undo_then_redo : UndoThenRedoGivesBackTheText
  pub not_collecting : NotCollectingAppendsNothing
  pub appended_keeps : AppendKeepsAllButThePast
  pub append_joins : AppendJoins
  pub joins_none : NothingJoinsNone
  pub append_counts : AppendCounts
  pub sealed : SealsChangeNoChange
  pub group_begun : GroupBegunChangesNoChange
  pub group_ended : GroupEndedChangesNoChange
  pub fits : PlansFit
  pub edit_fits : EditStepsFit
  pub undo_fits : UndoStepsFit
  pub redo_fits : RedoStepsFit

-- undo or redo to the save point leads to this text
abbrev Saved : List ℕ → List ℕ → History → Type 0
Saved saved now h =
    (k : ℕ) → h.save_point ≡ Some k →
    (k ≤ length h.past → undone_text (length h.past - k) h.past now ≡ saved) × (length h.past < k → redone_text (k - length h.past) h.future now ≡ saved)

abbrev SavedIn : List ℕ → Document → Type 0
SavedIn saved d = Saved saved (text_of d) d.history

none_less : (n : ℕ) → n - n ≡ 0
none_less n = omega arith

save_point_is : (n : ℕ) (o : Option ℕ) → is_number n o ≡ true → o ≡ Some n
save_point_is n None e = absurd (cc)
save_point_is n (Some k) e = ap Some (eqb-true k n e)

not_save_point : (n k : ℕ) (o : Option ℕ) → is_number n o ≡ false → o ≡ Some k → k ≡ n → ⊥
not_save_point n k None e f same = absurd (cc)
not_save_point n k (Some j) e f same = let is : j ≡ k = cc in eqb-false j n e (is ∙ same)

-- at the save point the text is the saved one
saved_now : (saved now : List ℕ) (h : History) → at_save_point h ≡ true → Saved saved now h → now ≡ saved
saved_now saved now h at s =
    let n = length h.past in
    ap (λ (j : ℕ). undone_text j h.past now) (sym (none_less n)) ∙ (s n (save_point_is n h.save_point at)).0 (omega arith)

saved_first : (now : List ℕ) (h : History) → at_save_point h ≡ true → Saved now now h
saved_first now h at k e =
    let is : h.save_point ≡ Some (length h.past) = save_point_is (length h.past) h.save_point at in
    let same : k ≡ length h.past = cc in
    let zero_left : length h.past - k ≡ 0 = omega arith in
    ((λ le. ap (λ (j : ℕ). undone_text j h.past now) zero_left), (λ lt. absurd (omega arith)))

-- Seals.

module _ (c : Cited) (saved : List ℕ) where
  seals_saved : (h g : History) (now : List ℕ) → SameButForSeals h g → Saved saved now h → Saved saved now g
  seals_saved h g now same s k e =
      let n = same_length h g same in
      let was = s k (sym same.save_point ∙ e) in (
        (λ le. c.seals (length g.past - k) h g now same ∙ ap (λ (m : ℕ). undone_text (m - k) h.past now) n ∙ was.0 (omega arith)),
        (λ lt. ap (λ (m : ℕ). redone_text (k - m) g.future now) n ∙ ap (λ (ts : List Transaction). redone_text (k - length h.past) ts now) same.future ∙ was.1 (omega arith)),
      )

  -- Changes appended.

  still_reachable : (n k : ℕ) (o : Option ℕ) → reachable n o ≡ Some k → (o ≡ Some k) × (k ≤ n)
  still_reachable n k None e = absurd (cc)
  still_reachable n k (Some j) e = go (nat_le j n) refl e
    where
      go : (b : Bool) → nat_le j n ≡ b → cond b (Some j) None ≡ Some k → (Some j ≡ Some k) × (k ≤ n)
      go true t f = let same : j ≡ k = cc in let le = leb-true j n t in (f, omega arith)
      go false t f = absurd (cc)

  appended_saved : (later : Bool) (change : Change) (h : History) (now new : List ℕ) → h.collecting ≡ true
      → ((k : ℕ) → begins_transaction later change h ≡ true → undone_text (suc k) (appended later change h).past new ≡ undone_text k h.past now)
      → ((k : ℕ) → joins later change h ≡ true → undone_text (suc k) (appended later change h).past new ≡ undone_text (suc k) h.past now)
      → Saved saved now h → Saved saved new (appended later change h)
  appended_saved later change h now new collects begun joined s k e =
      let a = appended later change h in
      let was = still_reachable (length h.past) k h.save_point (sym (c.appended_keeps later change h collects).save_point ∙ e) in
      go (joins later change h) refl was ((s k was.0).0 was.1) (c.append_counts later change h)
    where
      go : (b : Bool) → joins later change h ≡ b → (h.save_point ≡ Some k) × (k ≤ length h.past) → undone_text (length h.past - k) h.past now ≡ saved
          → length (appended later change h).past ≡ cond (begins_transaction later change h) (length h.past + 1) (length h.past)
          → (k ≤ length (appended later change h).past → undone_text (length (appended later change h).past - k) (appended later change h).past new ≡ saved)
          × (length (appended later change h).past < k → redone_text (k - length (appended later change h).past) (appended later change h).future new ≡ saved)
      go false t was text count =
          let begins : begins_transaction later change h ≡ true = rw (collects, t) refl in
          let more : length (appended later change h).past ≡ length h.past + 1 = rw begins at count in
          let le = was.1 in
          let steps : length (appended later change h).past - k ≡ suc (length h.past - k) = omega arith in (
            (λ fits. ap (λ (j : ℕ). undone_text j (appended later change h).past new) steps ∙ begun (length h.past - k) begins ∙ text),
            (λ past. absurd (omega arith)),
          )
      go true t was text count =
          let not_begun : begins_transaction later change h ≡ false = rw (collects, t) refl in
          let alike : length (appended later change h).past ≡ length h.past = rw not_begun at count in
          let le = was.1 in
          let modified = left h.past refl t in
          let apart : k ≡ length h.past → ⊥ = not_save_point (length h.past) k h.save_point modified was.0 in
          let some : k < length h.past = elim (cases_lt k (length h.past)) [ inl l ↦ l | inr l ↦ absurd (apart (omega arith)) ] in
          let steps : length (appended later change h).past - k ≡ suc (length h.past - k - 1) = omega arith in
          let again : suc (length h.past - k - 1) ≡ length h.past - k = omega arith in (
            (λ fits. ap (λ (j : ℕ). undone_text j (appended later change h).past new) steps ∙ joined (length h.past - k - 1) t ∙ ap (λ (j : ℕ). undone_text j h.past now) again ∙ text),
            (λ past. absurd (omega arith)),
          )
        where
          left : (ts : List Transaction) → h.past ≡ ts → joins later change h ≡ true → at_save_point h ≡ false
          left [] none joining = let not_joining = c.joins_none later change h none in absurd (cc)
          left (x ∷ xs) some joining = (c.append_joins later change h x xs collects some joining).modified

  step_saved : (later : Bool) (step : Step) (d : Document) → d.history.collecting ≡ true → Fits step (text_of d) → SavedIn saved d
      → SavedIn saved (let e = document_after step d in record e { history = appended later (TextStep step) d.history })
  step_saved later step d collects fits s =
      subst (λ (new : List ℕ). Saved saved new (appended later (TextStep step) d.history)) (sym (c.cells step d.cells))
      (appended_saved later (TextStep step) d.history (text_of d) (edited step (text_of d)) collects
      (λ k begins. c.begun k later step d.history (text_of d) fits begins)
      (λ k joining. c.joined k later step d.history (text_of d) fits collects joining) s)

  steps_saved : (later : Bool) (steps : List Step) (scene : Scene) → scene.document.history.collecting ≡ true → FitInTurn steps (text_of scene.document) → SavedIn saved scene.document
      → SavedIn saved (steps_made later steps scene).document
  steps_saved later [] scene collects fits s = s
  steps_saved later (step ∷ steps) scene collects fits s =
      let d = scene.document in
      steps_saved true steps (step_made later step scene) (c.appended_keeps later (TextStep step) d.history collects).collecting
      (subst (FitInTurn steps) (sym (c.cells step d.cells)) fits.1) (step_saved later step d collects fits.0 s)

  edit_saved : (steps : List Step) (scene : Scene) → scene.document.history.collecting ≡ true → FitInTurn steps (text_of scene.document) → SavedIn saved scene.document → SavedIn saved (edit_made steps scene).document
  edit_saved steps scene collects fits s =
      let first = c.sealed scene.document.history in
      let inner = steps_made false steps (sealed_scene scene) in
      either (λ (x : Scene). SavedIn saved x.document) (nat_lt 1 (length steps)) (sealed_scene inner) (steps_made false steps scene)
      (seals_saved inner.document.history (sealed_outside_groups inner.document.history) (text_of inner.document) (c.sealed inner.document.history)
      (steps_saved false steps (sealed_scene scene) (first.collecting ∙ collects) fits (seals_saved scene.document.history (sealed_outside_groups scene.document.history) (text_of scene.document) first s)))
      (steps_saved false steps scene collects fits s)

  -- While undo is not collected, the history stays.

  sealed_stays : (h : History) → h.past ≡ [] → sealed_outside_groups h ≡ h
  sealed_stays h none =
      either (λ (g : History). g ≡ h) (h.depth == 0) (record h { past = seal_first h.past }) h
      (ap (λ (ts : List Transaction). record h { past = ts }) (ap seal_first none ∙ sym none)) refl

  steps_stay : (later : Bool) (steps : List Step) (scene : Scene) (h : History) → scene.document.history ≡ h → h.collecting ≡ false → (steps_made later steps scene).document.history ≡ h
  steps_stay later [] scene h e off = e
  steps_stay later (step ∷ steps) scene h e off =
      steps_stay true steps (step_made later step scene) h (ap (appended later (TextStep step)) e ∙ c.not_collecting later (TextStep step) h off) off

  edit_stays : (steps : List Step) (scene : Scene) → scene.document.history.collecting ≡ false → scene.document.history.past ≡ [] → (edit_made steps scene).document.history ≡ scene.document.history
  edit_stays steps scene off none =
      let h = scene.document.history in
      let inner = steps_made false steps (sealed_scene scene) in
      let same : inner.document.history ≡ h = steps_stay false steps (sealed_scene scene) h (sealed_stays h none) off in
      either (λ (x : Scene). x.document.history ≡ h) (nat_lt 1 (length steps)) (sealed_scene inner) (steps_made false steps scene)
      (ap sealed_outside_groups same ∙ sealed_stays h none) (steps_stay false steps scene h refl off)

  -- Undo and redo.

  undo_saved : (scene : Scene) (t : Transaction) (ts : List Transaction) → scene.document.history.past ≡ t ∷ ts → FitInTurn (text_steps (undo_changes scene.document.history)) (text_of scene.document)
      → SavedIn saved scene.document → SavedIn saved (after_undo scene).document
  undo_saved scene t ts some fits s =
      let h = scene.document.history in
      let now = text_of scene.document in
      let new = text_of (after_undo scene).document in
      let past : length h.past ≡ suc (length ts) = ap length some in
      let is_undone : undone h ≡ record h { past = seal_first ts; future = t ∷ h.future } = ap (undone_to h) some in
      let few : length (seal_first ts) ≡ length ts = sealed_length ts in
      let back : redone_text 1 (t ∷ h.future) new ≡ now =
      ap (λ (g : History). after_steps (text_steps (redo_changes g)) new) (sym is_undone) ∙ sym (c.redo_made (after_undo scene)) ∙ c.undo_then_redo scene (omega arith) fits in
      let earlier : (j : ℕ) → undone_text j (seal_first ts) new ≡ undone_text (suc j) h.past now = λ j.
      ap (λ (g : History). undone_text j g.past new) (sym is_undone) ∙ ap (undone_text j (undone h).past) (c.undo_made scene) ∙ c.undo j h now in
      subst (Saved saved new) (sym is_undone)
      (λ k e.
      let was = s k e in (
        (λ le.
            let n : length (seal_first ts) - k ≡ length ts - k = omega arith in
            let m : suc (length ts - k) ≡ length h.past - k = omega arith in
            ap (λ (j : ℕ). undone_text j (seal_first ts) new) n ∙ earlier (length ts - k) ∙ ap (λ (j : ℕ). undone_text j h.past now) m ∙ was.0 (omega arith)),
        (λ lt.
            let n : k - length (seal_first ts) ≡ suc (k - length h.past) = omega arith in
            let rest : redone_text (k - length h.past) h.future now ≡ saved =
            elim (cases_lt (length h.past) k) [
              | inl l ↦ was.1 l
              | inr l ↦
                  let none : k - length h.past ≡ 0 = omega arith in
                  let all : 0 ≡ length h.past - k = omega arith in
                  ap (λ (j : ℕ). redone_text j h.future now) none ∙ ap (λ (j : ℕ). undone_text j h.past now) all ∙ was.0 l
            ] in
            ap (λ (j : ℕ). redone_text j (t ∷ h.future) new) n ∙ ap (redone_text (k - length h.past) h.future) back ∙ rest),
      ))

  redo_saved : (scene : Scene) (t : Transaction) (ts : List Transaction) → scene.document.history.future ≡ t ∷ ts → FitInTurn (text_steps (redo_changes scene.document.history)) (text_of scene.document)
      → SavedIn saved scene.document → SavedIn saved (after_redo scene).document
  redo_saved scene t ts some fits s =
      let h = scene.document.history in
      let now = text_of scene.document in
      let new = text_of (after_redo scene).document in
      let future : length h.future ≡ suc (length ts) = ap length some in
      let is_redone : redone h ≡ record h { past = seal_first (t ∷ h.past); future = ts } = ap (redone_from h) some in
      let on : redone_text 1 (t ∷ ts) now ≡ new = ap (λ (xs : List Transaction). after_steps (text_steps (reverse (first_changes xs))) now) (sym some) ∙ sym (c.redo_made scene) in
      let earlier : (j : ℕ) → undone_text (suc j) (seal_first (t ∷ h.past)) new ≡ undone_text j h.past now = λ j.
      ap (λ (g : History). undone_text (suc j) g.past new) (sym is_redone) ∙ ap (undone_text (suc j) (redone h).past) (c.redo_made scene) ∙ c.redo j h now (omega arith) fits in
      subst (Saved saved new) (sym is_redone)
      (λ k e.
      let was = s k e in (
        (λ le.
            elim (cases_lt (length h.past) k) [
              | inl l ↦
                  let none : suc (length h.past) - k ≡ 0 = omega arith in
                  let one : 1 ≡ k - length h.past = omega arith in
                  ap (λ (j : ℕ). undone_text j (seal_first (t ∷ h.past)) new) none ∙ sym on ∙ ap (λ (xs : List Transaction). redone_text 1 xs now) (sym some)
                  ∙ ap (λ (j : ℕ). redone_text j h.future now) one ∙ was.1 l
              | inr l ↦
                  let more : suc (length h.past) - k ≡ suc (length h.past - k) = omega arith in
                  ap (λ (j : ℕ). undone_text j (seal_first (t ∷ h.past)) new) more ∙ earlier (length h.past - k) ∙ was.0 l
            ]),
        (λ lt.
            let over : suc (length h.past) < k = lt in
            let n : k - length h.past ≡ suc (k - suc (length h.past)) = omega arith in
            ap (redone_text (k - suc (length h.past)) ts) (sym on) ∙ ap (λ (j : ℕ). redone_text j (t ∷ ts) now) (sym n) ∙ ap (λ (xs : List Transaction). redone_text (k - length h.past) xs now) (sym some) ∙ was.1 (omega arith)),
      ))

  -- Other changes.

  container_saved : (token : ℤ) (coalesce : Bool) (h : History) (now : List ℕ) → Saved saved now h → Saved saved now (with_container_step token coalesce h)
  container_saved token coalesce h now s =
      let change = ContainerStep token coalesce in
      let a = appended false change h in
      let then_saved : Saved saved now a = go h.collecting refl in
      either (λ (g : History). Saved saved now g) (coalesce || not h.collecting) a (sealed_outside_groups a) then_saved (seals_saved a (sealed_outside_groups a) now (c.sealed a) then_saved)
    where
      go : (b : Bool) → h.collecting ≡ b → Saved saved now (appended false (ContainerStep token coalesce) h)
      go true on =
          appended_saved false (ContainerStep token coalesce) h now now on (λ k begins. c.container_begun k false token coalesce h now begins)
          (λ k joining. c.container_joined (suc k) false token coalesce h now on joining) s
      go false off = subst (Saved saved now) (sym (c.not_collecting false (ContainerStep token coalesce) h off)) s

  collecting_saved : (on : Bool) (h : History) (now : List ℕ) → Saved saved now h → Saved saved now (collecting_set on h)
  collecting_saved true h now s = s
  collecting_saved false h now s = λ k e. go k (at_save_point h) refl e
    where
      go : (k : ℕ) (b : Bool) → at_save_point h ≡ b → cond b (Some 0) None ≡ Some k → (k ≤ 0 → undone_text (0 - k) [] now ≡ saved) × (0 < k → redone_text (k - 0) [] now ≡ saved)
      go k true at f =
          let same : 0 ≡ k = cc in
          let none_left : 0 - k ≡ 0 = omega arith in
          ((λ le. ap (λ (j : ℕ). undone_text j [] now) none_left ∙ saved_now saved now h at s), (λ lt. absurd (omega arith)))
      go k false at f = absurd (cc)

  changed_saved : (bytes : List ℕ) (change : DocumentChange) (d : Document) (l : Leave) (value : ℤ) → l.saves ≡ false → KeepsTo l (plan.ChangeDocument change value) → SavedIn saved d
      → SavedIn saved (changed_document bytes change d)
  changed_saved bytes document_change.SetSavePoint d l answer barred keeps s = absurd (cc)
  changed_saved bytes document_change.ForgetHistory d l answer barred keeps s = absurd (cc)
  changed_saved bytes document_change.BeginGroup d l answer barred keeps s = seals_saved d.history (changed_document bytes document_change.BeginGroup d).history (text_of d) (c.group_begun d.history) s
  changed_saved bytes document_change.EndGroup d l answer barred keeps s = seals_saved d.history (changed_document bytes document_change.EndGroup d).history (text_of d) (c.group_ended d.history) s
  changed_saved bytes (document_change.CollectUndo on) d l answer barred keeps s = collecting_saved on d.history (text_of d) s
  changed_saved bytes (document_change.AppendContainer token coalesce) d l answer barred keeps s = container_saved token coalesce d.history (text_of d) s
  changed_saved bytes (document_change.StyleRun count style) d l answer barred keeps s = subst (λ (now : List ℕ). Saved saved now d.history) (sym (text_of_styled (replicate count style) d)) s
  changed_saved bytes (document_change.StyleBytes count) d l answer barred keeps s = subst (λ (now : List ℕ). Saved saved now d.history) (sym (text_of_styled (take count bytes) d)) s
  changed_saved bytes _ d l answer barred keeps s = s

  -- undo and redo need a transaction
  first_of_some : (b : Bool) (ts : List Transaction) → (b && nat_lt 0 (length ts)) ≡ true → (t : Transaction) × (rest : List Transaction) × (ts ≡ t ∷ rest)
  first_of_some b [] may = let no = (and_parts b false may).1 in absurd (cc)
  first_of_some b (t ∷ ts) may = (t, ts, refl)

  -- the document of a plan's request after the plan
  own_saved : (r : Request) (p : Plan) (l : Leave) → l.saves ≡ false → KeepsTo l p → IsSoundRequest r → IsSoundDocument r.session.limits r.document → IsFitPlan r p
      → (r.document.history.collecting ≡ true) ⊎ (text_of (own_after r p) ≡ text_of r.document) → SavedIn saved r.document → SavedIn saved (own_after r p)
  own_saved r (plan.Edit change value after) l barred keeps sound fit_document fit may s = go r.document.history.collecting refl may
    where
      go : (b : Bool) → r.document.history.collecting ≡ b → (r.document.history.collecting ≡ true) ⊎ (text_of (own_after r (plan.Edit change value after)) ≡ text_of r.document)
          → SavedIn saved (own_after r (plan.Edit change value after))
      go true on k = edit_saved (steps_of r change) (scene_of r.session r.document) on (fit_in_turn (steps_of r change) (text r) (c.edit_fits r change fit.0)) s
      go false off (inl on) = absurd (cc)
      go false off (inr same) =
          let none = (fit_document.history.kept off).0 in
          subst (Saved saved (text_of (own_after r (plan.Edit change value after)))) (sym (edit_stays (steps_of r change) (scene_of r.session r.document) off none))
          (subst (λ (now : List ℕ). Saved saved now r.document.history) (sym same) s)
  own_saved r plan.Undo l barred keeps sound fit_document fit may s =
      let first = first_of_some (r.document.history.depth == 0) r.document.history.past fit.0 in
      undo_saved (scene_of r.session r.document) first.0 first.1 first.2 (fit_in_turn _ (text r) (c.undo_fits r sound)) s
  own_saved r plan.Redo l barred keeps sound fit_document fit may s =
      let first = first_of_some (r.document.history.depth == 0) r.document.history.future fit.0 in
      redo_saved (scene_of r.session r.document) first.0 first.1 first.2 (fit_in_turn _ (text r) (c.redo_fits r sound)) s
  own_saved r (plan.ChangeDocument change value) l barred keeps sound fit_document fit may s = changed_saved r.message.text change r.document l value barred keeps s
  own_saved r _ l barred keeps sound fit_document fit may s = s

  -- Commands.

  abbrev Keeps : ℕ → Document → Document → Type 0
  Keeps id d e = d.id ≡ id → ((d.history.collecting ≡ true) ⊎ (text_of e ≡ text_of d)) → SavedIn saved d → SavedIn saved e

  message_keeps : (id : ℕ) (s : Session) (view : ℕ) (m : Message)
      → ((v : View) (kind : Kind) → view_at s.views view ≡ Some v → v.document ≡ id → kind_of m.number ≡ Some kind → is_saving kind ≡ false)
      → MayGo (Keeps id) s view m
  message_keeps id s view m barred v kind d p sent h fit own may saved_there =
      own_saved (request s v d m) p (leave_of kind) (barred v kind sent.sees (sym (document_id s.documents v.document d sent.finds) ∙ own) sent.is) sent.keeps h
      (found_all (IsSoundDocument s.limits) (λ (d : Document). d.id == v.document) s.documents d h.sound.documents sent.finds) fit may saved_there

  command_goes : (files : List (List ℕ)) (id : ℕ) (command : Command) (s : Running) → IsSound s.session → SetsNoSavePoint id s.session command
      → AllFrom (Keeps id) s.session (after_command files command s).0.session
  command_goes files id command s sound none =
      command_from (Keeps id) (λ d own may s. s) (λ d e views held_by_callers k. k) c.fits files command s sound (go command none)
    where
      set_text_saves_nothing : (bytes : List ℕ) (kind : Kind) → kind_of (set_text_message bytes).number ≡ Some kind → is_saving kind ≡ false
      set_text_saves_nothing bytes kind is = let same : SetText ≡ kind = cc in subst (λ (k : Kind). is_saving k ≡ false) same refl

      go : (command : Command) → SetsNoSavePoint id s.session command → OfMessages (MayGo (Keeps id) s.session) command
      go (SendMessage view m) none = message_keeps id s.session view m none
      go (LoadFile view file) none = λ bytes. message_keeps id s.session view (set_text_message bytes) (λ w kind sees on is. set_text_saves_nothing bytes kind is)
      go _ none = tt

  run_saved : CommandKeepsSound → (files : List (List ℕ)) (cs : List Command) (s : Running) (id : ℕ) (d e : Document) → IsSound s.session → document_at s.session.documents id ≡ Some d
      → SavedIn saved d → KeepsTheSavePoint files id cs s → document_at (run_to files cs s).session.documents id ≡ Some e → SavedIn saved e
  run_saved keeps files [] s id d e sound found there kept still = let same : d ≡ e = cc in subst (SavedIn saved) same there
  run_saved keeps files (command ∷ cs) s id d e sound found there kept still =
      let t = (after_command files command s).0 in
      let x = still_there c.fits keeps files command cs s id d e sound found still in
      let from : From (Keeps id) s.session.next_document (Some d) x.0 =
      subst (λ (o : Option Document). From (Keeps id) s.session.next_document o x.0) found (command_goes files id command s sound kept.0 id x.0 x.1) in
      let collected : IsCollected (Some d) (Some x.0) =
      subst (λ (o : Option Document). IsCollected o (Some x.0)) found (subst (IsCollected (document_at s.session.documents id)) x.1 kept.1) in
      run_saved keeps files cs t id x.0 e (keeps files command s sound) x.1 (from (document_id s.session.documents id d found) collected there) kept.2 still

pub unmodified_is_the_saved_text : Cited → CommandKeepsSound → UnmodifiedIsTheSavedText
unmodified_is_the_saved_text c keeps files commands s id d e sound found at kept still at_again =
    saved_now (text_of d) (text_of e) e.history at_again (run_saved c (text_of d) keeps files commands s id d e sound found (saved_first (text_of d) d.history at) kept still)

-- GETMODIFY.

-- the value that GETMODIFY answers
pub get_modify_value : (s : Session) (view : ℕ) (m : Message) (v : View) (d : Document) (done : Session × Response) → kind_of m.number ≡ Some GetModify
    → view_at s.views view ≡ Some v → document_at s.documents v.document ≡ Some d → table s view m ≡ Ok done → done.1.value ≡ flag (not (at_save_point d.history))
get_modify_value s view m v d done is sees finds e =
    let r = request s v d m in
    let reply = quiet (flag (not (at_save_point d.history))) in
    let here : table s view m ≡ Ok (s, with_recording GetModify r reply) = table_at s view m v GetModify d sees is finds in
    let both : done ≡ (s, with_recording GetModify r reply) = cc in
    ap (λ (x : Session × Response). x.1.value) both
    ∙ either (λ (x : Response). x.value ≡ reply.value) (v.records && (marks_of GetModify).r) (record reply { notes = record_note r ∷ reply.notes }) reply refl refl

pub get_modify_tells : GetModifyTells
get_modify_tells s view m v d done is sees finds e zero_is = go (at_save_point d.history) (sym (get_modify_value s view m v d done is sees finds e) ∙ zero_is)
  where
    go : (at : Bool) → flag (not at) ≡ pos 0 → at ≡ true
    go true e = refl
    go false e = absurd (cc)
