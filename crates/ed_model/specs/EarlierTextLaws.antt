-- Undo goes back to earlier texts of the document: each is the text of the latest earlier state that had so many transactions.
-- Every change of a document keeps this, so it holds in whole runs.
use Rattle.std.specs.Prelude.{◌≡◌, ℕ, ◌+◌, ◌-◌, ◌==◌, ◌<◌, ◌≤◌, if◌then◌else◌, false, List, [], ◌∷◌, length, Option, Some, None}
use Rattle.ed_model.specs.declared.plan.DocumentChange.{DocumentChange}
use Rattle.ed_model.specs.Steps.{Step}
use Rattle.ed_model.specs.History.{redo_changes}
use Rattle.ed_model.specs.UndoPlans.{text_steps}
use Rattle.ed_model.specs.Session.{Document, text_of}
use Rattle.ed_model.specs.Performing.{Scene, edit_made}
use Rattle.ed_model.specs.Changes.{changed_document}
use Rattle.ed_model.specs.InverseLaws.{FitInTurn, text_of_scene, history_of, after_undo, after_redo}
use Rattle.ed_model.specs.UndoLaws.{undone_text}

-- A change keeps the earlier texts if each text to which undo can go back after the change is one to which it could go back
-- before, with as many transactions left.
abbrev pub KeepsEarlierTexts : Document → Document → Type 0
KeepsEarlierTexts old new =
    (k : ℕ) → 0 < k → k ≤ length new.history.past →
    (length new.history.past ≤ length old.history.past + k)
    × (undone_text k new.history.past (text_of new) ≡ undone_text (length old.history.past + k - length new.history.past) old.history.past (text_of old))

-- Changes that keep the earlier texts.

-- the steps of a message keep them, if undo is collected or the history has no past
abbrev pub EditsKeepEarlierTexts : Type 0
EditsKeepEarlierTexts =
    (steps : List Step) (scene : Scene) → FitInTurn steps (text_of_scene scene) →
    ((history_of scene).collecting ≡ false → (history_of scene).past ≡ []) →
    KeepsEarlierTexts scene.document (edit_made steps scene).document

abbrev pub UndoKeepsTheTextsBefore : Type 0
UndoKeepsTheTextsBefore = (scene : Scene) → KeepsEarlierTexts scene.document (after_undo scene).document

abbrev pub RedoKeepsTheTextsBefore : Type 0
RedoKeepsTheTextsBefore =
    (scene : Scene) → FitInTurn (text_steps (redo_changes (history_of scene))) (text_of_scene scene) →
    KeepsEarlierTexts scene.document (after_redo scene).document

-- every change of a document that is no edit keeps them, container's steps and groups included
abbrev pub DocumentChangesKeepEarlierTexts : Type 0
DocumentChangesKeepEarlierTexts =
    (bytes : List ℕ) (change : DocumentChange) (d : Document) → KeepsEarlierTexts d (changed_document bytes change d)

-- The states of a document, the latest first.

-- the text of the latest state with n transactions in its past
abbrev pub latest_with : ℕ → List Document → Option (List ℕ)
latest_with n [] = None
latest_with n (d ∷ earlier) = if length d.history.past == n then Some (text_of d) else latest_with n earlier

-- undo goes back from the latest state, and the texts are those of the latest states with fewer transactions
abbrev pub GoesBackAmong : Document → List Document → Type 0
GoesBackAmong d states =
    (k : ℕ) → k ≤ length d.history.past → latest_with (length d.history.past - k) states ≡ Some (undone_text k d.history.past (text_of d))

-- this holds for a document without a past
abbrev pub GoesBackAtFirst : Type 0
GoesBackAtFirst = (d : Document) (states : List Document) → d.history.past ≡ [] → GoesBackAmong d (d ∷ states)

-- and it holds after each change that keeps the earlier texts
abbrev pub GoesBackAfterwards : Type 0
GoesBackAfterwards =
    (old new : Document) (states : List Document) → GoesBackAmong old states → KeepsEarlierTexts old new → GoesBackAmong new (new ∷ states)
