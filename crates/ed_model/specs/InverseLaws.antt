-- Laws of inverses: of one step, of several steps, and of a transaction that is undone and redone.
use Rattle.std.specs.Prelude.{◌≡◌, ℕ, ◌+◌, ◌<◌, ◌≤◌, List, [], ◌∷◌, length, map, reverse, slice_range}
use Rattle.ed_model.specs.Steps.{Step, Insert, Delete, edited, inverse_of}
use Rattle.ed_model.specs.LineEnds.{after_steps}
use Rattle.ed_model.specs.History.{History, undo_changes, redo_changes, undone, redone}
use Rattle.ed_model.specs.UndoPlans.{text_steps}
use Rattle.ed_model.specs.Session.{text_of}
use Rattle.ed_model.specs.Notes.{performed_undo, performed_redo}
use Rattle.ed_model.specs.Performing.{Scene, transaction_performed}

-- the step can be performed on the text: it inserts within the text, or the bytes that it deletes are there
abbrev pub Fits : Step → List ℕ → Type 0
Fits (Insert p bytes) text = p ≤ length text
Fits (Delete p bytes) text = (p ≤ length text) × (slice_range text p (p + length bytes) ≡ bytes)

-- each of the steps can be performed, one after another
abbrev pub FitInTurn : List Step → List ℕ → Type 0
FitInTurn [] text = Unit {0}
FitInTurn (step ∷ steps) text = Fits step text × FitInTurn steps (edited step text)

-- the inverses of the steps, the last step's first
abbrev pub inverses : List Step → List Step
inverses steps = reverse (map inverse_of steps)

-- One step.

-- a step followed by its inverse restores the bytes
abbrev pub InverseGivesBackTheText : Type 0
InverseGivesBackTheText = (step : Step) (text : List ℕ) → Fits step text → edited (inverse_of step) (edited step text) ≡ text

-- after a step its inverse can be performed
abbrev pub InverseFits : Type 0
InverseFits = (step : Step) (text : List ℕ) → Fits step text → Fits (inverse_of step) (edited step text)

-- Several steps.

-- steps followed by their inverses, from the last to the first, restore the bytes
abbrev pub InversesGiveBackTheText : Type 0
InversesGiveBackTheText =
    (steps : List Step) (text : List ℕ) → FitInTurn steps text → after_steps (inverses steps) (after_steps steps text) ≡ text

-- Transactions.

abbrev pub text_of_scene : Scene → List ℕ
text_of_scene scene = text_of scene.document

abbrev pub history_of : Scene → History
history_of scene = scene.document.history

-- the scene after its last transaction is undone, and after its next one is redone
abbrev pub after_undo : Scene → Scene
after_undo scene = transaction_performed performed_undo (undo_changes (history_of scene)) (undone (history_of scene)) scene

abbrev pub after_redo : Scene → Scene
after_redo scene = transaction_performed performed_redo (redo_changes (history_of scene)) (redone (history_of scene)) scene

-- undo performs the steps of the inverse changes of the last transaction, and redo those of the changes of the next
abbrev pub UndoMakesItsSteps : Type 0
UndoMakesItsSteps =
    (scene : Scene) → text_of_scene (after_undo scene) ≡ after_steps (text_steps (undo_changes (history_of scene))) (text_of_scene scene)

abbrev pub RedoMakesItsSteps : Type 0
RedoMakesItsSteps =
    (scene : Scene) → text_of_scene (after_redo scene) ≡ after_steps (text_steps (redo_changes (history_of scene))) (text_of_scene scene)

-- undo and then redo restore the text
abbrev pub UndoThenRedoGivesBackTheText : Type 0
UndoThenRedoGivesBackTheText =
    (scene : Scene) → 0 < length (history_of scene).past →
    FitInTurn (text_steps (undo_changes (history_of scene))) (text_of_scene scene) →
    text_of_scene (after_redo (after_undo scene)) ≡ text_of_scene scene

-- redo and then undo restore the text
abbrev pub RedoThenUndoGivesBackTheText : Type 0
RedoThenUndoGivesBackTheText =
    (scene : Scene) → 0 < length (history_of scene).future →
    FitInTurn (text_steps (redo_changes (history_of scene))) (text_of_scene scene) →
    text_of_scene (after_undo (after_redo scene)) ≡ text_of_scene scene
