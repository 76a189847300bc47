-- Laws of several transactions undone and redone: to which texts undo goes back, and that redo restores what undo took back.
use Rattle.std.specs.Prelude.{◌≡◌, ℕ, zero, suc, ◌<◌, Bool, true, List, [], ◌∷◌, length, map, reverse, ℤ}
use Rattle.ed_model.specs.Steps.{Step, edited}
use Rattle.ed_model.specs.LineEnds.{after_steps}
use Rattle.ed_model.specs.History.{History, Transaction, TextStep, ContainerStep, inverse_change, joins, appended, begins_transaction, undo_changes, redo_changes, undone, redone}
use Rattle.ed_model.specs.UndoPlans.{text_steps}
use Rattle.ed_model.specs.Performing.{Scene}
use Rattle.ed_model.specs.InverseLaws.{Fits, FitInTurn, text_of_scene, history_of, after_undo, after_redo}
use Rattle.ed_model.specs.HistoryLaws.{SameButForSeals}

-- the steps that undo a transaction, and those that redo it
abbrev pub undo_steps : Transaction → List Step
undo_steps t = text_steps (map inverse_change t.changes)

abbrev pub redo_steps : Transaction → List Step
redo_steps t = text_steps (reverse t.changes)

-- the text before the last k transactions of the past, or before all of them if there are fewer
abbrev pub undone_text : ℕ → List Transaction → List ℕ → List ℕ
undone_text zero past text = text
undone_text (suc k) [] text = text
undone_text (suc k) (t ∷ ts) text = undone_text k ts (after_steps (undo_steps t) text)

-- the text after the next k transactions of the future, or after all of them if there are fewer
abbrev pub redone_text : ℕ → List Transaction → List ℕ → List ℕ
redone_text zero future text = text
redone_text (suc k) [] text = text
redone_text (suc k) (t ∷ ts) text = redone_text k ts (after_steps (redo_steps t) text)

-- there are k transactions, and they can be undone, one after another
abbrev pub CanBeUndone : ℕ → List Transaction → List ℕ → Type 0
CanBeUndone zero past text = Unit {0}
CanBeUndone (suc k) [] text = ⊥
CanBeUndone (suc k) (t ∷ ts) text = FitInTurn (undo_steps t) text × CanBeUndone k ts (after_steps (undo_steps t) text)

-- the scene after k undos, and after k redos
abbrev pub undos : ℕ → Scene → Scene
undos zero scene = scene
undos (suc k) scene = undos k (after_undo scene)

abbrev pub redos : ℕ → Scene → Scene
redos zero scene = scene
redos (suc k) scene = redos k (after_redo scene)

-- Undo goes back.

abbrev pub UndosGoBack : Type 0
UndosGoBack = (k : ℕ) (scene : Scene) → text_of_scene (undos k scene) ≡ undone_text k (history_of scene).past (text_of_scene scene)

-- k undos followed by k redos restore the text
abbrev pub UndosThenRedosGiveBackTheText : Type 0
UndosThenRedosGiveBackTheText =
    (k : ℕ) (scene : Scene) → CanBeUndone k (history_of scene).past (text_of_scene scene) →
    text_of_scene (redos k (undos k scene)) ≡ text_of_scene scene

-- and the history, except for seals
abbrev pub UndosThenRedosGiveBackTheHistory : Type 0
UndosThenRedosGiveBackTheHistory =
    (k : ℕ) (scene : Scene) → CanBeUndone k (history_of scene).past (text_of_scene scene) →
    SameButForSeals (history_of scene) (history_of (redos k (undos k scene)))

-- No operation changes the texts to which undo goes back.

-- a step that begins a transaction: undoing it leads to the text before the step
abbrev pub BegunStepIsOneTransactionMore : Type 0
BegunStepIsOneTransactionMore =
    (k : ℕ) (later : Bool) (step : Step) (h : History) (text : List ℕ) → Fits step text → begins_transaction later (TextStep step) h ≡ true →
    undone_text (suc k) (appended later (TextStep step) h).past (edited step text) ≡ undone_text k h.past text

-- a step that joins is undone together with the transaction that it joined
abbrev pub JoinedStepKeepsEarlierTexts : Type 0
JoinedStepKeepsEarlierTexts =
    (k : ℕ) (later : Bool) (step : Step) (h : History) (text : List ℕ) → Fits step text → h.collecting ≡ true → joins later (TextStep step) h ≡ true →
    undone_text (suc k) (appended later (TextStep step) h).past (edited step text) ≡ undone_text (suc k) h.past text

-- a container's step changes no text
abbrev pub BegunContainerStepIsOneTransactionMore : Type 0
BegunContainerStepIsOneTransactionMore =
    (k : ℕ) (later : Bool) (token : ℤ) (coalesce : Bool) (h : History) (text : List ℕ) → begins_transaction later (ContainerStep token coalesce) h ≡ true →
    undone_text (suc k) (appended later (ContainerStep token coalesce) h).past text ≡ undone_text k h.past text

abbrev pub JoinedContainerStepKeepsEarlierTexts : Type 0
JoinedContainerStepKeepsEarlierTexts =
    (k : ℕ) (later : Bool) (token : ℤ) (coalesce : Bool) (h : History) (text : List ℕ) → h.collecting ≡ true → joins later (ContainerStep token coalesce) h ≡ true →
    undone_text k (appended later (ContainerStep token coalesce) h).past text ≡ undone_text k h.past text

-- undo keeps all texts before the one to which it went back
abbrev pub UndoKeepsEarlierTexts : Type 0
UndoKeepsEarlierTexts =
    (k : ℕ) (h : History) (text : List ℕ) →
    undone_text k (undone h).past (after_steps (text_steps (undo_changes h)) text) ≡ undone_text (suc k) h.past text

-- after redo, undo goes back to the text before the redo
abbrev pub RedoIsOneTransactionMore : Type 0
RedoIsOneTransactionMore =
    (k : ℕ) (h : History) (text : List ℕ) → 0 < length h.future → FitInTurn (text_steps (redo_changes h)) text →
    undone_text (suc k) (redone h).past (after_steps (text_steps (redo_changes h)) text) ≡ undone_text k h.past text

-- seals, and so groups, change no earlier text
abbrev pub SealsKeepEarlierTexts : Type 0
SealsKeepEarlierTexts = (k : ℕ) (h g : History) (text : List ℕ) → SameButForSeals h g → undone_text k g.past text ≡ undone_text k h.past text
