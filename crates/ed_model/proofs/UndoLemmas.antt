-- Several transactions undone and redone.
use Rattle.ed_model.proofs.Names.{◌≡◌, ℕ, zero, suc, ◌<◌, Bool, true, ℤ, List, [], ◌∷◌, length, map, reverse, refl, ap, ◌∙◌, sym, subst, arith, Step, edited, after_steps, History, Transaction, Change, TextStep, ContainerStep, inverse_change, first_changes, seal_first, joins, joins_last, with_change, appended, undo_changes, redo_changes, undone, undone_to, redone, redone_from, text_steps, Scene, Fits, FitInTurn, text_of_scene, history_of, after_undo, after_redo, SameButForSeals, undo_steps, redo_steps, undone_text, redone_text, CanBeUndone, undos, redos, UndosGoBack, UndosThenRedosGiveBackTheText, UndosThenRedosGiveBackTheHistory, BegunStepIsOneTransactionMore, JoinedStepKeepsEarlierTexts, BegunContainerStepIsOneTransactionMore, JoinedContainerStepKeepsEarlierTexts, UndoKeepsEarlierTexts, RedoIsOneTransactionMore, SealsKeepEarlierTexts}
use Rattle.ed_model.proofs.InverseLemmas.{inverse_gives_back_the_text, inverses_give_back_the_text}
use Rattle.ed_model.proofs.HistoryLemmas.{append_begins, where_collecting, same_as_itself, undo_then_redo_gives_back_the_history}
use Rattle.ed_model.proofs.TransactionLemmas.{undo_makes_its_steps, redo_makes_its_steps, undo_then_redo_gives_back_the_text, undo_steps_after_redo}

-- The earlier texts depend only on the changes of each transaction, not on its seal.

pub nothing_to_undo : (k : ℕ) (text : List ℕ) → undone_text k [] text ≡ text
nothing_to_undo zero text = refl
nothing_to_undo (suc k) text = refl

pub nothing_to_redo : (k : ℕ) (text : List ℕ) → redone_text k [] text ≡ text
nothing_to_redo zero text = refl
nothing_to_redo (suc k) text = refl

-- the texts before transactions that have these changes
texts_before : ℕ → List (List Change) → List ℕ → List ℕ
texts_before zero past text = text
texts_before (suc k) [] text = text
texts_before (suc k) (cs ∷ rest) text = texts_before k rest (after_steps (text_steps (map inverse_change cs)) text)

texts_by_changes : (k : ℕ) (past : List Transaction) (text : List ℕ) → undone_text k past text ≡ texts_before k (map (λ (t : Transaction). t.changes) past) text
unfolding texts_before
texts_by_changes zero past text = refl
texts_by_changes (suc k) [] text = refl
texts_by_changes (suc k) (t ∷ ts) text = texts_by_changes k ts (after_steps (undo_steps t) text)

pub seals_keep_earlier_texts : SealsKeepEarlierTexts
seals_keep_earlier_texts k h g text s =
    texts_by_changes k g.past text ∙ ap (λ (past : List (List Change)). texts_before k past text) s.past ∙ sym (texts_by_changes k h.past text)

pub sealed_undone_text : (k : ℕ) (ts : List Transaction) (text : List ℕ) → undone_text k (seal_first ts) text ≡ undone_text k ts text
sealed_undone_text zero ts text = refl
sealed_undone_text (suc k) [] text = refl
sealed_undone_text (suc k) (t ∷ ts) text = refl

sealed_can_be_undone : (k : ℕ) (ts : List Transaction) (text : List ℕ) → CanBeUndone k ts text → CanBeUndone k (seal_first ts) text
sealed_can_be_undone zero ts text h = tt
sealed_can_be_undone (suc k) [] text h = h
sealed_can_be_undone (suc k) (t ∷ ts) text h = h

-- Undo and redo.

one_undone : (k : ℕ) (h : History) (past : List Transaction) (text : List ℕ) → h.past ≡ past →
    undone_text k (undone_to h past).past (after_steps (text_steps (map inverse_change (first_changes past))) text) ≡ undone_text (suc k) past text
one_undone k h [] text e = ap (λ (past : List Transaction). undone_text k past text) e ∙ nothing_to_undo k text
one_undone k h (t ∷ ts) text e = sealed_undone_text k ts (after_steps (undo_steps t) text)

pub undo_keeps_earlier_texts : UndoKeepsEarlierTexts
undo_keeps_earlier_texts k h text = one_undone k h h.past text refl

pub undos_go_back : UndosGoBack
undos_go_back zero scene = refl
undos_go_back (suc k) scene =
    undos_go_back k (after_undo scene)
    ∙ ap (undone_text k (undone (history_of scene)).past) (undo_makes_its_steps scene)
    ∙ undo_keeps_earlier_texts k (history_of scene) (text_of_scene scene)

-- one redo, and the texts after it
pub one_redone : (k : ℕ) (h : History) (future : List Transaction) (text : List ℕ) → h.future ≡ future →
    redone_text k (redone_from h future).future (after_steps (text_steps (reverse (first_changes future))) text) ≡ redone_text (suc k) future text
one_redone k h [] text e = ap (λ (future : List Transaction). redone_text k future text) e ∙ nothing_to_redo k text
one_redone k h (t ∷ ts) text e = refl

-- after a redo the inverse steps of its transaction restore the text from before it
one_more_redone : (k : ℕ) (h : History) (future : List Transaction) (text : List ℕ) → 0 < length future →
    FitInTurn (text_steps (reverse (first_changes future))) text →
    undone_text (suc k) (redone_from h future).past (after_steps (text_steps (reverse (first_changes future))) text) ≡ undone_text k h.past text
one_more_redone k h [] text some fits = absurd (omega arith)
one_more_redone k h (t ∷ ts) text some fits =
    ap (undone_text k h.past)
    (ap (λ (steps : List Step). after_steps steps (after_steps (redo_steps t) text)) (undo_steps_after_redo h (t ∷ ts) some)
    ∙ inverses_give_back_the_text (redo_steps t) text fits)

pub redo_is_one_transaction_more : RedoIsOneTransactionMore
redo_is_one_transaction_more k h text some fits = one_more_redone k h h.future text some fits

-- A last redo.

one_more_redo : (k : ℕ) (scene : Scene) → redos (suc k) scene ≡ after_redo (redos k scene)
one_more_redo zero scene = refl
one_more_redo (suc k) scene = one_more_redo k (after_redo scene)

first_sealed : (t u : Transaction) (ts us : List Transaction) → t.changes ≡ u.changes → map (λ (x : Transaction). x.changes) ts ≡ map (λ (x : Transaction). x.changes) us →
    map (λ (x : Transaction). x.changes) (seal_first (t ∷ ts)) ≡ map (λ (x : Transaction). x.changes) (seal_first (u ∷ us))
first_sealed t u ts us e f = ap (λ cs. cs ∷ map (λ (x : Transaction). x.changes) ts) e ∙ ap (λ rest. u.changes ∷ rest) f

same_redone : (h g : History) (future : List Transaction) → SameButForSeals h g → SameButForSeals (redone_from h future) (redone_from g future)
same_redone h g [] s = s
same_redone h g (t ∷ ts) s = record { past = first_sealed t t g.past h.past refl s.past; future = refl; save_point = s.save_point; collecting = s.collecting }

same_after_redo : (h g : History) → SameButForSeals h g → SameButForSeals (redone h) (redone g)
same_after_redo h g s =
    subst (λ (future : List Transaction). SameButForSeals (redone h) (redone_from g future)) (sym s.future) (same_redone h g h.future s)

same_same : (h g k : History) → SameButForSeals h g → SameButForSeals g k → SameButForSeals h k
same_same h g k s t = record { past = t.past ∙ s.past; future = t.future ∙ s.future; save_point = t.save_point ∙ s.save_point; collecting = t.collecting ∙ s.collecting }

-- k undos followed by k redos restore the text, and the history except for seals
pub record GivesBack (scene back : Scene) : Type 0 where
  pub text : text_of_scene back ≡ text_of_scene scene
  pub history : SameButForSeals (history_of scene) (history_of back)

-- a redo after an undo restores the scene from before that undo
redo_of_undone : (scene back : Scene) → 0 < length (history_of scene).past → FitInTurn (text_steps (undo_changes (history_of scene))) (text_of_scene scene) →
    GivesBack (after_undo scene) back → GivesBack scene (after_redo back)
redo_of_undone scene back some fits g = record {
  text =
      redo_makes_its_steps back
      ∙ ap (λ (t : List ℕ). after_steps (text_steps (redo_changes (history_of back))) t) g.text
      ∙ ap (λ (future : List Transaction). after_steps (text_steps (reverse (first_changes future))) (text_of_scene (after_undo scene))) g.history.future
      ∙ sym (redo_makes_its_steps (after_undo scene))
      ∙ undo_then_redo_gives_back_the_text scene some fits;
  history =
      same_same (history_of scene) (redone (undone (history_of scene))) (redone (history_of back))
      (undo_then_redo_gives_back_the_history (history_of scene) some)
      (same_after_redo (undone (history_of scene)) (history_of back) g.history);
}

some_undone : (k : ℕ) (past : List Transaction) (text : List ℕ) → CanBeUndone (suc k) past text →
    (0 < length past) × (FitInTurn (text_steps (map inverse_change (first_changes past))) text)
some_undone k [] text h = absurd h
some_undone k (t ∷ ts) text h = (omega arith, h.0)

rest_undone : (k : ℕ) (h : History) (past : List Transaction) (text : List ℕ) → CanBeUndone (suc k) past text →
    CanBeUndone k (undone_to h past).past (after_steps (text_steps (map inverse_change (first_changes past))) text)
rest_undone k h [] text c = absurd c
rest_undone k h (t ∷ ts) text c = sealed_can_be_undone k ts (after_steps (undo_steps t) text) c.1

pub undos_then_redos : (k : ℕ) (scene : Scene) → CanBeUndone k (history_of scene).past (text_of_scene scene) → GivesBack scene (redos k (undos k scene))
undos_then_redos zero scene c = record { text = refl; history = same_as_itself (history_of scene) }
undos_then_redos (suc k) scene c =
    let some = some_undone k (history_of scene).past (text_of_scene scene) c in
    let rest : CanBeUndone k (history_of (after_undo scene)).past (text_of_scene (after_undo scene)) =
    subst (CanBeUndone k (undone (history_of scene)).past) (sym (undo_makes_its_steps scene)) (rest_undone k (history_of scene) (history_of scene).past (text_of_scene scene) c) in
    subst (GivesBack scene) (sym (one_more_redo k (undos k (after_undo scene))))
    (redo_of_undone scene (redos k (undos k (after_undo scene))) some.0 some.1 (undos_then_redos k (after_undo scene) rest))

pub undos_then_redos_give_back_the_text : UndosThenRedosGiveBackTheText
undos_then_redos_give_back_the_text k scene c = let g = undos_then_redos k scene c in g.text

pub undos_then_redos_give_back_the_history : UndosThenRedosGiveBackTheHistory
undos_then_redos_give_back_the_history k scene c = let g = undos_then_redos k scene c in g.history

-- Append.

pub begun_step_is_one_transaction_more : BegunStepIsOneTransactionMore
begun_step_is_one_transaction_more k later step h text fits begins =
    ap (λ (past : List Transaction). undone_text (suc k) past (edited step text)) (append_begins later (TextStep step) h begins)
    ∙ ap (undone_text k h.past) (inverse_gives_back_the_text step text fits)

pub begun_container_step_is_one_transaction_more : BegunContainerStepIsOneTransactionMore
begun_container_step_is_one_transaction_more k later token coalesce h text begins =
    ap (λ (past : List Transaction). undone_text (suc k) past text) (append_begins later (ContainerStep token coalesce) h begins)

-- the past after a change joined it
joined_past : (later : Bool) (c : Change) (h : History) → h.collecting ≡ true → joins later c h ≡ true → (appended later c h).past ≡ with_change true c h.past
joined_past later c h e j = ap (λ (g : History). g.past) (where_collecting later c h e) ∙ ap (λ b. with_change b c h.past) j

step_joined : (k : ℕ) (later : Bool) (step : Step) (h : History) (ts : List Transaction) (text : List ℕ) → Fits step text → joins_last later (TextStep step) h ts ≡ true →
    undone_text (suc k) (with_change true (TextStep step) ts) (edited step text) ≡ undone_text (suc k) ts text
step_joined k later step h [] text fits j = cc
step_joined k later step h (t ∷ ts) text fits j =
    ap (λ (old : List ℕ). undone_text k ts (after_steps (undo_steps t) old)) (inverse_gives_back_the_text step text fits)

pub joined_step_keeps_earlier_texts : JoinedStepKeepsEarlierTexts
joined_step_keeps_earlier_texts k later step h text fits e j =
    ap (λ (past : List Transaction). undone_text (suc k) past (edited step text)) (joined_past later (TextStep step) h e j)
    ∙ step_joined k later step h h.past text fits j

container_joined : (k : ℕ) (later : Bool) (token : ℤ) (coalesce : Bool) (h : History) (ts : List Transaction) (text : List ℕ) → joins_last later (ContainerStep token coalesce) h ts ≡ true →
    undone_text k (with_change true (ContainerStep token coalesce) ts) text ≡ undone_text k ts text
container_joined zero later token coalesce h ts text j = refl
container_joined (suc k) later token coalesce h [] text j = cc
container_joined (suc k) later token coalesce h (t ∷ ts) text j = refl

pub joined_container_step_keeps_earlier_texts : JoinedContainerStepKeepsEarlierTexts
joined_container_step_keeps_earlier_texts k later token coalesce h text e j =
    ap (λ (past : List Transaction). undone_text k past text) (joined_past later (ContainerStep token coalesce) h e j)
    ∙ container_joined k later token coalesce h h.past text j
