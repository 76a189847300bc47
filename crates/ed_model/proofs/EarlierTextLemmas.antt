-- The texts to which undo goes back, over the changes of a document.
use Rattle.ed_model.proofs.Names.{◌≡◌, ℕ, zero, suc, ◌+◌, ◌-◌, ◌<◌, ◌≤◌, ◌==◌, nat_lt, not, ◌&&◌, ◌||◌, Bool, true, false, ℤ, List, [], ◌∷◌, length, take, map, replicate, refl, ap, ◌∙◌, sym, subst, arith, Some, Step, edited, after_steps, History, Transaction, Change, TextStep, ContainerStep, at_save_point, joins, joins_last, belongs, with_change, appended, begins_transaction, sealed_outside_groups, group_begun, group_ended, with_container_step, redo_changes, undone, undone_to, redone, redone_from, emptied, collecting_set, saved, text_steps, Document, text_of, Scene, step_made, steps_made, sealed_scene, styled, Fits, FitInTurn, text_of_scene, history_of, after_undo, after_redo, SameButForSeals, undone_text, KeepsEarlierTexts, EditsKeepEarlierTexts, UndoKeepsTheTextsBefore, RedoKeepsTheTextsBefore, DocumentChangesKeepEarlierTexts, latest_with, GoesBackAtFirst, GoesBackAfterwards, bytes_of_edited_cells, text_of_styled, same_length, cond-true, cond-false, ne_eqb, cond_both}
use Rattle.ed_model.specs.declared.plan.DocumentChange.TheVariants as change
use Rattle.ed_model.proofs.HistoryLemmas.{where_collecting, itself, joined_last, joined_open, append_begins, append_leaves_the_save_point, not_collecting_appends_nothing, seals_change_no_change, group_begun_changes_no_change, group_ended_changes_no_change, undo_moves_to_the_future, redo_moves_to_the_past}
use Rattle.ed_model.proofs.TransactionLemmas.{undo_makes_its_steps, redo_makes_its_steps}
use Rattle.ed_model.proofs.UndoLemmas.{undo_keeps_earlier_texts, redo_is_one_transaction_more, seals_keep_earlier_texts, begun_step_is_one_transaction_more, joined_step_keeps_earlier_texts, begun_container_step_is_one_transaction_more, joined_container_step_keeps_earlier_texts}

-- `KeepsEarlierTexts` for a history and its text, in place of a document.
abbrev pub Keeps : History → List ℕ → History → List ℕ → Type 0
Keeps h text g changed =
    (k : ℕ) → 0 < k → k ≤ length g.past →
    (length g.past ≤ length h.past + k) × (undone_text k g.past changed ≡ undone_text (length h.past + k - length g.past) h.past text)

-- Three ways to keep earlier texts: with the same number of transactions, with one more, and with one fewer.

same_count : (n m k : ℕ) → n ≡ m → n + k - m ≡ k
same_count n m k e = omega arith

pub keeps_as_many : (h g : History) (text changed : List ℕ) → length g.past ≡ length h.past →
    ((k : ℕ) → undone_text (suc k) g.past changed ≡ undone_text (suc k) h.past text) → Keeps h text g changed
keeps_as_many h g text changed e same zero some within = absurd (omega arith)
keeps_as_many h g text changed e same (suc k) some within =
    (omega arith, same k ∙ ap (λ n. undone_text n h.past text) (sym (same_count (length h.past) (length g.past) (suc k) (sym e))))

one_more_count : (n m k : ℕ) → m ≡ n + 1 → n + suc k - m ≡ k
one_more_count n m k e = omega arith

pub keeps_one_more : (h g : History) (text changed : List ℕ) → length g.past ≡ length h.past + 1 →
    ((k : ℕ) → undone_text (suc k) g.past changed ≡ undone_text k h.past text) → Keeps h text g changed
keeps_one_more h g text changed e same zero some within = absurd (omega arith)
keeps_one_more h g text changed e same (suc k) some within =
    (omega arith, same k ∙ ap (λ n. undone_text n h.past text) (sym (one_more_count (length h.past) (length g.past) k e)))

one_less_count : (n m k : ℕ) → n ≡ m + 1 → n + k - m ≡ suc k
one_less_count n m k e = omega arith

pub keeps_one_less : (h g : History) (text changed : List ℕ) → length h.past ≡ length g.past + 1 →
    ((k : ℕ) → undone_text k g.past changed ≡ undone_text (suc k) h.past text) → Keeps h text g changed
keeps_one_less h g text changed e same k some within =
    (omega arith, same k ∙ ap (λ n. undone_text n h.past text) (sym (one_less_count (length h.past) (length g.past) k e)))

-- without a past there is nothing to keep
pub keeps_none : (h g : History) (text changed : List ℕ) → g.past ≡ [] → Keeps h text g changed
keeps_none h g text changed e k some within = let none : length g.past ≡ 0 = ap length e in absurd (omega arith)

pub keeps_same : (h : History) (text : List ℕ) → Keeps h text h text
keeps_same h text = keeps_as_many h h text text refl (λ k. refl)

-- a change that keeps earlier texts, followed by one that keeps the number of transactions and their texts
pub keeps_then_same : (h g g' : History) (text changed changed' : List ℕ) → length g'.past ≡ length g.past →
    ((k : ℕ) → undone_text (suc k) g'.past changed' ≡ undone_text (suc k) g.past changed) → Keeps h text g changed → Keeps h text g' changed'
keeps_then_same h g g' text changed changed' e same keeps zero some within = absurd (omega arith)
keeps_then_same h g g' text changed changed' e same keeps (suc k) some within =
    let kept = keeps (suc k) some (omega arith) in
    (omega (arith, kept.0), same k ∙ kept.1 ∙ ap (λ n. undone_text (length h.past + suc k - n) h.past text) (sym e))

-- Seals.

pub keeps_then_sealed : (h g g' : History) (text changed : List ℕ) → SameButForSeals g g' → Keeps h text g changed → Keeps h text g' changed
keeps_then_sealed h g g' text changed s keeps =
    keeps_then_same h g g' text changed changed (same_length g g' s) (λ k. seals_keep_earlier_texts (suc k) g g' changed s) keeps

pub sealed_then_keeps : (h h' g : History) (text changed : List ℕ) → SameButForSeals h h' → Keeps h' text g changed → Keeps h text g changed
sealed_then_keeps h h' g text changed s keeps k some within =
    let kept = keeps k some within in
    let e = same_length h h' s in
    (omega (arith, kept.0), kept.1 ∙ ap (λ n. undone_text (n + k - length g.past) h'.past text) e ∙ seals_keep_earlier_texts (length h.past + k - length g.past) h h' text s)

nothing_mapped : (ts : List Transaction) → map (λ (t : Transaction). t.changes) ts ≡ [] → ts ≡ []
nothing_mapped [] e = refl
nothing_mapped (t ∷ ts) e = cc

pub no_past_sealed : (h g : History) → SameButForSeals h g → h.past ≡ [] → g.past ≡ []
no_past_sealed h g s e = nothing_mapped g.past (s.past ∙ ap (map (λ (t : Transaction). t.changes)) e)

-- A change appended.

begins_when : (a b : Bool) → a ≡ true → b ≡ false → (a && not b) ≡ true
begins_when true true e f = cc
begins_when true false e f = refl
begins_when false b e f = cc

pub joined_count : (later : Bool) (c : Change) (h : History) → h.collecting ≡ true → joins later c h ≡ true → length (appended later c h).past ≡ length h.past
joined_count later c h e j =
    let told = joined_last later c h h.past j in
    ap (λ (g : History). length g.past) (where_collecting later c h e) ∙ ap (λ b. length (with_change b c h.past)) j ∙ told.0

begun_count : (later : Bool) (c : Change) (h : History) → begins_transaction later c h ≡ true → length (appended later c h).past ≡ length h.past + 1
begun_count later c h b = ap length (append_begins later c h b) ∙ one_more (length h.past)
  where
    one_more : (n : ℕ) → suc n ≡ n + 1
    one_more n = omega arith

step_keeps : (later : Bool) (step : Step) (h : History) (text : List ℕ) (j : Bool) → Fits step text → h.collecting ≡ true → joins later (TextStep step) h ≡ j →
    Keeps h text (appended later (TextStep step) h) (edited step text)
step_keeps later step h text true fits e j =
    keeps_as_many h (appended later (TextStep step) h) text (edited step text) (joined_count later (TextStep step) h e j)
    (λ k. joined_step_keeps_earlier_texts k later step h text fits e j)
step_keeps later step h text false fits e j =
    let begins : begins_transaction later (TextStep step) h ≡ true = begins_when h.collecting (joins later (TextStep step) h) e j in
    keeps_one_more h (appended later (TextStep step) h) text (edited step text) (begun_count later (TextStep step) h begins)
    (λ k. begun_step_is_one_transaction_more k later step h text fits begins)

container_keeps_collecting : (token : ℤ) (coalesce : Bool) (h : History) (text : List ℕ) (j : Bool) → h.collecting ≡ true → joins false (ContainerStep token coalesce) h ≡ j →
    Keeps h text (appended false (ContainerStep token coalesce) h) text
container_keeps_collecting token coalesce h text true e j =
    keeps_as_many h (appended false (ContainerStep token coalesce) h) text text (joined_count false (ContainerStep token coalesce) h e j)
    (λ k. joined_container_step_keeps_earlier_texts (suc k) false token coalesce h text e j)
container_keeps_collecting token coalesce h text false e j =
    let begins : begins_transaction false (ContainerStep token coalesce) h ≡ true = begins_when h.collecting (joins false (ContainerStep token coalesce) h) e j in
    keeps_one_more h (appended false (ContainerStep token coalesce) h) text text (begun_count false (ContainerStep token coalesce) h begins)
    (λ k. begun_container_step_is_one_transaction_more k false token coalesce h text begins)

container_keeps : (token : ℤ) (coalesce : Bool) (h : History) (text : List ℕ) (b : Bool) → h.collecting ≡ b → Keeps h text (appended false (ContainerStep token coalesce) h) text
container_keeps token coalesce h text true e = container_keeps_collecting token coalesce h text (joins false (ContainerStep token coalesce) h) e refl
container_keeps token coalesce h text false e =
    subst (λ (g : History). Keeps h text g text) (sym (not_collecting_appends_nothing false (ContainerStep token coalesce) h e)) (keeps_same h text)

pub container_step_keeps : (token : ℤ) (coalesce : Bool) (h : History) (text : List ℕ) → Keeps h text (with_container_step token coalesce h) text
container_step_keeps token coalesce h text =
    let a = appended false (ContainerStep token coalesce) h in
    let kept = container_keeps token coalesce h text h.collecting refl in
    cond_both (coalesce || not h.collecting) a (sealed_outside_groups a) (λ (g : History). Keeps h text g text)
    (λ e. kept) (λ e. keeps_then_sealed h a (sealed_outside_groups a) text text (seals_change_no_change a) kept)

-- The steps of a message: each step after the first joins.

open_and_modified : (sealed saved deep alike : Bool) → sealed ≡ false → saved ≡ false → (not sealed && not saved && (deep || true || alike)) ≡ true
open_and_modified true saved deep alike e f = cc
open_and_modified false true deep alike e f = cc
open_and_modified false false true alike e f = refl
open_and_modified false false false alike e f = refl

joins_the_grown : (later : Bool) (c d : Change) (h a : History) (ts : List Transaction) → joins_last later c h ts ≡ true → at_save_point a ≡ false →
    joins_last true d a (with_change true c ts) ≡ true
joins_the_grown later c d h a [] j m = cc
joins_the_grown later c d h a (t ∷ ts) j m =
    open_and_modified t.is_sealed (at_save_point a) (nat_lt 0 a.depth) (belongs d (c ∷ t.changes)) (joined_open later c h t ts j) m

joins_after : (later : Bool) (c d : Change) (h : History) (j : Bool) → h.collecting ≡ true → joins later c h ≡ j → joins true d (appended later c h) ≡ true
joins_after later c d h true e j =
    let a = appended later c h in
    subst (λ (past : List Transaction). joins_last true d a past ≡ true)
    (sym (ap (λ (g : History). g.past) (where_collecting later c h e) ∙ ap (λ b. with_change b c h.past) j))
    (joins_the_grown later c d h a h.past j (append_leaves_the_save_point later c h e))
joins_after later c d h false e j =
    let a = appended later c h in
    subst (λ (past : List Transaction). joins_last true d a past ≡ true)
    (sym (append_begins later c h (begins_when h.collecting (joins later c h) e j)))
    (open_and_modified false (at_save_point a) (nat_lt 0 a.depth) (belongs d (c ∷ [])) refl (append_leaves_the_save_point later c h e))

-- a later step joins the transaction of the change that was appended before it
pub next_joins : (later : Bool) (c d : Change) (h : History) → h.collecting ≡ true → joins true d (appended later c h) ≡ true
next_joins later c d h e = joins_after later c d h (joins later c h) e refl

still_collecting : (later : Bool) (c : Change) (h : History) → h.collecting ≡ true → (appended later c h).collecting ≡ true
still_collecting later c h e = ap (λ (g : History). g.collecting) (where_collecting later c h e) ∙ e

-- the same number of transactions, and the same texts before them
pub record SameEarlierTexts (scene after : Scene) : Type 0 where
  pub count : length (history_of after).past ≡ length (history_of scene).past
  pub texts : (k : ℕ) → undone_text (suc k) (history_of after).past (text_of_scene after) ≡ undone_text (suc k) (history_of scene).past (text_of_scene scene)

text_after_step : (later : Bool) (step : Step) (scene : Scene) → text_of_scene (step_made later step scene) ≡ edited step (text_of_scene scene)
text_after_step later step scene = bytes_of_edited_cells step scene.document.cells

later_steps : (steps : List Step) (scene : Scene) → FitInTurn steps (text_of_scene scene) → (history_of scene).collecting ≡ true →
    ((c : Change) → joins true c (history_of scene) ≡ true) → SameEarlierTexts scene (steps_made true steps scene)
later_steps [] scene fits e j = record { count = refl; texts = λ k. refl }
later_steps (step ∷ steps) scene fits e j =
    let next = step_made true step scene in
    let h = history_of scene in
    let rest = later_steps steps next (subst (FitInTurn steps) (sym (text_after_step true step scene)) fits.1)
    (still_collecting true (TextStep step) h e) (λ c. next_joins true (TextStep step) c h e) in
    record {
      count = rest.count ∙ joined_count true (TextStep step) h e (j (TextStep step));
      texts = λ k. rest.texts k
          ∙ ap (undone_text (suc k) (appended true (TextStep step) h).past) (text_after_step true step scene)
          ∙ joined_step_keeps_earlier_texts k true step h (text_of_scene scene) fits.0 e (j (TextStep step));
    }

no_past_after_steps : (later : Bool) (steps : List Step) (scene : Scene) → (history_of scene).collecting ≡ false → (history_of scene).past ≡ [] →
    (history_of (steps_made later steps scene)).past ≡ []
no_past_after_steps later [] scene e none = none
no_past_after_steps later (step ∷ steps) scene e none =
    let h = history_of scene in
    let same = not_collecting_appends_nothing later (TextStep step) h e in
    no_past_after_steps true steps (step_made later step scene)
    (ap (λ (g : History). g.collecting) same ∙ e) (ap (λ (g : History). g.past) same ∙ none)

abbrev KeepsInScene : Scene → Scene → Type 0
KeepsInScene scene after = Keeps (history_of scene) (text_of_scene scene) (history_of after) (text_of_scene after)

steps_keep : (steps : List Step) (scene : Scene) (b : Bool) → FitInTurn steps (text_of_scene scene) → (history_of scene).collecting ≡ b →
    ((history_of scene).collecting ≡ false → (history_of scene).past ≡ []) → KeepsInScene scene (steps_made false steps scene)
steps_keep steps scene false fits e none =
    keeps_none (history_of scene) (history_of (steps_made false steps scene)) (text_of_scene scene) (text_of_scene (steps_made false steps scene))
    (no_past_after_steps false steps scene e (none e))
steps_keep [] scene true fits e none = keeps_same (history_of scene) (text_of_scene scene)
steps_keep (step ∷ steps) scene true fits e none =
    let h = history_of scene in
    let next = step_made false step scene in
    let first : Keeps h (text_of_scene scene) (history_of next) (text_of_scene next) =
    subst (Keeps h (text_of_scene scene) (appended false (TextStep step) h)) (sym (text_after_step false step scene))
    (step_keeps false step h (text_of_scene scene) (joins false (TextStep step) h) fits.0 e refl) in
    let rest = later_steps steps next (subst (FitInTurn steps) (sym (text_after_step false step scene)) fits.1)
    (still_collecting false (TextStep step) h e) (λ c. next_joins false (TextStep step) c h e) in
    keeps_then_same h (history_of next) (history_of (steps_made true steps next)) (text_of_scene scene) (text_of_scene next) (text_of_scene (steps_made true steps next))
    rest.count rest.texts first

sealed_steps_keep : (steps : List Step) (scene : Scene) → FitInTurn steps (text_of_scene scene) →
    ((history_of scene).collecting ≡ false → (history_of scene).past ≡ []) → KeepsInScene scene (sealed_scene (steps_made false steps (sealed_scene scene)))
sealed_steps_keep steps scene fits none =
    let h = history_of scene in
    let g = sealed_outside_groups h in
    let after = steps_made false steps (sealed_scene scene) in
    let s = seals_change_no_change h in
    let made = steps_keep steps (sealed_scene scene) g.collecting fits refl (λ e. no_past_sealed h g s (none (sym s.collecting ∙ e))) in
    keeps_then_sealed h (history_of after) (sealed_outside_groups (history_of after)) (text_of_scene scene) (text_of_scene after) (seals_change_no_change (history_of after))
    (sealed_then_keeps h g (history_of after) (text_of_scene scene) (text_of_scene after) s made)

pub edits_keep_earlier_texts : EditsKeepEarlierTexts
edits_keep_earlier_texts steps scene fits none =
    cond_both (nat_lt 1 (length steps)) (sealed_scene (steps_made false steps (sealed_scene scene))) (steps_made false steps scene) (λ (after : Scene). KeepsInScene scene after)
    (λ e. sealed_steps_keep steps scene fits none) (λ e. steps_keep steps scene (history_of scene).collecting fits refl none)

-- Undo and redo.

undo_keeps : (scene : Scene) (past : List Transaction) → (history_of scene).past ≡ past → KeepsInScene scene (after_undo scene)
undo_keeps scene [] e =
    let h = history_of scene in
    keeps_none h (undone h) (text_of_scene scene) (text_of_scene (after_undo scene)) (ap (λ (past : List Transaction). (undone_to h past).past) e ∙ e)
undo_keeps scene (t ∷ ts) e =
    let h = history_of scene in
    let some : 0 < length h.past = omega (arith, ap length e) in
    let moved = undo_moves_to_the_future h some in
    keeps_one_less h (undone h) (text_of_scene scene) (text_of_scene (after_undo scene)) (omega (arith, moved.past))
    (λ k. ap (undone_text k (undone h).past) (undo_makes_its_steps scene) ∙ undo_keeps_earlier_texts k h (text_of_scene scene))

pub undo_keeps_the_texts_before : UndoKeepsTheTextsBefore
undo_keeps_the_texts_before scene = undo_keeps scene (history_of scene).past refl

redo_keeps : (scene : Scene) (future : List Transaction) → (history_of scene).future ≡ future →
    FitInTurn (text_steps (redo_changes (history_of scene))) (text_of_scene scene) → KeepsInScene scene (after_redo scene)
redo_keeps scene [] e fits =
    let h = history_of scene in
    let past : (redone h).past ≡ h.past = ap (λ (future : List Transaction). (redone_from h future).past) e in
    let text : text_of_scene (after_redo scene) ≡ text_of_scene scene =
    redo_makes_its_steps scene ∙ ap (λ (future : List Transaction). after_steps (text_steps (redo_changes (record h { future = future }))) (text_of_scene scene)) e in
    keeps_as_many h (redone h) (text_of_scene scene) (text_of_scene (after_redo scene)) (ap length past)
    (λ k. ap (undone_text (suc k) (redone h).past) text ∙ ap (λ (ts : List Transaction). undone_text (suc k) ts (text_of_scene scene)) past)
redo_keeps scene (t ∷ ts) e fits =
    let h = history_of scene in
    let some : 0 < length h.future = omega (arith, ap length e) in
    let moved = redo_moves_to_the_past h some in
    keeps_one_more h (redone h) (text_of_scene scene) (text_of_scene (after_redo scene)) moved.past
    (λ k. ap (undone_text (suc k) (redone h).past) (redo_makes_its_steps scene) ∙ redo_is_one_transaction_more k h (text_of_scene scene) some fits)

pub redo_keeps_the_texts_before : RedoKeepsTheTextsBefore
redo_keeps_the_texts_before scene fits = redo_keeps scene (history_of scene).future refl fits

-- Changes that are no edit.

styled_keeps : (styles : List ℕ) (d : Document) → KeepsEarlierTexts d (styled styles d)
styled_keeps styles d = subst (Keeps d.history (text_of d) d.history) (sym (text_of_styled styles d)) (keeps_same d.history (text_of d))

sealed_keeps : (h g : History) (text : List ℕ) → SameButForSeals h g → Keeps h text g text
sealed_keeps h g text s = keeps_then_sealed h h g text text s (keeps_same h text)

collecting_keeps : (on : Bool) (h : History) (text : List ℕ) → Keeps h text (collecting_set on h) text
collecting_keeps true h text = keeps_same h text
collecting_keeps false h text = keeps_none h (collecting_set false h) text text refl

pub document_changes_keep_earlier_texts : DocumentChangesKeepEarlierTexts
document_changes_keep_earlier_texts bytes change.BeginGroup d = sealed_keeps d.history (group_begun d.history) (text_of d) (group_begun_changes_no_change d.history)
document_changes_keep_earlier_texts bytes change.EndGroup d = sealed_keeps d.history (group_ended d.history) (text_of d) (group_ended_changes_no_change d.history)
document_changes_keep_earlier_texts bytes change.ForgetHistory d = keeps_none d.history (emptied d.history) (text_of d) (text_of d) refl
document_changes_keep_earlier_texts bytes (change.CollectUndo on) d = collecting_keeps on d.history (text_of d)
document_changes_keep_earlier_texts bytes (change.AppendContainer token coalesce) d = container_step_keeps token coalesce d.history (text_of d)
document_changes_keep_earlier_texts bytes (change.StyleRun count style) d = styled_keeps (replicate count style) d
document_changes_keep_earlier_texts bytes (change.StyleBytes count) d = styled_keeps (take count bytes) d
document_changes_keep_earlier_texts bytes (change.SetReadOnly on) d = keeps_same d.history (text_of d)
document_changes_keep_earlier_texts bytes (change.SetLineEnd to) d = keeps_same d.history (text_of d)
document_changes_keep_earlier_texts bytes (change.SetLineEndTypes to) d = keeps_same d.history (text_of d)
document_changes_keep_earlier_texts bytes change.SetSavePoint d = keeps_same d.history (text_of d)
document_changes_keep_earlier_texts bytes (change.AddMarker line number) d = keeps_same d.history (text_of d)
document_changes_keep_earlier_texts bytes (change.AddMarkers line mask) d = keeps_same d.history (text_of d)
document_changes_keep_earlier_texts bytes (change.DeleteMarker line number) d = keeps_same d.history (text_of d)
document_changes_keep_earlier_texts bytes (change.DeleteMarkers number) d = keeps_same d.history (text_of d)
document_changes_keep_earlier_texts bytes (change.DeleteHandle handle) d = keeps_same d.history (text_of d)
document_changes_keep_earlier_texts bytes (change.SetLevel line level) d = keeps_same d.history (text_of d)
document_changes_keep_earlier_texts bytes (change.SetState line state) d = keeps_same d.history (text_of d)
document_changes_keep_earlier_texts bytes (change.SetEndStyled place) d = keeps_same d.history (text_of d)
document_changes_keep_earlier_texts bytes (change.NeedStyle start past) d = keeps_same d.history (text_of d)
document_changes_keep_earlier_texts bytes (change.FillIndicator indicator start count value) d = keeps_same d.history (text_of d)

-- The states of a document.

-- the latest state is the latest with its number of transactions
latest_itself : (d : Document) (states : List Document) → latest_with (length d.history.past - 0) (d ∷ states) ≡ Some (text_of d)
latest_itself d states =
    cond-true (length d.history.past == length d.history.past - 0) (Some (text_of d)) (latest_with (length d.history.past - 0) states)
    (ap (λ n. length d.history.past == n) (less_none (length d.history.past)) ∙ itself (length d.history.past))
  where
    less_none : (n : ℕ) → n - 0 ≡ n
    less_none n = omega arith

pub goes_back_at_first : GoesBackAtFirst
goes_back_at_first d states none zero within = latest_itself d states
goes_back_at_first d states none (suc k) within = absurd (omega (arith, ap length none))

-- an earlier state is the latest with n transactions, if the latest state has another number
latest_earlier : (n : ℕ) (d : Document) (states : List Document) → (length d.history.past ≡ n → ⊥) → latest_with n (d ∷ states) ≡ latest_with n states
latest_earlier n d states other = cond-false (length d.history.past == n) (Some (text_of d)) (latest_with n states) (ne_eqb (length d.history.past) n other)

pub goes_back_afterwards : GoesBackAfterwards
goes_back_afterwards old new states back keeps zero within = latest_itself new states
goes_back_afterwards old new states back keeps (suc k) within =
    let n = length old.history.past in
    let m = length new.history.past in
    let kept = keeps (suc k) (omega arith) within in
    let i = n + suc k - m in
    let low : m ≤ n + suc k = kept.0 in
    let lower : i ≤ n = omega arith in
    let same : m - suc k ≡ n - i = omega arith in
    latest_earlier (m - suc k) new states (λ e. omega arith)
    ∙ ap (λ count. latest_with count states) same
    ∙ back i lower
    ∙ ap Some (sym kept.1)
