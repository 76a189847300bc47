-- The history fits the text: after steps, after undo and redo, and after changes of the history alone.
use Rattle.ed_model.proofs.Names.{suc, zero, ◌≡◌, ℕ, ◌+◌, ◌-◌, ◌≤◌, Bool, true, false, cond, List, [], ◌∷◌, ◌++◌, length, map, reverse, refl, ap, sym, ◌∙◌, subst, arith, append_assoc, ℤ, flat_map, Option, Some, None, ◌==◌, ◌||◌, not, last_or, map-append, reverse-append, reverse-reverse, cond_both, Step, Insert, Delete, edited, inverse_of, Change, TextStep, ContainerStep, Transaction, History, appended, with_change, joins, seal_first, with_last_sealed, sealed_outside_groups, group_begun, group_ended, with_container_step, inverse_change, first_changes, undo_changes, redo_changes, undone_to, undone, redone_from, redone, emptied, not_collecting, collecting_set, saved, fresh_history, latest_text_step, after_steps, text_steps, place_behind, text_of, limit_of, CanBeUndone, IsStepOf, IsStepWithin, AreStepsOf, AreStepsWithin, undo_path, redo_path, FitsText, ThePastCanBeUndone, UndoneThenRedoneIsTheSame, fit_in_turn}
use Rattle.ed_model.specs.History
use Rattle.ed_model.proofs.TransactionLemmas.{steps_of_more_changes, steps_of_inverse_changes, steps_of_reversed_changes, inverses_of_inverses, inverses_of_reversed}
use Rattle.ed_model.proofs.UndoLemmas.{undos_then_redos_give_back_the_text, undos_then_redos_give_back_the_history}
use Rattle.ed_model.proofs.SoundSteps.{inverse_within, inverse_returns, fit_append, fit_front, fit_back, within_fits, reversed, reversed_is, reversed_within, reversed_returns, fits_range, length_after}

-- Paths.

-- the undo path of one more transaction
pub undo_path_cons : (t : Transaction) (ts : List Transaction) → undo_path (t ∷ ts) ≡ map inverse_of (text_steps t.changes) ++ undo_path ts
undo_path_cons t ts =
    ap (map inverse_of) (steps_of_more_changes t.changes (flat_map (λ (t : Transaction). t.changes) ts))
    ∙ map-append inverse_of (text_steps t.changes) (text_steps (flat_map (λ (t : Transaction). t.changes) ts))

pub redo_path_cons : (t : Transaction) (ts : List Transaction) → redo_path (t ∷ ts) ≡ text_steps (reverse t.changes) ++ redo_path ts
redo_path_cons t ts = steps_of_more_changes (reverse t.changes) (flat_map (λ (t : Transaction). reverse t.changes) ts)

pub undo_path_sealed : (ts : List Transaction) → undo_path (seal_first ts) ≡ undo_path ts
undo_path_sealed [] = refl
undo_path_sealed (t ∷ ts) = refl

changes_with : (joined : Bool) (c : Change) (ts : List Transaction)
    → flat_map (λ (t : Transaction). t.changes) (with_change joined c ts) ≡ c ∷ flat_map (λ (t : Transaction). t.changes) ts
changes_with joined c [] = refl
changes_with true c (t ∷ ts) = refl
changes_with false c (t ∷ ts) = refl

-- Changes of the history alone.

pub fresh_fits : {limit : ℕ} (text : List ℕ) → FitsText limit text fresh_history
fresh_fits text = record { past = tt; future = tt; kept = λ e. (refl, refl) }

pub emptied_fits : {limit : ℕ} (text : List ℕ) (h : History) → FitsText limit text (emptied h)
emptied_fits text h = record { past = tt; future = tt; kept = λ e. (refl, refl) }

pub collecting_set_fits : {limit : ℕ} (on : Bool) (text : List ℕ) (h : History) → FitsText limit text h → FitsText limit text (collecting_set on h)
collecting_set_fits true text h f = record { past = f.past; future = f.future; kept = λ e. absurd (cc) }
collecting_set_fits false text h f = record { past = tt; future = tt; kept = λ e. (refl, refl) }

pub saved_fits : {limit : ℕ} (text : List ℕ) (h : History) → FitsText limit text h → FitsText limit text (saved h)
saved_fits text h f = record { past = f.past; future = f.future; kept = f.kept }

pub with_depth_fits : {limit : ℕ} (text : List ℕ) (h : History) (n : ℕ) → FitsText limit text h → FitsText limit text (record h { depth = n })
with_depth_fits text h n f = record { past = f.past; future = f.future; kept = f.kept }

pub last_sealed_fits : {limit : ℕ} (text : List ℕ) (h : History) → FitsText limit text h → FitsText limit text (with_last_sealed h)
last_sealed_fits {limit} text h f = record {
  past = subst (λ p. AreStepsWithin limit text p) (sym (undo_path_sealed h.past)) f.past;
  future = f.future;
  kept = λ e. (ap seal_first (f.kept e).0, (f.kept e).1);
}

pub sealed_fits : {limit : ℕ} (text : List ℕ) (h : History) → FitsText limit text h → FitsText limit text (sealed_outside_groups h)
sealed_fits {limit} text h f = cond_both (h.depth == 0) (with_last_sealed h) h (λ g. FitsText limit text g) (λ _. last_sealed_fits text h f) (λ _. f)

pub group_begun_fits : {limit : ℕ} (text : List ℕ) (h : History) → FitsText limit text h → FitsText limit text (group_begun h)
group_begun_fits {limit} text h f = with_depth_fits text (sealed_outside_groups h) (h.depth + 1) (sealed_fits text h f)

pub group_ended_fits : {limit : ℕ} (text : List ℕ) (h : History) → FitsText limit text h → FitsText limit text (group_ended h)
group_ended_fits {limit} text h f =
    cond_both (h.depth == 0) h (sealed_outside_groups (record h { depth = h.depth - 1 })) (λ g. FitsText limit text g)
    (λ _. f) (λ _. sealed_fits text (record h { depth = h.depth - 1 }) (with_depth_fits text h (h.depth - 1) f))

-- A change appended.

-- appending a step of the text, on the text after the step
pub appended_fits : {limit : ℕ} (later : Bool) (step : Step) (text : List ℕ) (h : History) → FitsText limit text h → IsStepOf text step → length text ≤ limit
    → FitsText limit (edited step text) (appended later (TextStep step) h)
appended_fits {limit} later step text h f fits bounded = go h.collecting refl
  where
    go : (b : Bool) → h.collecting ≡ b → FitsText limit (edited step text) (cond b
        (record h { past = with_change (joins later (TextStep step) h) (TextStep step) h.past; future = []; save_point = History.reachable (length h.past) h.save_point }) h)
    go true e = record {
      past = subst (λ cs. AreStepsWithin limit (edited step text) (map inverse_of (text_steps cs))) (sym (changes_with (joins later (TextStep step) h) (TextStep step) h.past))
          (inverse_within step text fits bounded, subst (λ t. AreStepsWithin limit t (undo_path h.past)) (sym (inverse_returns step text fits)) f.past);
      future = tt;
      kept = λ no. let bad : true ≡ false = sym e ∙ no in absurd (cc);
    }
    go false e = let k = f.kept e in record {
      past = subst (λ ts. AreStepsWithin limit (edited step text) (undo_path ts)) (sym k.0) tt;
      future = subst (λ ts. AreStepsWithin limit (edited step text) (redo_path ts)) (sym k.1) tt;
      kept = f.kept;
    }

-- appending a container's step
pub container_fits : {limit : ℕ} (later : Bool) (token : ℤ) (coalesce : Bool) (text : List ℕ) (h : History) → FitsText limit text h
    → FitsText limit text (appended later (ContainerStep token coalesce) h)
container_fits {limit} later token coalesce text h f = go h.collecting refl
  where
    go : (b : Bool) → h.collecting ≡ b → FitsText limit text (cond b
        (record h { past = with_change (joins later (ContainerStep token coalesce) h) (ContainerStep token coalesce) h.past; future = []; save_point = History.reachable (length h.past) h.save_point }) h)
    go true e = record {
      past = subst (λ cs. AreStepsWithin limit text (map inverse_of (text_steps cs))) (sym (changes_with (joins later (ContainerStep token coalesce) h) (ContainerStep token coalesce) h.past)) f.past;
      future = tt;
      kept = λ no. let bad : true ≡ false = sym e ∙ no in absurd (cc);
    }
    go false e = f

pub container_step_fits : {limit : ℕ} (token : ℤ) (coalesce : Bool) (text : List ℕ) (h : History) → FitsText limit text h → FitsText limit text (with_container_step token coalesce h)
container_step_fits {limit} token coalesce text h f =
    let a = container_fits false token coalesce text h f in
    cond_both (coalesce || not h.collecting) (appended false (ContainerStep token coalesce) h) (sealed_outside_groups (appended false (ContainerStep token coalesce) h))
    (λ g. FitsText limit text g) (λ _. a) (λ _. sealed_fits text (appended false (ContainerStep token coalesce) h) a)

-- Undo and redo.

undo_fits_from : {limit : ℕ} (text : List ℕ) (h : History) (ts : List Transaction) → h.past ≡ ts → FitsText limit text h
    → AreStepsWithin limit text (text_steps (map inverse_change (first_changes ts)))
undo_fits_from {limit} text h [] e f = tt
undo_fits_from {limit} text h (t ∷ ts) e f =
    subst (λ ss. AreStepsWithin limit text ss) (sym (steps_of_inverse_changes t.changes))
    (fit_front (IsStepWithin limit) (map inverse_of (text_steps t.changes)) (undo_path ts) text
    (subst (λ ss. AreStepsWithin limit text ss) (undo_path_cons t ts) (subst (λ p. AreStepsWithin limit text (undo_path p)) e f.past)))

-- the steps of UNDO fit the text
pub undo_fits : {limit : ℕ} (text : List ℕ) (h : History) → FitsText limit text h → AreStepsWithin limit text (text_steps (undo_changes h))
undo_fits text h f = undo_fits_from text h h.past refl f

undone_fits_from : {limit : ℕ} (text : List ℕ) (h : History) (ts : List Transaction) → h.past ≡ ts → FitsText limit text h → length text ≤ limit
    → FitsText limit (after_steps (text_steps (map inverse_change (first_changes ts))) text) (undone_to h ts)
undone_fits_from {limit} text h [] e f bounded = f
undone_fits_from {limit} text h (t ∷ ts) e f bounded =
    let us = map inverse_of (text_steps t.changes) in
    let path : AreStepsWithin limit text (us ++ undo_path ts) = subst (λ ss. AreStepsWithin limit text ss) (undo_path_cons t ts) (subst (λ p. AreStepsWithin limit text (undo_path p)) e f.past) in
    let front = fit_front (IsStepWithin limit) us (undo_path ts) text path in
    let back = fit_back (IsStepWithin limit) us (undo_path ts) text path in
    let again : reversed us ≡ text_steps (reverse t.changes) = reversed_is us ∙ ap reverse (inverses_of_inverses (text_steps t.changes)) ∙ sym (steps_of_reversed_changes t.changes) in
    let redone : AreStepsWithin limit (after_steps us text) (reversed us ++ redo_path h.future) =
    fit_append (IsStepWithin limit) (reversed us) (redo_path h.future) (after_steps us text) (reversed_within us text front bounded)
    (subst (λ x. AreStepsWithin limit x (redo_path h.future)) (sym (reversed_returns us text (within_fits limit us text front))) f.future) in
    subst (λ ss. FitsText limit (after_steps ss text) (undone_to h (t ∷ ts))) (sym (steps_of_inverse_changes t.changes)) (record {
      past = subst (λ p. AreStepsWithin limit (after_steps us text) p) (sym (undo_path_sealed ts)) back;
      future = subst (λ p. AreStepsWithin limit (after_steps us text) p) (ap (λ p. p ++ redo_path h.future) again ∙ sym (redo_path_cons t h.future)) redone;
      kept = λ no. let bad : t ∷ ts ≡ [] = sym e ∙ (f.kept no).0 in absurd (cc);
    })

-- the history after UNDO fits the text after it
pub undone_fits : {limit : ℕ} (text : List ℕ) (h : History) → FitsText limit text h → length text ≤ limit → FitsText limit (after_steps (text_steps (undo_changes h)) text) (undone h)
undone_fits text h f bounded = undone_fits_from text h h.past refl f bounded

redo_fits_from : {limit : ℕ} (text : List ℕ) (h : History) (ts : List Transaction) → h.future ≡ ts → FitsText limit text h
    → AreStepsWithin limit text (text_steps (reverse (first_changes ts)))
redo_fits_from {limit} text h [] e f = tt
redo_fits_from {limit} text h (t ∷ ts) e f =
    fit_front (IsStepWithin limit) (text_steps (reverse t.changes)) (redo_path ts) text
    (subst (λ ss. AreStepsWithin limit text ss) (redo_path_cons t ts) (subst (λ p. AreStepsWithin limit text (redo_path p)) e f.future))

-- the steps of REDO fit the text
pub redo_fits : {limit : ℕ} (text : List ℕ) (h : History) → FitsText limit text h → AreStepsWithin limit text (text_steps (redo_changes h))
redo_fits text h f = redo_fits_from text h h.future refl f

redone_fits_from : {limit : ℕ} (text : List ℕ) (h : History) (ts : List Transaction) → h.future ≡ ts → FitsText limit text h → length text ≤ limit
    → FitsText limit (after_steps (text_steps (reverse (first_changes ts))) text) (redone_from h ts)
redone_fits_from {limit} text h [] e f bounded = f
redone_fits_from {limit} text h (t ∷ ts) e f bounded =
    let rs = text_steps (reverse t.changes) in
    let path : AreStepsWithin limit text (rs ++ redo_path ts) = subst (λ ss. AreStepsWithin limit text ss) (redo_path_cons t ts) (subst (λ p. AreStepsWithin limit text (redo_path p)) e f.future) in
    let front = fit_front (IsStepWithin limit) rs (redo_path ts) text path in
    let back = fit_back (IsStepWithin limit) rs (redo_path ts) text path in
    let again : reversed rs ≡ map inverse_of (text_steps t.changes) =
    reversed_is rs ∙ ap (λ ss. reverse (map inverse_of ss)) (steps_of_reversed_changes t.changes)
    ∙ ap reverse (inverses_of_reversed (text_steps t.changes)) ∙ reverse-reverse (map inverse_of (text_steps t.changes)) in
    let undone : AreStepsWithin limit (after_steps rs text) (reversed rs ++ undo_path h.past) =
    fit_append (IsStepWithin limit) (reversed rs) (undo_path h.past) (after_steps rs text) (reversed_within rs text front bounded)
    (subst (λ x. AreStepsWithin limit x (undo_path h.past)) (sym (reversed_returns rs text (within_fits limit rs text front))) f.past) in
    record {
      past = subst (λ p. AreStepsWithin limit (after_steps rs text) p) (ap (λ p. p ++ undo_path h.past) again ∙ sym (undo_path_cons t h.past)) undone;
      future = back;
      kept = λ no. let bad : t ∷ ts ≡ [] = sym e ∙ (f.kept no).1 in absurd (cc);
    }

-- the history after REDO fits the text after it
pub redone_fits : {limit : ℕ} (text : List ℕ) (h : History) → FitsText limit text h → length text ≤ limit → FitsText limit (after_steps (text_steps (redo_changes h)) text) (redone h)
redone_fits text h f bounded = redone_fits_from text h h.future refl f bounded

-- The caret after the last step.

-- the place after the step, if there is one, is at most n
abbrev pub BehindWithin : Option Step → ℕ → Type 0
BehindWithin None n = Unit {0}
BehindWithin (Some step) n = place_behind step ≤ n

behind_within : (step : Step) (text : List ℕ) → IsStepOf text step → place_behind step ≤ length (edited step text)
behind_within (Insert p bytes) text f = let e = length_after (Insert p bytes) text f.0 in let h : p ≤ length text = f.0 in omega arith
behind_within (Delete p bytes) text f =
    let r : p + length bytes ≤ length text = fits_range text (Delete p bytes) f in
    let e = length_after (Delete p bytes) text r in omega arith

pub last_behind : (steps : List Step) (text : List ℕ) (o : Option Step) → AreStepsOf text steps → BehindWithin o (length text)
    → BehindWithin (last_or o steps) (length (after_steps steps text))
last_behind [] text o f b = b
last_behind (x ∷ xs) text o f b = last_behind xs (edited x text) (Some x) f.1 (behind_within x text f.0)

latest_of_reversed : (cs ds : List Change) → latest_text_step (reverse cs ++ ds) ≡ last_or (latest_text_step ds) (text_steps cs)
latest_of_reversed [] ds = refl
latest_of_reversed (TextStep step ∷ cs) ds =
    ap (λ t. latest_text_step (t ++ ds)) (reverse-append (TextStep step ∷ []) cs)
    ∙ ap latest_text_step (append_assoc (reverse cs) (TextStep step ∷ []) ds) ∙ latest_of_reversed cs (TextStep step ∷ ds)
latest_of_reversed (ContainerStep token coalesce ∷ cs) ds =
    ap (λ t. latest_text_step (t ++ ds)) (reverse-append (ContainerStep token coalesce ∷ []) cs)
    ∙ ap latest_text_step (append_assoc (reverse cs) (ContainerStep token coalesce ∷ []) ds) ∙ latest_of_reversed cs (ContainerStep token coalesce ∷ ds)

append_nothing : (cs : List Change) → cs ++ [] ≡ cs
append_nothing [] = refl
append_nothing (c ∷ cs) = ap (λ t. c ∷ t) (append_nothing cs)

pub latest_is_last : (cs : List Change) → latest_text_step (reverse cs) ≡ last_or None (text_steps cs)
latest_is_last cs = ap latest_text_step (sym (append_nothing (reverse cs))) ∙ latest_of_reversed cs []

-- Undoing all the past.

can_be_undone : (k : ℕ) (ts : List Transaction) (text : List ℕ) → k ≤ length ts → AreStepsOf text (undo_path ts) → CanBeUndone k ts text
can_be_undone zero ts text le f = tt
can_be_undone (suc k) [] text le f = absurd (omega arith)
can_be_undone (suc k) (t ∷ ts) text le f =
    let steps = text_steps (map inverse_change t.changes) in
    let path : AreStepsOf text (steps ++ undo_path ts) =
    subst (λ ss. AreStepsOf text ss) (undo_path_cons t ts ∙ ap (λ us. us ++ undo_path ts) (sym (steps_of_inverse_changes t.changes))) f in
    (fit_in_turn steps text (fit_front IsStepOf steps (undo_path ts) text path), can_be_undone k ts (after_steps steps text) (omega arith) (fit_back IsStepOf steps (undo_path ts) text path))

pub the_past_can_be_undone : ThePastCanBeUndone
the_past_can_be_undone limits d k h le = can_be_undone k d.history.past (text_of d) le (within_fits (limit_of limits d) (undo_path d.history.past) (text_of d) h.history.past)

pub undone_then_redone_is_the_same : UndoneThenRedoneIsTheSame
undone_then_redone_is_the_same limits scene k h le =
    let can = the_past_can_be_undone limits scene.document k h le in
    (undos_then_redos_give_back_the_text k scene can, undos_then_redos_give_back_the_history k scene can)
