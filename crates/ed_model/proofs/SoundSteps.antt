-- Steps that can be performed on a text: lengths, inverses, and the steps of a replacement and of a conversion.
use Rattle.ed_model.proofs.Names.{◌≡◌, ℕ, suc, ◌+◌, ◌-◌, ◌<◌, ◌≤◌, List, [], ◌∷◌, ◌++◌, length, map, take, drop, reverse, refl, ap, sym, ◌∙◌, subst, arith, length-append, length-take, length-drop, slice_range, reverse-append, Step, Insert, Delete, edited, inverse_of, replacement, deletion, insertion, after_steps, size_after, IsStepOf, IsStepWithin, InTurn, AreStepsOf, AreStepsWithin, length_slice}
use Rattle.ed_model.proofs.InverseLemmas.{inverse_fits, inverse_gives_back_the_text, steps_after_steps}

-- a step whose place, and the range that it deletes, is within n bytes
abbrev pub InRange : ℕ → Step → Type 0
InRange n (Insert p bytes) = p ≤ n
InRange n (Delete p bytes) = p + length bytes ≤ n

pub fits_range : (text : List ℕ) (step : Step) → IsStepOf text step → InRange (length text) step
fits_range text (Insert p bytes) f = f.0
fits_range text (Delete p bytes) f =
    let e = ap length f.0.1 in
    let le : p ≤ length text = f.0.0 in
    let e2 = length-take (p + length bytes - p) (drop p text) in
    let e3 = length-drop p text in
    let h : 0 < length bytes = f.1 in
    omega arith

-- the length after a step
pub length_edited : {A : Type 0} (n p : ℕ) (xs ys : List A) → length ys ≡ n → p ≤ length xs → length (take p xs ++ ys ++ drop p xs) ≡ length xs + n
length_edited n p xs ys e h = simp (length-append, length-take, length-drop) (omega arith)

pub length_deleted : {A : Type 0} (n p : ℕ) (xs : List A) → p + n ≤ length xs → length (take p xs ++ drop (p + n) xs) ≡ length xs - n
length_deleted n p xs h = simp (length-append, length-take, length-drop) (omega arith)

pub length_after : (step : Step) (text : List ℕ) → InRange (length text) step → length (edited step text) ≡ size_after (length text) step
length_after (Insert p bytes) text h = length_edited (length bytes) p text bytes refl h
length_after (Delete p bytes) text h = length_deleted (length bytes) p text h

-- the inverse of a step can be performed after it
pub inverse_is_step : (step : Step) (text : List ℕ) → IsStepOf text step → IsStepOf (edited step text) (inverse_of step)
inverse_is_step (Insert p bytes) text f = (inverse_fits (Insert p bytes) text f.0, f.1)
inverse_is_step (Delete p bytes) text f = (inverse_fits (Delete p bytes) text f.0, f.1)

pub inverse_returns : (step : Step) (text : List ℕ) → IsStepOf text step → edited (inverse_of step) (edited step text) ≡ text
inverse_returns step text f = inverse_gives_back_the_text step text f.0

-- steps that can be performed one after another
pub fit_append : (IsSo : List ℕ → Step → Type 0) (xs ys : List Step) (text : List ℕ) → InTurn IsSo text xs → InTurn IsSo (after_steps xs text) ys → InTurn IsSo text (xs ++ ys)
fit_append IsSo [] ys text f g = g
fit_append IsSo (x ∷ xs) ys text f g = (f.0, fit_append IsSo xs ys (edited x text) f.1 g)

pub fit_front : (IsSo : List ℕ → Step → Type 0) (xs ys : List Step) (text : List ℕ) → InTurn IsSo text (xs ++ ys) → InTurn IsSo text xs
fit_front IsSo [] ys text f = tt
fit_front IsSo (x ∷ xs) ys text f = (f.0, fit_front IsSo xs ys (edited x text) f.1)

pub fit_back : (IsSo : List ℕ → Step → Type 0) (xs ys : List Step) (text : List ℕ) → InTurn IsSo text (xs ++ ys) → InTurn IsSo (after_steps xs text) ys
fit_back IsSo [] ys text f = f
fit_back IsSo (x ∷ xs) ys text f = fit_back IsSo xs ys (edited x text) f.1

-- steps that keep the text within a limit can be performed
pub within_fits : (limit : ℕ) (steps : List Step) (text : List ℕ) → AreStepsWithin limit text steps → AreStepsOf text steps
within_fits limit [] text f = tt
within_fits limit (x ∷ xs) text f = (f.0.0, within_fits limit xs (edited x text) f.1)

-- the inverses, the last step's first
abbrev pub reversed : List Step → List Step
reversed [] = []
reversed (x ∷ xs) = reversed xs ++ inverse_of x ∷ []

pub reversed_is : (xs : List Step) → reversed xs ≡ reverse (map inverse_of xs)
reversed_is [] = refl
reversed_is (x ∷ xs) = rw (reversed_is xs) (sym (reverse-append (inverse_of x ∷ []) (map inverse_of xs)))

pub reversed_returns : (steps : List Step) (text : List ℕ) → AreStepsOf text steps → after_steps (reversed steps) (after_steps steps text) ≡ text
reversed_returns [] text f = refl
reversed_returns (x ∷ xs) text f =
    steps_after_steps (reversed xs) (inverse_of x ∷ []) (after_steps xs (edited x text))
    ∙ ap (edited (inverse_of x)) (reversed_returns xs (edited x text) f.1)
    ∙ inverse_returns x text f.0

-- the inverse of a step leads back to a text within the limit
pub inverse_within : {limit : ℕ} (step : Step) (text : List ℕ) → IsStepOf text step → length text ≤ limit → IsStepWithin limit (edited step text) (inverse_of step)
inverse_within step text f h = (inverse_is_step step text f, rw (inverse_returns step text f) h)

-- inverses keep the text within the limit too
pub reversed_within : {limit : ℕ} (steps : List Step) (text : List ℕ) → AreStepsWithin limit text steps → length text ≤ limit → AreStepsWithin limit (after_steps steps text) (reversed steps)
reversed_within [] text f h = tt
reversed_within {limit} (x ∷ xs) text f h =
    fit_append (IsStepWithin limit) (reversed xs) (inverse_of x ∷ []) (after_steps xs (edited x text))
    (reversed_within xs (edited x text) f.1 f.0.1)
    (subst (λ t. AreStepsWithin limit t (inverse_of x ∷ [])) (sym (reversed_returns xs (edited x text) (within_fits limit xs (edited x text) f.1))) (inverse_within x text f.0.0 h, tt))

-- a replacement can be performed
pub insertion_fits : (p : ℕ) (bytes text : List ℕ) → p ≤ length text → AreStepsOf text (insertion p bytes)
insertion_fits p [] text h = tt
insertion_fits p (b ∷ bs) text h = ((h, (let g : 0 < suc (length bs) = omega arith in g)), tt)

pub length_insertion : (p : ℕ) (bytes text : List ℕ) → p ≤ length text → length (after_steps (insertion p bytes) text) ≡ length text + length bytes
length_insertion p [] text h = omega arith
length_insertion p (b ∷ bs) text h = length_edited (length (b ∷ bs)) p text (b ∷ bs) refl h

deletion_fits : (p count : ℕ) (bytes text : List ℕ) → p + count ≤ length text → slice_range text p (p + count) ≡ bytes → length bytes ≡ count
    → AreStepsOf text (deletion p bytes) × (length (after_steps (deletion p bytes) text) ≡ length text - count)
deletion_fits p count [] text h s e = (tt, omega arith)
deletion_fits p count (b ∷ bs) text h s e =
    let n : count ≡ length (b ∷ bs) = sym e in (
      ((((let le : p ≤ length text = omega arith in le), subst (λ k. slice_range text p (p + k) ≡ b ∷ bs) n s), (let g : 0 < suc (length bs) = omega arith in g)), tt),
      rw n (length_deleted (length (b ∷ bs)) p text (subst (λ k. p + k ≤ length text) n h)),
    )

pub replacement_fits : (start count : ℕ) (bytes text : List ℕ) → start + count ≤ length text → AreStepsOf text (replacement start count bytes text)
replacement_fits start count bytes text h =
    let d = deletion_fits start count (slice_range text start (start + count)) text h refl (length_slice text start count h) in
    let n : length (after_steps (deletion start (slice_range text start (start + count))) text) ≡ length text - count = d.1 in
    fit_append IsStepOf (deletion start (slice_range text start (start + count))) (insertion start bytes) text d.0
    (insertion_fits start bytes _ (omega arith))

pub length_replacement : (start count : ℕ) (bytes text : List ℕ) → start + count ≤ length text
    → length (after_steps (replacement start count bytes text) text) ≡ length text - count + length bytes
length_replacement start count bytes text h =
    let d = deletion_fits start count (slice_range text start (start + count)) text h refl (length_slice text start count h) in
    let deleted : List ℕ = after_steps (deletion start (slice_range text start (start + count))) text in
    let n : length deleted ≡ length text - count = d.1 in
    rw (steps_after_steps (deletion start (slice_range text start (start + count))) (insertion start bytes) text)
    (length_insertion start bytes deleted (omega arith) ∙ ap (λ k. k + length bytes) n)
