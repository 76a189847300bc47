-- The steps among the changes that undo or redo performs.
use Rattle.scene.proofs.Names.{◌≡◌, ℕ, suc, ◌+◌, ◌-◌, ◌^◌, ◌<◌, ◌≤◌, Bool, List, ◌∷◌, length, drop, refl, ap, sym, ◌∙◌, subst, arith, drop-cons, slice_range, slice_get, Option, Some, IsSomeAnd, length-drop, length-take, slice_get_within, get_or_from_slice_get, LineEndTypes, Step, place_of, step_bytes, edited, CellsFollowBytes, Change, ContainerStep, end_of, Document, View, text_of, AreStepsOf, text_steps, Scene, document_after, change_performed, length_slice, step_in, IsStepOn, need_of_step, outline_of, movement_of, count_of, IsSmallStep, hearers, note_room, bytes_of_change, notes_of_change, outline_kinds, outline_movement, performed_kinds, ChangeFits}
use Rattle.ed_model.specs.Steps as model
use Rattle.ed_model.specs.History.{TextStep as Text}
use Rattle.ed_model.specs.InverseLaws.{Fits}
use Rattle.document.specs.declared.text_step.TextStep.{TextStep}
use Rattle.document.specs.declared.text_step.TextStep.TheVariants.{Insert, Delete}

-- A step of a change.

-- the value of an option has the property that the option has
pub some_has : {X : Type 0} (o : Option X) (P : X → Type 0) (x : X) → o ≡ Some x → IsSomeAnd o P → P x
some_has o P x e h = subst (λ p. IsSomeAnd p P) e h

length_part : (text : List ℕ) (p n : ℕ) → length (slice_range text p (p + n)) ≤ length text - p
length_part text p n = simp (length-take, length-drop) (omega arith)

-- the bytes that a step deletes are in the text
pub deletes_within : (p : ℕ) (bytes text : List ℕ) → Fits (model.Delete p bytes) text → p + length bytes ≤ length text
deletes_within p bytes text fits =
    let n = length_part text p (length bytes) in
    let e = ap length fits.1 in
    let w : p ≤ length text = fits.0 in
    omega arith

-- a step ends in the text
pub ends_in_text : (s : Step) (text : List ℕ) → Fits s text → end_of s ≤ length text
ends_in_text (model.Insert p bytes) text fits = fits
ends_in_text (model.Delete p bytes) text fits = deletes_within p bytes text fits

-- The outline of a step: the kinds of its notes, and its movement of positions.

pub outline_kinds_are : (who : ℕ) (s : Step) → outline_kinds who (outline_of (Text s)) ≡ performed_kinds who s
outline_kinds_are who (model.Insert p bytes) = refl
outline_kinds_are who (model.Delete p bytes) = refl

-- a change that no view hears needs no note
pub needs_no_note : (who : ℕ) (c : Change) (views : List View) → hearers (outline_kinds who (outline_of c)) views ≡ 0
    → note_room 0 0 ≡ note_room (notes_of_change views who c) (bytes_of_change views who c)
needs_no_note who (Text (model.Insert p bytes)) views none = rw none refl
needs_no_note who (Text (model.Delete p bytes)) views none = rw none refl
needs_no_note who (ContainerStep token coalesce) views none = rw none refl

pub outline_movement_is : (s : Step) → outline_movement (outline_of (Text s)) ≡ movement_of s
outline_movement_is (model.Insert p bytes) = refl
outline_movement_is (model.Delete p bytes) = refl

-- The remaining changes.

pub drop_some : {X : Type 0} (xs : List X) (i : ℕ) (x : X) → slice_get xs i ≡ Some x → drop i xs ≡ x ∷ drop (i + 1) xs
drop_some xs i x e =
    let s : i + 1 ≡ suc i = omega arith in
    rw s (drop-cons xs i x (slice_get_within xs i x e) ∙ ap (λ y. y ∷ drop (suc i) xs) (get_or_from_slice_get xs i x x e))

-- the next change fits, and the changes after it fit the text that it leaves
pub next_fits : (c : Change) (cs : List Change) (text : List ℕ) → AreStepsOf text (text_steps (c ∷ cs)) → ChangeFits c text
next_fits (Text s) cs text all = all.0.0
next_fits (ContainerStep token coalesce) cs text all = tt

pub text_after : CellsFollowBytes → (s : Step) (d : Document) → text_of (document_after s d) ≡ edited s (text_of d)
text_after law s d = law s d.cells

pub steps_left : CellsFollowBytes → (who several : ℕ) (last changed : Bool) (c : Change) (cs : List Change) (scene : Scene)
    → AreStepsOf (text_of scene.document) (text_steps (c ∷ cs))
    → AreStepsOf (text_of (change_performed who several last changed c scene).document) (text_steps cs)
steps_left law who several last changed (Text s) cs scene all = subst (λ text. AreStepsOf text (text_steps cs)) (sym (text_after law s scene.document)) all.1
steps_left law who several last changed (ContainerStep token coalesce) cs scene all = all

-- The numbers of a step that has its room are small.

pub small_count : (types : LineEndTypes) (s : Step) (text : List ℕ) → Fits s text → length text + (need_of_step types s).text < 2 ^ 61
    → length text + count_of (movement_of s) < 2 ^ 64
small_count types (model.Insert p bytes) text fits bound = omega arith
small_count types (model.Delete p bytes) text fits bound = let w = deletes_within p bytes text fits in omega arith

pub small_fits : (types : LineEndTypes) (s : Step) (text : List ℕ) → Fits s text → length text + (need_of_step types s).text < 2 ^ 61
    → (place_of s < 2 ^ 63) × (length (step_bytes s) < 2 ^ 63)
small_fits types (model.Insert p bytes) text fits bound = let within : p ≤ length text = fits in (omega arith, omega arith)
small_fits types (model.Delete p bytes) text fits bound = let w = deletes_within p bytes text fits in (omega arith, omega arith)

-- the numbers of a lent step are those of the step that it stands for
pub small_lent : (step : TextStep) (s : Step) (text : List ℕ) → step_in step text ≡ s → IsStepOn step (length text) → place_of s < 2 ^ 63
    → length (step_bytes s) < 2 ^ 63 → IsSmallStep step
small_lent (Insert p bytes) s text e on place count = (subst (λ (x : Step). place_of x < 2 ^ 63) (sym e) place, subst (λ (x : Step). length (step_bytes x) < 2 ^ 63) (sym e) count)
small_lent (Delete p n) s text e on place count =
    let l = length_slice text p n on in
    let c : length (slice_range text p (p + n)) < 2 ^ 63 = subst (λ (x : Step). length (step_bytes x) < 2 ^ 63) (sym e) count in
    (subst (λ (x : Step). place_of x < 2 ^ 63) (sym e) place, omega arith)

-- an index of a history has one step
pub step_same : (o : Option Change) (s s' : Step) → o ≡ Some (Text s) → o ≡ Some (Text s') → s ≡ s'
step_same o s s' a b = let e : Some (Text s) ≡ Some (Text s') = sym a ∙ b in cc
