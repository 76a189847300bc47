-- Steps that the history lends.
use Rattle.document.proofs.Names.{◌≡◌, ℕ, List, Option, Some, None, IsSomeAnd, refl, sym, subst, text_of, Step, Insert, Delete, LineEndTypes, Kept, CanMake, IsLentOf}
use Rattle.ed_model.specs.History.{Change, TextStep, ContainerStep}
use Rattle.ed_model.specs.InverseLaws.{Fits}
use Rattle.document.specs.declared.text_step.TextStep.{TextStep as Lent}
use Rattle.document.specs.declared.text_step.TextStep.TheVariants as lent
use Rattle.document.specs.declared.need.DocumentNeed.{DocumentNeed}
use Rattle.document.specs.Kept.{HasTextRoom}
use Rattle.document.specs.TextSteps.{need_of, need_of_step, need_on, step_in}

-- it is the step of the change, if that one fits the text
step_of_lent : (step : Lent) (made : Step) (text : List ℕ) → IsLentOf (Some step) (TextStep made) → Fits made text → step_in step text ≡ made
step_of_lent (lent.Insert place bytes) (Insert p bs) text is fits = rw (is.0, is.1) refl
step_of_lent (lent.Insert place bytes) (Delete p bs) text is fits = elim is [ ]
step_of_lent (lent.Delete place count) (Insert p bs) text is fits = elim is [ ]
step_of_lent (lent.Delete place count) (Delete p bs) text is fits = rw (is.0, is.1, fits.1) refl

-- the same for the change at a place
pub lent_step :
    (k : Kept) (at : Option Change) (step : Lent) (made : Step) → IsSomeAnd at (CanMake k) → IsSomeAnd at (IsLentOf (Some step)) → at ≡ Some (TextStep made)
    → step_in step (text_of k.document) ≡ made
lent_step k at step made can is there =
    let fits : CanMake k (TextStep made) = subst (λ o. IsSomeAnd o (CanMake k)) there can in
    step_of_lent step made (text_of k.document) (subst (λ o. IsSomeAnd o (IsLentOf (Some step))) there is) fits.0

-- the document has room for it
need_of_lent : (step : Lent) (made : Step) (types : LineEndTypes) → IsLentOf (Some step) (TextStep made) → need_of types step ≡ need_of_step types made
need_of_lent (lent.Insert place bytes) (Insert p bs) types is = rw is.1 refl
need_of_lent (lent.Insert place bytes) (Delete p bs) types is = elim is [ ]
need_of_lent (lent.Delete place count) (Insert p bs) types is = elim is [ ]
need_of_lent (lent.Delete place count) (Delete p bs) types is = rw is.1 refl

room_of_lent : (k : Kept) (step : Lent) (change : Change) → CanMake k change → IsLentOf (Some step) change → HasTextRoom (need_on k step) k
room_of_lent k step (TextStep made) can is = subst (λ (need : DocumentNeed). HasTextRoom need k) (sym (need_of_lent step made k.document.line_end_types is)) can.1
room_of_lent k step (ContainerStep token coalesce) can is = elim can [ ]

pub lent_room : (k : Kept) (at : Option Change) (step : Lent) → IsSomeAnd at (CanMake k) → IsSomeAnd at (IsLentOf (Some step)) → HasTextRoom (need_on k step) k
lent_room k (Some change) step can is = room_of_lent k step change can is
lent_room k None step can is = elim can [ ]
