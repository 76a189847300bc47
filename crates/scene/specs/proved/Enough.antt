-- A list of notes that can hold all notes and texts of steps can hold those of the first step, and then those of the others.
use Rattle.std.proofs.Common.{◌≡◌, ℕ, ◌≤◌, Bool, true, List, [], ◌∷◌, ◌++◌, length, subst, sym, arith, length-append}
use Rattle.ed_types.specs.Notices.{Notice}
use Rattle.ed_model.specs.Steps.{Step}
use Rattle.ed_model.specs.Performing.{Scene, step_made, steps_made}
use Rattle.notify.specs.Gathered.{Gathered, NoteCapacity}
use Rattle.scene.specs.Needs.{held_behind, held_after, CanHoldSteps}
use Rattle.scene.specs.Telling.{CanHold}

-- Notes are only appended, and texts only added.

longer : (a b c d : List Notice) → length a ≤ length (a ++ b ++ c ++ d)
longer a b c d = simp length-append (omega arith)

notes_grow : (later : Bool) (steps : List Step) (scene : Scene) → length scene.notes ≤ length (steps_made later steps scene).notes
notes_grow later [] scene = omega arith
notes_grow later (step ∷ steps) scene =
    let rest = notes_grow true steps (step_made later step scene) in
    let first : length scene.notes ≤ length (step_made later step scene).notes = longer scene.notes _ _ _ in
    omega arith

texts_grow : (later : Bool) (steps : List Step) (scene : Scene) (held : ℕ) → held ≤ held_after later steps scene held
texts_grow later [] scene held = omega arith
texts_grow later (step ∷ steps) scene held =
    let rest = texts_grow true steps (step_made later step scene) (held_behind later step scene held) in
    omega arith

pub first_held : (later : Bool) (step : Step) (steps : List Step) (scene : Scene) (g : Gathered) → CanHoldSteps later (step ∷ steps) scene g
    → CanHold g (step_made later step scene) (held_behind later step scene g.held)
first_held later step steps scene g h =
    let notes = notes_grow true steps (step_made later step scene) in
    let texts = texts_grow true steps (step_made later step scene) (held_behind later step scene g.held) in
    let a = h.0 in
    let b = h.1 in (omega arith, omega arith)

pub next_held : (later : Bool) (step : Step) (steps : List Step) (scene after : Scene) (g g' : Gathered) → CanHoldSteps later (step ∷ steps) scene g → after ≡ step_made later step scene
    → g'.capacity ≡ g.capacity → g'.held ≡ held_behind later step scene g.held → CanHoldSteps true steps after g'
next_held later step steps scene after g g' h made same held =
    subst (λ (c : NoteCapacity). (length (steps_made true steps after).notes ≤ c.notes) × (held_after true steps after g'.held ≤ c.bytes)) (sym same)
    (subst (λ n. (length (steps_made true steps after).notes ≤ g.capacity.notes) × (held_after true steps after n ≤ g.capacity.bytes)) (sym held)
    (subst (λ x. (length (steps_made true steps x).notes ≤ g.capacity.notes) × (held_after true steps x (held_behind later step scene g.held) ≤ g.capacity.bytes)) (sym made) h))
