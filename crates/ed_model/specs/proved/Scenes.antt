-- The document of a scene after the steps of an edit: its id stays, and its text is the text after the steps.
use Rattle.std.proofs.Common.{◌≡◌, Bool, false, true, List, [], ◌∷◌, length, nat_lt, refl, ap, ◌∙◌}
use Rattle.std.proofs.lemmas.Bool.{cond_both}
use Rattle.ed_model.specs.Steps.{Step}
use Rattle.ed_model.specs.LineEnds.{after_steps}
use Rattle.ed_model.specs.Session.{text_of}
use Rattle.ed_model.specs.Performing.{Scene, step_made, steps_made, sealed_scene, edit_made}
use Rattle.ed_model.specs.proved.Steps.{bytes_of_edited_cells}

pub steps_made_id : (later : Bool) (steps : List Step) (scene : Scene) → (steps_made later steps scene).document.id ≡ scene.document.id
steps_made_id later [] scene = refl
steps_made_id later (step ∷ steps) scene = steps_made_id true steps (step_made later step scene)

pub edit_made_id : (steps : List Step) (scene : Scene) → (edit_made steps scene).document.id ≡ scene.document.id
edit_made_id steps scene =
    cond_both (nat_lt 1 (length steps)) (sealed_scene (steps_made false steps (sealed_scene scene))) (steps_made false steps scene)
    (λ (x : Scene). x.document.id ≡ scene.document.id)
    (λ e. steps_made_id false steps (sealed_scene scene)) (λ e. steps_made_id false steps scene)

pub steps_made_text : (later : Bool) (steps : List Step) (scene : Scene) → text_of (steps_made later steps scene).document ≡ after_steps steps (text_of scene.document)
steps_made_text later [] scene = refl
steps_made_text later (step ∷ steps) scene =
    steps_made_text true steps (step_made later step scene) ∙ ap (after_steps steps) (bytes_of_edited_cells step scene.document.cells)

pub edit_made_text : (steps : List Step) (scene : Scene) → text_of (edit_made steps scene).document ≡ after_steps steps (text_of scene.document)
edit_made_text steps scene =
    cond_both (nat_lt 1 (length steps)) (sealed_scene (steps_made false steps (sealed_scene scene))) (steps_made false steps scene)
    (λ (x : Scene). text_of x.document ≡ after_steps steps (text_of scene.document))
    (λ e. steps_made_text false steps (sealed_scene scene)) (λ e. steps_made_text false steps scene)
