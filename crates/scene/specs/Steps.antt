-- A step of a document, with its notes and the views that follow: who hears it, and the scene after it.
use Rattle.std.specs.Prelude.{ℕ, Bool, length}
use Rattle.ed_model.specs.Steps.{step_bytes}
use Rattle.ed_model.specs.Performing.{Scene, step_heard, step_made}
use Rattle.id_table.specs.Entries.{Entries}
use Rattle.ed_view.specs.Kept.{KeptView}
use Rattle.notify.specs.Gathered.{Gathered}
use Rattle.document.specs.declared.text_step.TextStep.{TextStep}
use Rattle.document.specs.Kept.{Kept}
use Rattle.document.specs.TextSteps.{step_on}
use Rattle.scene.specs.declared.steps.StepBits.{StepBits}
use Rattle.scene.specs.Scenes.{kept_scene, watchers}
use Rattle.scene.specs.Hearing.{hearers, step_kinds, made_kinds, bytes_shared, left_note}

-- how many views that watch hear the step, whose notes have these bits
abbrev pub step_hearers : StepBits → TextStep → Kept → Entries KeptView → ℕ
step_hearers bits step k views =
    hearers (step_kinds bits.before bits.after (step_on k step)) (watchers k.document views)

-- how many bytes are shared for the step, whose notes have these bits: all of its bytes, or none if no view hears it
abbrev pub heard_bytes : StepBits → TextStep → Kept → Entries KeptView → ℕ
heard_bytes bits step k views =
    bytes_shared (step_kinds bits.before bits.after (step_on k step)) (watchers k.document views)
    (length (step_bytes (step_on k step)))

-- the same for a step that a message makes; `later` says that it is a later step of its message
abbrev pub made_bytes : Bool → TextStep → Kept → Entries KeptView → ℕ
made_bytes later step k views =
    bytes_shared (made_kinds later (step_on k step) k.document.history) (watchers k.document views)
    (length (step_bytes (step_on k step)))

-- the scene after the step, whose notes have these bits; in between, if the save point `is_left`, all views that watch
-- are told so
abbrev pub scene_heard : StepBits → Bool → TextStep → Kept → Entries KeptView → Gathered → Scene
scene_heard bits is_left step k views g =
    step_heard bits.before bits.after (left_note is_left (watchers k.document views)) (step_on k step)
    (kept_scene k views g)

-- the scene after a step that a message makes
abbrev pub scene_made : Bool → TextStep → Kept → Entries KeptView → Gathered → Scene
scene_made later step k views g = step_made later (step_on k step) (kept_scene k views g)
