-- How many notes steps append and how many bytes of texts are shared for them: exactly, and at most.
use Rattle.std.specs.Prelude.{ℕ, ◌+◌, ◌-◌, ◌*◌, ◌^◌, ◌<◌, ◌≤◌, ◌&&◌, nat_lt, if◌then◌else◌, Bool, true, false, List, [], ◌∷◌, length}
use Rattle.ed_model.specs.Steps.{Step, step_bytes}
use Rattle.ed_model.specs.History.{History, at_save_point}
use Rattle.ed_model.specs.Session.{View, watching}
use Rattle.ed_model.specs.Notes.{performed_user}
use Rattle.ed_model.specs.Performing.{Scene, step_made, steps_made, edit_made, sealed_scene}
use Rattle.id_table.specs.Entries.{Entries}
use Rattle.notify.specs.Gathered.{Gathered}
use Rattle.ed_view.specs.Kept.{KeptView}
use Rattle.document.specs.declared.text_step.TextStep.{TextStep}
use Rattle.document.specs.Kept.{Kept}
use Rattle.document.specs.TextSteps.{step_on}
use Rattle.scene.specs.declared.need.NoteRoom.{NoteRoom}
use Rattle.scene.specs.declared.need.SceneNeed.{SceneNeed}
use Rattle.scene.specs.Scenes.{watchers}
use Rattle.scene.specs.Hearing.{step_kinds, user_bits, made_kinds, hearers, bytes_shared}
use Rattle.scene.specs.Telling.{CanHold}

abbrev pub note_room : ℕ → ℕ → NoteRoom
note_room notes bytes = record { notes = notes; bytes = bytes }

-- no amount is the greatest `usize`, at which sums stop
pub record IsCounted (need : SceneNeed) : Type 0 where
  pub notes : need.notes.notes < 2 ^ 64 - 1
  pub note_bytes : need.notes.bytes < 2 ^ 64 - 1
  pub text : need.document.text < 2 ^ 64 - 1
  pub lines : need.document.lines < 2 ^ 64 - 1
  pub insertions : need.document.insertions < 2 ^ 64 - 1
  pub steps : need.document.steps < 2 ^ 64 - 1
  pub bytes : need.document.bytes < 2 ^ 64 - 1

-- each kind of note that a step of a message may have
abbrev pub user_kinds : Step → ℕ
user_kinds step = step_kinds performed_user (user_bits true) step

-- how many notes say that the save point is left, if the document is at it
abbrev pub leaving_count : List View → History → ℕ
leaving_count views h = if h.collecting && at_save_point h then length views else 0

-- how many notes say that the save point is left, for the views that watch the document
abbrev pub leaving_notes : Kept → Entries KeptView → ℕ
leaving_notes k views = leaving_count (watchers k.document views) k.document.history

-- the notes of one step: one before and one after it for each view that hears it
abbrev pub notes_of_step : List View → Step → ℕ
notes_of_step views step = 2 * hearers (user_kinds step) views

abbrev pub bytes_of_step : List View → Step → ℕ
bytes_of_step views step = bytes_shared (user_kinds step) views (length (step_bytes step))

-- how many notes a step of the document needs at most
abbrev pub notes_for_step : TextStep → Kept → Entries KeptView → ℕ
notes_for_step step k views = notes_of_step (watchers k.document views) (step_on k step)

-- how many bytes are shared for these notes
abbrev pub bytes_for_step : TextStep → Kept → Entries KeptView → ℕ
bytes_for_step step k views = bytes_of_step (watchers k.document views) (step_on k step)

abbrev pub notes_of_steps : List View → List Step → ℕ
notes_of_steps views [] = 0
notes_of_steps views (step ∷ steps) = notes_of_step views step + notes_of_steps views steps

abbrev pub bytes_of_steps : List View → List Step → ℕ
bytes_of_steps views [] = 0
bytes_of_steps views (step ∷ steps) = bytes_of_step views step + bytes_of_steps views steps

-- all notes that steps of a message need, from this scene on
abbrev pub notes_needed : Scene → List Step → ℕ
notes_needed scene steps = let views = watching scene.views scene.document in leaving_count views scene.document.history + notes_of_steps views steps

abbrev pub bytes_needed : Scene → List Step → ℕ
bytes_needed scene steps = bytes_of_steps (watching scene.views scene.document) steps

-- all notes that an edit needs: none if it has no step
abbrev pub notes_for : List Step → Scene → ℕ
notes_for [] scene = 0
notes_for (step ∷ steps) scene = notes_needed scene (step ∷ steps)

-- how many bytes of texts the list holds after a step, if it held so many before
abbrev pub held_behind : Bool → Step → Scene → ℕ → ℕ
held_behind later step scene held =
    held + bytes_shared (made_kinds later step scene.document.history) (watching scene.views scene.document) (length (step_bytes step))

-- the same after steps in turn
abbrev pub held_after : Bool → List Step → Scene → ℕ → ℕ
held_after later [] scene held = held
held_after later (step ∷ steps) scene held = held_after true steps (step_made later step scene) (held_behind later step scene held)

-- the same after an edit
abbrev pub held_after_edit : List Step → Scene → ℕ → ℕ
held_after_edit steps scene held = held_after false steps (if nat_lt 1 (length steps) then sealed_scene scene else scene) held

-- the list can hold all notes and texts after the steps
abbrev pub CanHoldSteps : Bool → List Step → Scene → Gathered → Type 0
CanHoldSteps later steps scene g = CanHold g (steps_made later steps scene) (held_after later steps scene g.held)

-- the same after an edit
abbrev pub CanHoldEdit : List Step → Scene → Gathered → Type 0
CanHoldEdit steps scene g = CanHold g (edit_made steps scene) (held_after_edit steps scene g.held)

-- an edit appends at most as many notes as it needs, and shares at most as many bytes
abbrev pub NeedsAreEnough : Type 0
NeedsAreEnough =
    (steps : List Step) (scene : Scene) (held : ℕ)
    → (length (edit_made steps scene).notes ≤ length scene.notes + notes_for steps scene) × (held_after_edit steps scene held ≤ held + bytes_needed scene steps)
