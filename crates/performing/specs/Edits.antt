-- Edits of a document: what they make of it, of the views that watch it and of the notes; and what their steps need of memory.
use Rattle.std.specs.Prelude.{◌≡◌, ℕ, List}
use Rattle.ed_model.specs.Steps.{Step, replacement}
use Rattle.ed_model.specs.Session.{text_of}
use Rattle.ed_model.specs.Performing.{edit_made, Scene}
use Rattle.id_table.specs.Entries.{Entries}
use Rattle.notify.specs.Gathered.{Gathered}
use Rattle.document.specs.Kept.{Kept, HasRoom}
use Rattle.ed_view.specs.Kept.{KeptView}
use Rattle.scene.specs.Scenes.{kept_scene}
use Rattle.scene.specs.Conversion.{room_of_steps, capped_notes, capped_room}
use Rattle.scene.specs.Needs.{notes_for, bytes_needed}
use Rattle.scene.specs.declared.need.SceneNeed.{SceneNeed}

-- the steps that replace the `count` bytes from `start` on of the document by these bytes
abbrev pub replacement_in : ℕ → ℕ → List ℕ → Kept → List Step
replacement_in start count bytes k = replacement start count bytes (text_of k.document)

-- the scene is that before, with these steps of an edit made
abbrev pub MakesEdit : List Step → Kept → Entries KeptView → Gathered → Kept → Entries KeptView → Gathered → Type 0
MakesEdit steps k views notes k' views' notes' = kept_scene k' views' notes' ≡ edit_made steps (kept_scene k views notes)

-- what the steps of an edit need of the document, and for their notes; the greatest `usize` stands for each greater amount
abbrev pub edit_need : List Step → Scene → SceneNeed
edit_need steps scene = record { notes = capped_notes (notes_for steps scene) (bytes_needed scene steps); document = capped_room (room_of_steps scene.document.line_end_types steps) }

-- the document has room for the steps
abbrev pub StepsFit : List Step → Kept → Type 0
StepsFit steps k = HasRoom (room_of_steps k.document.line_end_types steps) k
