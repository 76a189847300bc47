-- Converting the line ends of a document's text to one kind: what the steps need, and how many of them are made.
use Rattle.std.specs.Prelude.{◌≡◌, ℕ, ◌-◌, ◌*◌, Bool, false, List, [], ◌∷◌}
use Rattle.ed_model.specs.declared.plan.LineEnd.{LineEnd}
use Rattle.ed_model.specs.declared.plan.LineEndTypes.{LineEndTypes}
use Rattle.ed_model.specs.Steps.{Step}
use Rattle.ed_model.specs.LineEnds.{conversion_steps, unwanted_from}
use Rattle.ed_model.specs.History.{TextStep}
use Rattle.ed_model.specs.Session.{text_of}
use Rattle.ed_model.specs.Performing.{steps_made}
use Rattle.line_ends.specs.Conversion.{completed}
use Rattle.id_table.specs.Entries.{Entries}
use Rattle.ed_view.specs.Kept.{KeptView}
use Rattle.notify.specs.Gathered.{Gathered}
use Rattle.document.specs.declared.need.DocumentNeed.{DocumentNeed}
use Rattle.document.specs.Kept.{Kept, HasRoom, document_need, nothing_needed}
use Rattle.document.specs.TextSteps.{need_of_step}
use Rattle.scene.specs.declared.need.NoteRoom.{NoteRoom}
use Rattle.scene.specs.Scenes.{kept_scene, watchers, IsWatched, RoomsStay}
use Rattle.scene.specs.Needs.{CanHoldSteps, notes_of_steps, bytes_of_steps}
pub use Rattle.scene.specs.Undoing.{both_rooms, free_behind, capped, capped_room, capped_notes}

-- what steps in turn need of their document, if earlier steps have freed `free` bytes
abbrev pub room_of_steps_beside : LineEndTypes → ℕ → List Step → DocumentNeed
room_of_steps_beside types free [] = nothing_needed
room_of_steps_beside types free (step ∷ steps) =
    let need = need_of_step types step in both_rooms (record need { text = need.text - free }) (room_of_steps_beside types (free_behind free (TextStep step)) steps)

-- What steps in turn need. Of the text it is the most that the length ever grows beyond the length now, since deleted bytes are there for
-- inserted ones.
abbrev pub room_of_steps : LineEndTypes → List Step → DocumentNeed
room_of_steps types steps = room_of_steps_beside types 0 steps

-- what single steps need, added up
abbrev pub rooms_added : LineEndTypes → List Step → DocumentNeed
rooms_added types [] = nothing_needed
rooms_added types (step ∷ steps) = both_rooms (need_of_step types step) (rooms_added types steps)

-- there is room for the steps, and for their notes; `later` says that the first of them is a later step of its message
pub record CanMakeSteps (later : Bool) (steps : List Step) (k : Kept) (views : Entries KeptView) (notes : Gathered) : Type 0 where
  pub watched : IsWatched k.document views
  pub room : HasRoom (room_of_steps k.document.line_end_types steps) k
  pub holds : CanHoldSteps later steps (kept_scene k views notes) notes

-- of the steps on the old scene, those of `rest` remain to be made on the new one, and there is room for them; for both scenes a flag
-- says whether the first of the steps is a later one of its message
pub record AreLeft (rest : List Step) (later : Bool) (steps : List Step) (was_later : Bool) (before after : Kept) (views views' : Entries KeptView) (notes notes' : Gathered) : Type 0 where
  pub scene : steps_made later rest (kept_scene after views' notes') ≡ steps_made was_later steps (kept_scene before views notes)
  pub can : CanMakeSteps later rest after views' notes'
  pub rooms : RoomsStay before after views views' notes notes'

-- the steps of a conversion of the document
abbrev pub conversion_of : LineEnd → Kept → List Step
conversion_of to k = conversion_steps to (text_of k.document)

-- the deletions of a conversion, which follow its insertions
abbrev pub deletions_of : LineEnd → List ℕ → List Step
deletions_of to text = unwanted_from 0 false to (completed to text)

-- the same room for each of `count` steps
abbrev pub room_of_many : ℕ → DocumentNeed → DocumentNeed
room_of_many count need = document_need (need.text * count) (need.lines * count) (need.insertions * count) (need.steps * count) (need.bytes * count)

-- the room for the notes of the steps, without those that the save point is left
abbrev pub notes_for_all : List Step → Kept → Entries KeptView → NoteRoom
notes_for_all steps k views =
    capped_notes (notes_of_steps (watchers k.document views) steps) (bytes_of_steps (watchers k.document views) steps)
