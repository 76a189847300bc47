-- Steps as notes describe them: by the range of their bytes.
use Rattle.std.specs.Prelude.{◌≡◌, ℕ, ◌<◌, ◌^◌, Bool, true, false, ℤ, List, [], length}
use Rattle.ed_types.specs.Notices.{Notice}
use Rattle.ed_types.specs.declared.reply.Note.{Note}
use Rattle.ed_types.specs.Heard.{with_text}
use Rattle.ed_model.specs.Steps as model
use Rattle.ed_model.specs.Steps.{step_bytes}
use Rattle.ed_model.specs.Notes.{heard, range_note, before_note, after_note}
use Rattle.ed_model.specs.Session.{View}
use Rattle.id_table.specs.Entries.{Entries}
use Rattle.ed_view.specs.Kept.{KeptView}
use Rattle.document.specs.declared.text_step.TextStep.{TextStep}
use Rattle.document.specs.declared.text_step.TextStep.TheVariants.{Insert, Delete}
use Rattle.document.specs.Kept.{Kept}
use Rattle.document.specs.TextSteps.{step_in, step_on, IsStepOn}
use Rattle.notify.specs.Gathered.{Gathered, CanPut}
use Rattle.scene.specs.declared.telling.NoteText.{NoteText}
use Rattle.scene.specs.declared.telling.NoteText.TheVariants.{Empty, Shared}
use Rattle.scene.specs.Scenes.{watchers}
use Rattle.scene.specs.Telling.{with_notes}

abbrev pub place_in : TextStep → ℕ
place_in (Insert place bytes) = place
place_in (Delete place count) = place

abbrev pub count_in : TextStep → ℕ
count_in (Insert place bytes) = length bytes.now
count_in (Delete place count) = count

-- the place and the count are small enough for a note
abbrev pub IsSmallStep : TextStep → Type 0
IsSmallStep step = (place_in step < 2 ^ 63) × (count_in step < 2 ^ 63)

-- the text of the note before a step: a deletion's has none
abbrev pub text_before : model.Step → List ℕ
text_before (model.Insert place bytes) = bytes
text_before (model.Delete place bytes) = []

abbrev pub note_text_before : TextStep → NoteText
note_text_before (Insert place bytes) = Shared
note_text_before (Delete place count) = Empty

-- with any text, the note is the model's of a change of `count` bytes from `place` on
abbrev pub IsRangeNote : ℕ → ℕ → ℕ → Note → Type 0
IsRangeNote kind place count note =
    (text : List ℕ) → let n = range_note kind place count in with_text note text ≡ record n { text = text }

-- the notes before a step of the document: one for each view that watches and hears it
abbrev pub notes_before : ℕ → TextStep → Kept → Entries KeptView → List Notice
notes_before bits step k views = heard (watchers k.document views) (before_note bits (step_on k step))

-- The step was made on this text. If no view hears it, there is no note after it; otherwise its bytes are shared. Its notes fit in.
pub record CanTellMade (hears : Bool) (bits : ℕ) (lines : ℤ) (step : TextStep) (text : List ℕ) (views : List View) (g : Gathered) : Type 0 where
  pub on : IsStepOn step (length text)
  pub unheard : hears ≡ false → heard views (after_note bits lines (step_in step text)) ≡ []
  pub shared : hears ≡ true → g.shared ≡ step_bytes (step_in step text)
  pub room : CanPut (length (heard views (after_note bits lines (step_in step text)))) g

-- the step was made on some text, and the views that watch can be notified after it
abbrev pub CanTellStep : Bool → ℕ → ℤ → TextStep → Kept → Entries KeptView → Gathered → Type 0
CanTellStep hears bits lines step k views g =
    (text : List ℕ) × CanTellMade hears bits lines step text (watchers k.document views) g

-- whichever text the step was made on, each view that watches and hears it is notified after it
abbrev pub IsStepTold : Bool → ℕ → ℤ → TextStep → Kept → Entries KeptView → Gathered → Gathered → Type 0
IsStepTold hears bits lines step k views old new =
    (text : List ℕ) → CanTellMade hears bits lines step text (watchers k.document views) old
    → new ≡ with_notes (heard (watchers k.document views) (after_note bits lines (step_in step text))) old
