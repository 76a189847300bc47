-- Steps of the text by the place of their bytes.
use Rattle.std.specs.Prelude.{ℕ, ◌+◌, ◌-◌, ◌≤◌, Bool, List, length, slice_range}
use Rattle.ed_model.specs.declared.plan.LineEndTypes.{LineEndTypes}
use Rattle.ed_model.specs.Steps as model
use Rattle.ed_model.specs.History as history
use Rattle.ed_model.specs.Session.{text_of}
use Rattle.line_index.specs.declared.change.LineChange.{LineChange}
use Rattle.line_index.specs.StepEdits.{change_of}
use Rattle.line_index.specs.RoomLaws.{lines_for_insertion, lines_for_deletion}
use Rattle.document.specs.declared.text_step.TextStep.{TextStep}
use Rattle.document.specs.declared.text_step.TextStep.TheVariants.{Insert, Delete}
use Rattle.document.specs.declared.need.DocumentNeed.{DocumentNeed}
use Rattle.document.specs.Kept.{Kept, HasHistoryRoom, HasRoom, HasTextRoom, document_need}

-- the deletion of the `count` bytes of a text from `place` on
abbrev pub deletion_of : ℕ → ℕ → List ℕ → model.Step
deletion_of place count text = model.Delete place (slice_range text place (place + count))

-- the model's step; the bytes of a deletion are those of the text
abbrev pub step_in : TextStep → List ℕ → model.Step
step_in (Insert place bytes) text = model.Insert place bytes.now
step_in (Delete place count) text = deletion_of place count text

-- it can be made on a text of this length
abbrev pub IsStepOn : TextStep → ℕ → Type 0
IsStepOn (Insert place bytes) size = place ≤ size
IsStepOn (Delete place count) size = place + count ≤ size

-- what it needs
abbrev pub need_of : LineEndTypes → TextStep → DocumentNeed
need_of types (Insert place bytes) = document_need (length bytes.now) (lines_for_insertion types bytes.now) 1 1 (length bytes.now)
need_of types (Delete place count) = document_need 0 lines_for_deletion 0 1 count

-- what the model's step needs
abbrev pub need_of_step : LineEndTypes → model.Step → DocumentNeed
need_of_step types (model.Insert place bytes) = document_need (length bytes) (lines_for_insertion types bytes) 1 1 (length bytes)
need_of_step types (model.Delete place bytes) = document_need 0 lines_for_deletion 0 1 (length bytes)

-- What a step and all after it need, if those after it need `rest`: of the text it is the most by which the length ever exceeds that before
-- the step, so what a deletion takes out is there for what comes later.
abbrev pub need_then : LineEndTypes → model.Step → DocumentNeed → DocumentNeed
need_then types (model.Insert place bytes) rest =
    document_need (length bytes + rest.text) (lines_for_insertion types bytes + rest.lines) (1 + rest.insertions) (1 + rest.steps) (length bytes + rest.bytes)
need_then types (model.Delete place bytes) rest =
    document_need (rest.text - length bytes) (lines_for_deletion + rest.lines) rest.insertions (1 + rest.steps) (length bytes + rest.bytes)

-- the effect of the model's step on the lines of the document
abbrev pub line_change_of : Kept → model.Step → LineChange
line_change_of k step = change_of k.document.line_end_types step (text_of k.document)

-- a step of the document, as the model has it: a deletion names its bytes
abbrev pub step_on : Kept → TextStep → model.Step
step_on k step = step_in step (text_of k.document)

-- what a step of the document needs
abbrev pub need_on : Kept → TextStep → DocumentNeed
need_on k step = need_of k.document.line_end_types step

-- Where there was room for the step and for what comes after it, there is room for what comes after it: in the text, and in the history.

abbrev pub LeavesTextRoom : model.Step → Kept → Kept → Type 0
LeavesTextRoom step old new =
    (rest : DocumentNeed) → HasTextRoom (need_then old.document.line_end_types step rest) old → HasTextRoom rest new

abbrev pub LeavesHistoryRoom : model.Step → Kept → Kept → Type 0
LeavesHistoryRoom step old new =
    (rest : DocumentNeed) → HasHistoryRoom (need_then old.document.line_end_types step rest) old → HasHistoryRoom rest new

abbrev pub LeavesRoom : model.Step → Kept → Kept → Type 0
LeavesRoom step old new = (rest : DocumentNeed) → HasRoom (need_then old.document.line_end_types step rest) old → HasRoom rest new

-- a step of the document as a change of its history
abbrev pub change_on : Kept → TextStep → history.Change
change_on k step = history.TextStep (step_on k step)

-- the document with the step appended to its history; `later` says that it is a later step of its message
abbrev pub with_appended : Bool → TextStep → Kept → Kept
with_appended later step k =
    record k { document = record k.document { history = history.appended later (change_on k step) k.document.history } }
