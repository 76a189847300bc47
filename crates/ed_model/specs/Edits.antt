-- Edits: the plans of messages that change the text. [Scintilla: text modification; selection, clipboard]
use Rattle.std.specs.Prelude.{ℕ, ◌+◌, ◌-◌, nat_le, ◌&&◌, if◌then◌else◌, Bool, true, false, ℤ, pos, List, [], ◌∷◌, length, take, Ok, Err}
use Rattle.ed_types.specs.declared.refusal.Refusal.TheVariants.{TooLong}
use Rattle.ed_model.specs.declared.plan.Source.{Source}
use Rattle.ed_model.specs.declared.plan.Source.TheVariants as source
use Rattle.ed_model.specs.declared.plan.Edit.{Edit}
use Rattle.ed_model.specs.declared.plan.Edit.TheVariants as edit
use Rattle.ed_model.specs.declared.plan.Follow.{Follow}
use Rattle.ed_model.specs.declared.plan.Follow.TheVariants as follow
use Rattle.ed_model.specs.declared.plan.Plan.{Plan}
use Rattle.ed_model.specs.declared.plan.Plan.TheVariants as plan
use Rattle.ed_model.specs.Steps.{Step, Insert, Delete, replacement}
use Rattle.ed_model.specs.LineEnds.{line_end_bytes, converted, conversion_steps}
use Rattle.ed_model.specs.Session.{Session, Document, limit_of, text_of}
use Rattle.ed_model.specs.Requests.{Request, Planned, size}

abbrev pub converted_if : Bool → Document → List ℕ → List ℕ
converted_if true d bytes = converted d.line_end bytes
converted_if false d bytes = bytes

-- the bytes that an edit inserts in a document of a session; `bytes` is the message's text
abbrev pub source_in : Session → Document → List ℕ → Source → List ℕ
source_in s d bytes source.Nothing = []
source_in s d bytes (source.MessageText count) = take count bytes
source_in s d bytes (source.Clipboard convert) = converted_if convert d s.clipboard
source_in s d bytes source.LineEnd = line_end_bytes d.line_end

-- the steps of an edit there
abbrev pub steps_in : Session → Document → List ℕ → Edit → List Step
steps_in s d bytes (edit.Replace start count from) = replacement start count (source_in s d bytes from) (text_of d)
steps_in s d bytes (edit.ConvertLineEnds to) = conversion_steps to (text_of d)

-- both, for a request
abbrev pub source_bytes : Request → Source → List ℕ
source_bytes r from = source_in r.session r.document r.message.text from

abbrev pub steps_of : Request → Edit → List Step
steps_of r change = steps_in r.session r.document r.message.text change

abbrev pub size_after : ℕ → Step → ℕ
size_after n (Insert p bytes) = n + length bytes
size_after n (Delete p bytes) = n - length bytes

-- whether the text, now n bytes long, is within the limit after each of the steps
abbrev pub stays_within : ℕ → ℕ → List Step → Bool
stays_within limit n [] = true
stays_within limit n (step ∷ steps) = nat_le (size_after n step) limit && stays_within limit (size_after n step) steps

abbrev pub has_steps : List Step → Bool
has_steps [] = false
has_steps (step ∷ steps) = true

-- the plan `done` of an edit with these steps; on a read-only document an attempt, if there is a step; TooLong if the text passes
-- its limit after some step
abbrev pub edit_of_steps : Request → Plan → List Step → Planned
edit_of_steps r done steps =
    if r.document.read_only && has_steps steps then Ok plan.Attempt
    else (if stays_within (limit_of r.session.limits r.document) (size r) steps then Ok done else Err TooLong)

-- the plan of an edit that answers `value`, and then does what follows it
abbrev pub edit_plan : Request → Edit → ℤ → Follow → Planned
edit_plan r change value after = edit_of_steps r (plan.Edit change value after) (steps_of r change)

-- the plan of an edit that replaces bytes and answers 0
abbrev pub replace_plan : Request → ℕ → ℕ → Source → Planned
replace_plan r start count from = edit_plan r (edit.Replace start count from) (pos 0) follow.Nothing

-- the plan of an edit that replaces bytes, and moves anchor and caret to the end of the inserted bytes
abbrev pub replace_and_go : Request → ℕ → ℕ → Source → Planned
replace_and_go r start count from =
    edit_plan r (edit.Replace start count from) (pos 0) (follow.Caret (start + length (source_bytes r from)))
