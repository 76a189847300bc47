-- A message with what it meets: the session, the sending view and its document. The arguments of messages.
use Rattle.std.specs.Prelude.{ℕ, ◌-◌, min, max, if◌then◌else◌, ℤ, pos, List, length, Result, Ok, Err, Option, Some, None}
use Rattle.ed_types.specs.declared.message.Message.{Message}
use Rattle.ed_types.specs.declared.refusal.Refusal.{Refusal}
use Rattle.ed_types.specs.declared.refusal.Refusal.TheVariants.{BadArgument}
use Rattle.ed_model.specs.declared.plan.Plan.{Plan}
use Rattle.ed_model.specs.declared.plan.Plan.TheVariants as plan
use Rattle.ed_model.specs.declared.plan.DocumentChange.{DocumentChange}
use Rattle.ed_model.specs.declared.plan.ViewChange.{ViewChange}
use Rattle.ed_model.specs.declared.plan.SessionChange.{SessionChange}
use Rattle.ed_model.specs.Numbers.{within, line_among, is_minus_one}
use Rattle.ed_model.specs.Lines.{line_starts, line_of}
use Rattle.ed_model.specs.Session.{Session, View, Document, text_of, lines_in}

pub record Request : Type 0 where
  pub session : Session
  pub view : View
  pub document : Document
  pub message : Message

-- The plan of a message, or its refusal.
abbrev pub Planned : Type 0
Planned = Result Plan Refusal

abbrev pub answer : ℤ → Planned
answer value = Ok (plan.Answer value)

abbrev pub answer_number : ℕ → Planned
answer_number n = answer (pos n)

-- the plan of a change of the document, of the view or of the session, which answers 0
abbrev pub change_document : DocumentChange → Planned
change_document change = Ok (plan.ChangeDocument change (pos 0))

abbrev pub change_view : ViewChange → Planned
change_view change = Ok (plan.ChangeView change (pos 0))

abbrev pub change_session : SessionChange → Planned
change_session change = Ok (plan.ChangeSession change (pos 0))

-- The text and the lines of a request's document, the selection and the target of its view.

abbrev pub text : Request → List ℕ
text r = text_of r.document

abbrev pub size : Request → ℕ
size r = length r.document.cells

abbrev pub line_total : Request → ℕ
line_total r = lines_in r.document

abbrev pub starts : Request → List ℕ
starts r = line_starts r.document.line_end_types (text r)

-- the line that contains the position
abbrev pub line_at : Request → ℕ → ℕ
line_at r p = line_of (starts r) p

-- the start and the end of the selection, and those of the target; the start is the lesser
abbrev pub selection_start : Request → ℕ
selection_start r = min r.view.anchor r.view.caret

abbrev pub selection_end : Request → ℕ
selection_end r = max r.view.anchor r.view.caret

abbrev pub target_least : Request → ℕ
target_least r = min r.view.target_start r.view.target_end

abbrev pub target_greatest : Request → ℕ
target_greatest r = max r.view.target_start r.view.target_end

-- Arguments. The first argument outside its range refuses the message with BadArgument.

abbrev pub with_argument : {A : Type 0} → Option A → (A → Planned) → Planned
with_argument None plan = Err BadArgument
with_argument (Some a) plan = plan a

-- an argument x in low..high, both included
abbrev pub argument : ℕ → ℕ → ℤ → (ℕ → Planned) → Planned
argument low high x plan = with_argument (within low high x) plan

-- the argument w as a length of the message's text, in bytes
abbrev pub text_length : Request → (ℕ → Planned) → Planned
text_length r plan = argument 0 (length r.message.text) r.message.w plan

abbrev pub end_or_size : ℕ → ℤ → ℤ
end_or_size size l = if is_minus_one l then pos size else l

-- the range of the text from w to l, as its start and its end; an l of -1 is the end of the text
abbrev pub text_range : Request → (ℕ → ℕ → Planned) → Planned
text_range r plan =
    argument 0 (size r) r.message.w (λ start. argument start (size r) (end_or_size (size r) r.message.l) (λ past. plan start past))

-- the range of l bytes from w on, as its start and its length
abbrev pub counted_range : Request → (ℕ → ℕ → Planned) → Planned
counted_range r plan =
    argument 0 (size r) r.message.w (λ start. argument 0 (size r - start) r.message.l (λ count. plan start count))

-- A line as an argument. A bad line has an answer of its own; it is not refused.
abbrev pub with_line : Option ℕ → Planned → (ℕ → Planned) → Planned
with_line None bad plan = bad
with_line (Some line) bad plan = plan line

abbrev pub line_argument : Request → Planned → (ℕ → Planned) → Planned
line_argument r bad plan = with_line (line_among (line_total r) r.message.w) bad plan
