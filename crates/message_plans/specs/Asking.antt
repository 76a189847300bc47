-- Numeric queries: messages that are answered by a number of the document, the view or the session. Text queries: messages that are answered by
-- bytes of the document. Both change nothing, are not recorded, and do not read the message's text.
use Rattle.std.specs.Prelude.{ℕ, ℤ, if◌then◌else◌, Bool, ◌&&◌, List, [], ◌∷◌, filter, Ok, Option, Some, None, is_some}
use Rattle.ed_types.specs.declared.kind.Kind.{Kind}
use Rattle.ed_types.specs.declared.kind.Kind.TheVariants as kinds
use Rattle.ed_types.specs.Messages.{number_of, marks_of, kind_among, every_kind}
use Rattle.ed_model.specs.declared.plan.Plan.TheVariants as plan
use Rattle.ed_model.specs.Requests.{Request, Planned}
use Rattle.ed_model.specs.Table.{plan_of}
use Rattle.message_requests.specs.declared.answers.HandedOut.{HandedOut}

-- A numeric query is marked Q and N. The other messages marked Q answer bytes, and allocate memory for them.
abbrev pub is_question : Kind → Bool
is_question kind = (marks_of kind).q && (marks_of kind).n

-- the numeric queries, in rising order of their numbers
abbrev pub questions : List Kind
questions = filter is_question every_kind

-- the numeric query with this number
abbrev pub question_of : ℕ → Option Kind
question_of number = kind_among questions number

-- the value of an `Answer` plan; none for other plans
abbrev pub value_planned : Planned → Option ℤ
value_planned (Ok (plan.Answer value)) = Some value
value_planned other = None

-- the value that the plan of a numeric query answers; none for all other messages, and if the query is refused
abbrev pub value_asked : Kind → Request → Option ℤ
value_asked kind r = if is_question kind then value_planned (plan_of kind r) else None

-- the text queries, in rising order of their numbers
abbrev pub text_questions : List Kind
text_questions = kinds.GetCurLine ∷ kinds.GetLine ∷ kinds.GetSelText ∷ kinds.GetTextRange ∷ kinds.GetText ∷ kinds.GetTargetText ∷ []

-- the text query with this number
abbrev pub text_question_of : ℕ → Option Kind
text_question_of number = kind_among text_questions number

abbrev pub is_text_question : Kind → Bool
is_text_question kind = is_some (text_question_of (number_of kind))

-- what a `HandOut` plan hands out; none for other plans
abbrev pub handed_planned : Planned → Option HandedOut
handed_planned (Ok (plan.HandOut value start count)) = Some (record { value = value; start = start; count = count })
handed_planned other = None

-- what the plan of a text query hands out; none for all other messages, and if the query is refused or hands out nothing
abbrev pub handed_asked : Kind → Request → Option HandedOut
handed_asked kind r = if is_text_question kind then handed_planned (plan_of kind r) else None
