-- Questions beside the replies: messages that are marked Q, which change nothing.
use Rattle.std.specs.Prelude.{ℕ, ℤ, Bool, false, if◌then◌else◌, Option, Some, None, Result, Ok, Err}
use Rattle.ed_types.specs.declared.marks.Columns.{Columns}
use Rattle.ed_types.specs.declared.refusal.Refusal.{Refusal}
use Rattle.ed_types.specs.declared.refusal.Refusal.TheVariants.{UnknownMessage}
use Rattle.ed_types.specs.Messages.{marks_at}
use Rattle.ed_types.specs.Notices.{Response}
use Rattle.ed_model.specs.Printed.{refusal_number}
use Rattle.ed_model.specs.Session.{Session}
use Rattle.hongpilas_c.specs.Answers.{refused_with}

abbrev pub has_mark_q : Option Columns → Bool
has_mark_q None = false
has_mark_q (Some marks) = marks.q

-- whether the message with this number is a question
abbrev pub is_query : ℕ → Bool
is_query number = has_mark_q (marks_at number)

-- what a message answers: a session and a reply, or a refusal
abbrev pub Answered : Type 0
Answered = Result (Session × Response) Refusal

-- the number with which a message is refused, of which this is said, if it is a question; otherwise it is unknown
abbrev pub refused_asking : ℕ → Answered → ℕ
refused_asking number says = if is_query number then refused_with says else refusal_number UnknownMessage

abbrev pub value_answered : Answered → Result ℤ Refusal
value_answered (Ok done) = Ok done.1.value
value_answered (Err refusal) = Err refusal
