-- Questions: what the law of queries says of an answer to one.
use mathlib.Core.Bool.{false≢true}
use Rattle.std.proofs.Common.{◌≡◌, ℕ, true, if◌then◌else◌, refl, sym, subst, Option, Some, None, Ok, option_map}
use Rattle.ed_types.specs.declared.kind.Kind.{Kind}
use Rattle.ed_types.specs.declared.message.Message.{Message}
use Rattle.ed_types.specs.declared.refusal.Refusal.TheVariants.{UnknownMessage}
use Rattle.ed_types.specs.Messages.{kind_of, marks_of}
use Rattle.ed_types.specs.Notices.{Response}
use Rattle.ed_model.specs.Printed.{refusal_number}
use Rattle.ed_model.specs.Session.{Session}
use Rattle.ed_model.specs.Table.{table}
use Rattle.ed_model.specs.TableLaws.{LeavesSession, QueriesLeaveTheSession}
use Rattle.hongpilas_c.specs.Answers.{refused_with}
use Rattle.hongpilas_c.specs.Asked.{Answered, has_mark_q, is_query, refused_asking}

by_kind : QueriesLeaveTheSession → (s : Session) (view : ℕ) (m : Message) (kind : Option Kind) → kind_of m.number ≡ kind → has_mark_q (option_map marks_of kind) ≡ true → LeavesSession s (table s view m)
by_kind law s view m None e is = absurd (false≢true is)
by_kind law s view m (Some kind) e is = law s view m kind e is

-- a question that is answered leaves the session unchanged
pub question_leaves : QueriesLeaveTheSession → (s new : Session) (view : ℕ) (m : Message) (reply : Response) → is_query m.number ≡ true → table s view m ≡ Ok (new, reply) → new ≡ s
question_leaves law s new view m reply is done = subst (LeavesSession s) done (by_kind law s view m (kind_of m.number) refl is)

-- a refused question has the number that is said
pub question_refused : (number n : ℕ) (says : Answered) → is_query number ≡ true → n ≡ refused_with says → n ≡ refused_asking number says
question_refused number n says is e = subst (λ b. n ≡ (if b then refused_with says else refusal_number UnknownMessage)) (sym is) e
