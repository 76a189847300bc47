use Rattle.std.proofs.Common.{rules, ◌≡◌, ◌≢◌, ℤ, [], true, subst, sym, ap, ◌∙◌, to_z, of_z, w64, Ok}
use Rattle.ed_types.specs.declared.message.Message.{Message}
use Rattle.ed_types.specs.declared.refusal.Refusal.TheVariants.{OutOfMemory}
use Rattle.ed_model.specs.Session.{Session}
use Rattle.ed_model.specs.Table.{table}
use Rattle.editor_session.specs.Answers.{message_with}
use Rattle.editor_session.specs.Plans.{is_free}
use Rattle.hongpilas_c.specs.Answers.{refused_with}
use Rattle.hongpilas_c.proofs.QueryAnswers.{question_leaves, question_refused}
use Rattle.hongpilas_c.proofs.Refusing.{refused_as_said, memory_alone}
use Rattle.hongpilas_c.proofs.asking.send_question.Goals as goal

pub returns-in-Ok-clause-done : goal.returns-in-Ok-clause-done
returns-in-Ok-clause-done c done =
    let a = c.args in let s = a.session.now in let n = c.send_into.new in let m = message_with a.number a.w a.l [] in
    let same : message_with a.number (to_z w64 (of_z w64 a.w)) (to_z w64 (of_z w64 a.l)) [] ≡ m = search rules in
    let is : table s a.view m ≡ Ok (n.self, n.reply) = subst (λ x. table s a.view x ≡ Ok (n.self, n.reply)) same c.in-Ok.ensures.answer in
    is ∙ ap (λ (x : Session). Ok (x, n.reply)) (question_leaves c.queries_leave_the_session.ensures.law s n.self a.view m n.reply (sym c.is_query.ensures ∙ c.if-not-is_query.false) is)

pub returns-in-Ok-clause-same : goal.returns-in-Ok-clause-same
returns-in-Ok-clause-same c =
    let a = c.args in let m = message_with a.number (to_z w64 (of_z w64 a.w)) (to_z w64 (of_z w64 a.l)) [] in
    question_leaves c.queries_leave_the_session.ensures.law a.session.now c.send_into.new.self a.view m c.send_into.new.reply (sym c.is_query.ensures ∙ c.if-not-is_query.false) c.in-Ok.ensures.answer

pub returns-in-Err-clause-refused : goal.returns-in-Err-clause-refused
returns-in-Err-clause-refused c other =
    let a = c.args in let s = a.session.now in let m = message_with a.number a.w a.l [] in
    let same : message_with a.number (to_z w64 (of_z w64 a.w)) (to_z w64 (of_z w64 a.l)) [] ≡ m = search rules in
    question_refused a.number c.number_of-in-Err.result (table s a.view m) (sym c.is_query.ensures ∙ c.if-not-is_query.false)
    (subst (λ x. c.number_of-in-Err.result ≡ refused_with (table s a.view x)) same (c.number_of-in-Err.ensures ∙ refused_as_said ℤ _ c.in-Err.refusal c.in-Err.ensures.refused c.in-Err.ensures.answer.1))

pub returns-in-Err-clause-free : goal.returns-in-Err-clause-free
returns-in-Err-clause-free c free is =
    let a = c.args in
    let same : message_with a.number (to_z w64 (of_z w64 a.w)) (to_z w64 (of_z w64 a.l)) [] ≡ message_with a.number a.w a.l [] = search rules in
    memory_alone c.in-Err.refusal (subst (λ m. is_free a.session.now a.view m ≡ true → c.in-Err.refusal ≢ OutOfMemory) same c.in-Err.ensures.free free) (sym c.number_of-in-Err.ensures ∙ is)
