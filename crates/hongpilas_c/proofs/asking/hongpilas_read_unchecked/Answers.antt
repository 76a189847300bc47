use Rattle.std.proofs.Common.{rules, ◌≡◌, ◌≢◌, [], true, ap, subst, sym, to_z, of_z, w64, Some, Ok}
use Rattle.ed_types.specs.declared.refusal.Refusal.TheVariants.{OutOfMemory}
use Rattle.ed_model.specs.Printed.{refusal_number}
use Rattle.ed_model.specs.Session.{Session}
use Rattle.ed_model.specs.Table.{table}
use Rattle.editor_session.specs.Answers.{message_with}
use Rattle.editor_session.specs.Plans.{is_free}
use Rattle.hongpilas_c.specs.Asked.{refused_asking}
use Rattle.hongpilas_c.specs.Calls.{session_of, IsRead}
use Rattle.hongpilas_c.proofs.asking.hongpilas_read_unchecked.Goals as goal

pub returns-then-answer-eq-DONE-clause-done : goal.returns-then-answer-eq-DONE-clause-done
returns-then-answer-eq-DONE-clause-done c done =
    let a = c.args in let held = c.held-held.result.now in let q = c.send_question-answer in let m = message_with a.number a.w a.l [] in
    let same : message_with a.number (to_z w64 (of_z w64 a.w)) (to_z w64 (of_z w64 a.l)) [] ≡ m = search rules in
    subst (λ h. IsRead a.view m h (Some (record held { session = q.new.session; asked = q.new.reply }))) (sym c.held-held.ensures.value)
    (subst (λ x. table held.session a.view x ≡ Ok (held.session, q.new.reply)) same (q.ensures.done done), ap (λ (s : Session). record held { session = s; asked = q.new.reply }) q.ensures.same)

pub returns-else-answer-eq-DONE-clause-refused : goal.returns-else-answer-eq-DONE-clause-refused
returns-else-answer-eq-DONE-clause-refused c other =
    let a = c.args in let s = c.held-held.result.now.session in let q = c.send_question-answer in let m = message_with a.number a.w a.l [] in
    let same : message_with a.number (to_z w64 (of_z w64 a.w)) (to_z w64 (of_z w64 a.l)) [] ≡ m = search rules in
    subst (λ h. q.result ≡ refused_asking a.number (table (session_of h) a.view m)) (sym c.held-held.ensures.value)
    (subst (λ x. q.result ≡ refused_asking a.number (table s a.view x)) same (q.ensures.refused other))

pub returns-else-answer-eq-DONE-clause-free : goal.returns-else-answer-eq-DONE-clause-free
returns-else-answer-eq-DONE-clause-free c free is =
    let a = c.args in let s = c.held-held.result.now.session in let q = c.send_question-answer in let m = message_with a.number a.w a.l [] in
    let same : message_with a.number (to_z w64 (of_z w64 a.w)) (to_z w64 (of_z w64 a.l)) [] ≡ m = search rules in
    subst (λ x. is_free s a.view x ≡ true → q.result ≢ refusal_number OutOfMemory) same q.ensures.free
    (subst (λ h. is_free (session_of h) a.view m ≡ true) c.held-held.ensures.value free) is
