use Rattle.std.proofs.Common.{rules, ◌≡◌, ◌≢◌, ℤ, true, refl, subst, sym, ◌∙◌, to_z, of_z, w64, Some, Ok}
use Rattle.ed_types.specs.declared.refusal.Refusal.TheVariants.{OutOfMemory}
use Rattle.ed_model.specs.Table.{table}
use Rattle.editor_session.specs.Answers.{message_with}
use Rattle.editor_session.specs.Plans.{is_free}
use Rattle.hongpilas_c.specs.Answers.{refused_with}
use Rattle.hongpilas_c.specs.Calls.{session_of, IsSent}
use Rattle.hongpilas_c.proofs.Refusing.{refused_as_said, memory_alone}
use Rattle.hongpilas_c.proofs.sending.hongpilas_send_unchecked.Goals as goal

pub returns-in-Ok-clause-done : goal.returns-in-Ok-clause-done
returns-in-Ok-clause-done c done =
    let a = c.args in let held = c.held-held.result.now in let n = c.send_into.new in let m = message_with a.number a.w a.l a.text.now in
    let same : message_with a.number (to_z w64 (of_z w64 a.w)) (to_z w64 (of_z w64 a.l)) a.text.now ≡ m = search rules in
    let value : to_z w64 (of_z w64 c.in-Ok.answer) ≡ n.reply.value = search rules in
    subst (λ h. IsSent a.view m (to_z w64 (of_z w64 c.in-Ok.answer)) h (Some (record held { session = n.self; reply = n.reply }))) (sym c.held-held.ensures.value)
    (subst (λ x. table held.session a.view x ≡ Ok (n.self, n.reply)) same c.in-Ok.ensures.answer, value, refl)

pub returns-in-Err-clause-refused : goal.returns-in-Err-clause-refused
returns-in-Err-clause-refused c other =
    let a = c.args in let s = c.held-held.result.now.session in let n = c.number_of.result in let m = message_with a.number a.w a.l a.text.now in
    let sent = message_with a.number (to_z w64 (of_z w64 a.w)) (to_z w64 (of_z w64 a.l)) a.text.now in
    let same : sent ≡ m = search rules in
    subst (λ h. n ≡ refused_with (table (session_of h) a.view m)) (sym c.held-held.ensures.value)
    (subst (λ x. n ≡ refused_with (table s a.view x)) same (c.number_of.ensures ∙ refused_as_said ℤ (table s a.view sent) c.in-Err.refusal c.in-Err.ensures.refused c.in-Err.ensures.answer.1))

pub returns-in-Err-clause-free : goal.returns-in-Err-clause-free
returns-in-Err-clause-free c free is =
    let a = c.args in let s = c.held-held.result.now.session in let m = message_with a.number a.w a.l a.text.now in
    let same : message_with a.number (to_z w64 (of_z w64 a.w)) (to_z w64 (of_z w64 a.l)) a.text.now ≡ m = search rules in
    memory_alone c.in-Err.refusal
    (subst (λ x. is_free s a.view x ≡ true → c.in-Err.refusal ≢ OutOfMemory) same c.in-Err.ensures.free (subst (λ h. is_free (session_of h) a.view m ≡ true) c.held-held.ensures.value free))
    (sym c.number_of.ensures ∙ is)
