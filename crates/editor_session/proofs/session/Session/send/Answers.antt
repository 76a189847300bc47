use Rattle.editor_session.proofs.Names.{rules, ◌≡◌, true, subst, to_z, of_z, w64, IfErr, Err, OutOfMemory, ◌≢◌, table, AnswersBy, message_with, is_free}
use Rattle.editor_session.proofs.session.Session.send.Goals as goal

pub returns : goal.returns
returns c =
    let a = c.args in let m = a.m.now in
    let same : message_with m.number (to_z w64 (of_z w64 m.w)) (to_z w64 (of_z w64 m.l)) c.as_slice.result.now ≡ m = search rules in
    record {
      answer = subst (λ x. AnswersBy (table a.self.now a.view x) a.self.now c.send_lent.new.self c.send_lent.result) same c.send_lent.ensures.answer;
      refused = subst (λ x. IfErr (table a.self.now a.view x) (λ refusal. c.send_lent.result ≡ Err refusal)) same c.send_lent.ensures.refused;
      free = subst (λ x. is_free a.self.now a.view x ≡ true → IfErr c.send_lent.result (λ refusal. refusal ≢ OutOfMemory)) same c.send_lent.ensures.free;
    }
