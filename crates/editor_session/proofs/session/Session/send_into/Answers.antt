use Rattle.editor_session.proofs.Names.{rules, ◌≡◌, ◌≢◌, subst, to_z, of_z, w64, OutOfMemory, table, message_with, IsAnswered}
use Rattle.editor_session.specs.Answers.{told}
use Rattle.editor_session.proofs.TableWay.{told_refused, told_free}
use Rattle.editor_session.proofs.session.Session.send_into.Goals as goal

pub returns : goal.returns
returns c =
    let a = c.args in let n = c.answer_into in let m = message_with a.number a.w a.l a.text.now in
    let same : message_with a.number (to_z w64 (of_z w64 a.w)) (to_z w64 (of_z w64 a.l)) a.text.now ≡ m = search rules in
    let h = subst (λ x. IsAnswered a.self.now a.view x n.new.session (told n.result n.new.reply)) same n.ensures.answered in
    record { answer = h.answer; refused = told_refused (table a.self.now a.view m) n.result n.new.reply h.refused; place = n.ensures.place; free = λ free. told_free n.result n.new.reply (λ r. r ≢ OutOfMemory) (h.free free) }
