use Rattle.editor_session.proofs.Names.{rules, ◌≡◌, subst, to_z, of_z, w64, message_with, IsAnswered}
use Rattle.editor_session.proofs.session.Session.send_lent.Goals as goal

pub returns : goal.returns
returns c =
    let a = c.args in let n = c.answer_message in
    let same : message_with a.number (to_z w64 (of_z w64 a.w)) (to_z w64 (of_z w64 a.l)) a.text.now ≡ message_with a.number a.w a.l a.text.now = search rules in
    let h = subst (λ x. IsAnswered a.self.now a.view x n.new.session n.result) same n.ensures.answered in
    record { answer = h.answer; refused = h.refused; free = h.free }
