use Rattle.editor_session.proofs.Names.{rules, ◌≡◌, [], subst, to_z, of_z, w64, message_with, AnswersQuery}
use Rattle.editor_session.proofs.session.Session.ask.Goals as goal

pub returns : goal.returns
returns c =
    let a = c.args in let m = message_with a.number a.w a.l [] in
    let same : message_with a.number (to_z w64 (of_z w64 a.w)) (to_z w64 (of_z w64 a.l)) [] ≡ m = search rules in
    let h = subst (λ x. AnswersQuery a.self.now a.view x c.ask.result) same c.ask.ensures in
    record { value = h.value; answer = h.answer }
