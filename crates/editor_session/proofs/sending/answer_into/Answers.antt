use Rattle.editor_session.proofs.Names.{rules, ◌≡◌, ◌∙◌, Ok, ap, subst, quiet, Session, IsAnswered}
use Rattle.editor_session.specs.Answers.{told}
use Rattle.editor_session.proofs.TableWay.{replied_so}
use Rattle.editor_session.proofs.sending.answer_into.Goals as goal

pub returns-in-Some-clause-answered : goal.returns-in-Some-clause-answered
returns-in-Some-clause-answered c =
    let left : quiet c.in-Some.value ≡ c.answer.new.self = search rules in
    replied_so (c.in-Some.ensures.done ∙ ap (λ x. Ok (c.answer_at_once.new.session, x)) left)

pub returns-clause-answered : goal.returns-clause-answered
returns-clause-answered c =
    let p = c.answer_otherwise in
    subst (λ (s : Session). IsAnswered s c.args.view c.args.message.now p.new.session (told p.result p.new.reply)) c.in_default.ensures.same p.ensures.answered
