use Rattle.editor_session.proofs.Names.{rules, ◌∙◌, Ok, ap}
use Rattle.editor_session.proofs.TableWay.{replied_so}
use Rattle.editor_session.proofs.sending.answer_message.Goals as goal

pub returns-in-Some : goal.returns-in-Some
returns-in-Some c = record { answered = replied_so (c.in-Some.ensures.done ∙ ap (λ x. Ok (c.answer_at_once.new.session, x)) (search rules)) }
