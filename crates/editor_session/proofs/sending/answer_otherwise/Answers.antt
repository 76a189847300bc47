use Rattle.editor_session.proofs.TableWay.{replied_so}
use Rattle.editor_session.proofs.sending.answer_otherwise.Goals as goal

pub returns-in-Some-clause-answered : goal.returns-in-Some-clause-answered
returns-in-Some-clause-answered c = replied_so c.in-Some.ensures.answer
