use Rattle.editor_session.proofs.TableWay.{marked_are_free}
use Rattle.editor_session.proofs.laws.marked_messages_are_free.Goals as goal

pub returns : goal.returns
returns c = marked_are_free c.marked_plans_are_free.ensures
