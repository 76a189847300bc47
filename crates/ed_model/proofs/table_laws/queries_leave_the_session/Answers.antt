use Rattle.ed_model.proofs.TableLemmas.{queries_leave_the_session}
use Rattle.ed_model.proofs.table_laws.queries_leave_the_session.Goals as goal

pub returns : goal.returns
returns c = record { law = queries_leave_the_session }
