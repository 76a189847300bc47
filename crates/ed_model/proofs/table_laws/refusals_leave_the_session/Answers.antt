use Rattle.ed_model.proofs.TableLemmas.{refused_commands_leave_the_session, refused_commands_can_be_left_out}
use Rattle.ed_model.proofs.table_laws.refusals_leave_the_session.Goals as goal

pub returns : goal.returns
returns c = record {
  one = refused_commands_leave_the_session;
  run = refused_commands_can_be_left_out;
}
