use Rattle.ed_model.proofs.HandleLemmas.{steps_give_no_handle, changes_give_no_old_handle, next_handles_never_fall}
use Rattle.ed_model.proofs.handle_laws.no_handle_is_given_anew.Goals as goal

pub returns : goal.returns
returns c = record {
  steps = steps_give_no_handle;
  changes = changes_give_no_old_handle;
  next = next_handles_never_fall;
}
