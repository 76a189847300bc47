use Rattle.run_laws.proofs.EditLemmas.{only_edits_change_texts, only_edits_tell_of_attempts}
use Rattle.run_laws.proofs.edit_laws.only_edits_change_texts.Goals as goal

pub returns : goal.returns
returns c = record {
  texts = only_edits_change_texts c.plans_are_fit.ensures.in_range;
  attempts = only_edits_tell_of_attempts;
}
