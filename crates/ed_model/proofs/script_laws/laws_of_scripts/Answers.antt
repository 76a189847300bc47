use Rattle.ed_model.proofs.lemmas.Scripts.{listings_are_read, only_listings_are_read, scripts_have_one_spelling, listings_keep_limits}
use Rattle.ed_model.proofs.script_laws.laws_of_scripts.Goals as goal

pub returns : goal.returns
returns c = record {
  listings_are_read = listings_are_read;
  only_listings_are_read = only_listings_are_read;
  scripts_have_one_spelling = scripts_have_one_spelling;
  listings_keep_limits = listings_keep_limits;
}
