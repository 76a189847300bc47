use Rattle.run_laws.proofs.IdLemmas.{opened_ids_rise}
use Rattle.run_laws.proofs.id_laws.opened_views_have_rising_ids.Goals as goal

pub returns : goal.returns
returns c = opened_ids_rise
