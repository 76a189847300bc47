use Rattle.run_laws.specs.Reached.{reached}
use Rattle.run_laws.proofs.SmallLemmas.{without_views_all_are_held}
use Rattle.run_laws.proofs.small_laws.documents_without_views_are_held.Goals as goal

pub returns : goal.returns
returns c files commands limits = without_views_all_are_held (reached files commands limits) (c.session_is_sound.ensures.in_every_state files commands limits)
