use Rattle.run_laws.proofs.StyleLemmas.{documents_without_styles_have_none}
use Rattle.run_laws.proofs.small_laws.documents_without_styles_have_none.Goals as goal

pub returns : goal.returns
returns c = documents_without_styles_have_none c.plans_are_fit.ensures.in_range c.soundness_is_kept.ensures.by_commands c.session_is_sound.ensures.new_session
