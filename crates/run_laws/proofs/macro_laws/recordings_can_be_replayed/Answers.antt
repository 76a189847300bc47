use Rattle.run_laws.proofs.MacroLemmas.{recordings_can_be_replayed}
use Rattle.run_laws.proofs.macro_laws.recordings_can_be_replayed.Goals as goal

pub returns : goal.returns
returns c = recordings_can_be_replayed c.queries_leave_the_session.ensures.law c.soundness_is_kept.ensures.by_messages c.session_is_sound.ensures.in_every_state_from
