use Rattle.ed_model.proofs.SoundRuns.{sound_in_every_state, run_sound, new_session_sound}
use Rattle.ed_model.proofs.sound_laws.session_is_sound.Goals as goal

pub returns : goal.returns
returns c = record { in_every_state = sound_in_every_state; in_every_state_from = run_sound; new_session = new_session_sound }
