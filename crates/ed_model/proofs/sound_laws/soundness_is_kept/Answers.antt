use Rattle.ed_model.proofs.SoundRuns.{table_sound, opening_sound, closing_sound, command_sound}
use Rattle.ed_model.proofs.sound_laws.soundness_is_kept.Goals as goal

pub returns : goal.returns
returns c = record { by_messages = table_sound; by_opening = opening_sound; by_closing = closing_sound; by_commands = command_sound }
