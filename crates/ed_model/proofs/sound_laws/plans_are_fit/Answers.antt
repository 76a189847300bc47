use Rattle.ed_model.proofs.SoundPlans.{plan_fits}
use Rattle.ed_model.proofs.SoundRuns.{edit_steps_fit, undo_steps_fit, redo_steps_fit, performed_sound}
use Rattle.ed_model.proofs.sound_laws.plans_are_fit.Goals as goal

pub returns : goal.returns
returns c = record { in_range = plan_fits; edit_steps = edit_steps_fit; undo_steps = undo_steps_fit; redo_steps = redo_steps_fit; keep_sound = performed_sound }
