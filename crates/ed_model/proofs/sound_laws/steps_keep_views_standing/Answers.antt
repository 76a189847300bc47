use Rattle.ed_model.proofs.SoundDocuments.{view_made}
use Rattle.ed_model.proofs.sound_laws.steps_keep_views_standing.Goals as goal

pub returns : goal.returns
returns c = view_made
