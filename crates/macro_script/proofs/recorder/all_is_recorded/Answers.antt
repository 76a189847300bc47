use Rattle.macro_script.proofs.Recorded.{records_all}
use Rattle.macro_script.proofs.recorder.all_is_recorded.Goals as goal

pub returns : goal.returns
returns c = records_all
