use Rattle.script_ends.proofs.TakenBytes.{script_read, script_refused}
use Rattle.script_ends.proofs.reading.read_script.Goals as goal

pub returns-in-Ok-clause-script : goal.returns-in-Ok-clause-script
returns-in-Ok-clause-script g c = script_read _ c.in_ok-text.text.items c.deref.result.now c.in-Ok.script c.in_ok-text.ensures.text c.deref.ensures.value c.in-Ok.ensures

pub returns-clause-script : goal.returns-clause-script
returns-clause-script g c = script_refused _ c.in_ok-text.text.items c.deref.result.now c.in-Err.fault c.in_ok-text.ensures.text c.deref.ensures.value c.in-Err.ensures
