use Rattle.macro_script.proofs.Names.{◌≡◌, find, drop, is_recording, recording_note}
use Rattle.macro_script.proofs.recorder.find_recording.Given as goal

abbrev pub invariant-loop-index : goal.invariant-loop-index
invariant-loop-index l = find (is_recording l.view) (drop l.index l.reply.notes) ≡ recording_note l.view l.reply
