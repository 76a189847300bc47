use Rattle.macro_script.proofs.Names.{◌∙◌, sym, with_text}
use Rattle.macro_script.proofs.Recorded.{found_here, not_here}
use Rattle.macro_script.proofs.recorder.find_recording.Goals as goal

pub returns-then-tells_recording : goal.returns-then-tells_recording
returns-then-tells_recording c =
    let text = c.note.result.1.now in
    let here = found_here c.args.view c.loop-index.index c.args.reply.now.notes (with_text c.note.result.0.now text) c.note.ensures (sym (c.if-tells_recording.ensures text)) in
    (here.0, c.note.ensures ∙ sym here.1 ∙ c.loop-index.invariant)

pub loop-index-preserved : goal.loop-index-preserved
loop-index-preserved c =
    let text = c.note.result.1.now in
    not_here c.args.view c.loop-index.index c.args.reply.now.notes (with_text c.note.result.0.now text) c.note.ensures (sym (c.if-tells_recording.ensures text)) ∙ c.loop-index.invariant
