use Rattle.scene.proofs.Names.{ap, ◌∙◌, arith, ints, ℤ, with_text, growth, step_bytes, step_in}
use Rattle.scene.proofs.NotesOfSteps.{note_after}
use Rattle.scene.proofs.step_notes.after_note.Goals as goal

pub returns : goal.returns
returns c = λ text on.
    ap (λ (z : ℤ). with_text (record c.range_note-note.result { lines = z }) (step_bytes (step_in c.args.step text))) (omega (arith, ints))
    ∙ note_after c.args.step c.args.bits _ _ _ (growth c.args.old_lines c.args.lines) text c.range_note-note.result on (c.kind_after.ensures text) c.place_of.ensures c.count_of.ensures c.range_note-note.ensures
