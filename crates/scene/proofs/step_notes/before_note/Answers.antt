use Rattle.scene.proofs.NotesOfSteps.{note_before}
use Rattle.scene.proofs.step_notes.before_note.Goals as goal

pub returns : goal.returns
returns c = λ text on. note_before c.args.step c.args.bits _ _ _ text c.range_note.result on (c.kind_before.ensures text) c.place_of.ensures c.count_of.ensures c.range_note.ensures
