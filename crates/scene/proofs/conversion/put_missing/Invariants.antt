use Rattle.scene.proofs.Names.{length, text_of, missing_in}
use Rattle.scene.proofs.StepsInTurn.{PutsLeft}
use Rattle.scene.proofs.conversion.put_missing.Given as goal

abbrev pub invariant-putting : goal.invariant-putting
invariant-putting l = PutsLeft l.to l.place l.later l.initial.document l.document l.initial.views l.views l.initial.notes l.notes

abbrev pub decreases-putting : goal.decreases-putting
decreases-putting l = length (missing_in l.to (text_of l.document.document) l.place)
