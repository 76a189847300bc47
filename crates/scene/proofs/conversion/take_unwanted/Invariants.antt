use Rattle.scene.proofs.Names.{length, text_of, unwanted_in}
use Rattle.scene.proofs.StepsInTurn.{TakesLeft}
use Rattle.scene.proofs.conversion.take_unwanted.Given as goal

abbrev pub invariant-taking : goal.invariant-taking
invariant-taking l = TakesLeft l.to l.place l.later l.initial.later l.initial.document l.document l.initial.views l.views l.initial.notes l.notes

abbrev pub decreases-taking : goal.decreases-taking
decreases-taking l = length (unwanted_in l.to (text_of l.document.document) l.place)
