-- the views notified and the views still to be notified are all views
use Rattle.scene.proofs.Names.{drop, with_note_text}
use Rattle.scene.proofs.Pending.{pending}
use Rattle.scene.proofs.ToldSoFar.{IsToldSoFar}
use Rattle.scene.proofs.telling.tell.Given as goal

abbrev pub invariant-loop-id : goal.invariant-loop-id
invariant-loop-id l =
    IsToldSoFar (with_note_text l.fn.text l.fn.note l.fn.notes.shared)
    (pending l.fn.audience l.fn.note.kind l.fn.views.entries l.fn.document.document.views)
    (pending l.fn.audience l.fn.note.kind l.fn.views.entries (drop l.id-index l.fn.document.document.views))
    l.fn.notes l.notes
