use Rattle.scene.proofs.Names.{◌≡◌, drop, changes_of}
use Rattle.scene.proofs.LatestStep.{behind_first}
use Rattle.scene.proofs.PerformedSoFar.{IsPerformedSoFar}
use Rattle.scene.proofs.undoing.perform_changes.Given as goal

-- the remaining changes lead from the scene to that after all of them, and the caret goes where the changes so far put it
abbrev pub invariant-loop-index : goal.invariant-loop-index
invariant-loop-index l =
    let all = changes_of l.fn.direction l.fn.document.document.history in
    IsPerformedSoFar l.fn.direction (drop l.index all) l.lines_changed l.fn.document l.fn.views l.fn.notes l.document l.views l.notes
    × (l.caret ≡ behind_first all l.index)
