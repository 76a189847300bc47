-- the views counted and joined, and the views still to be, are all views
use Rattle.scene.proofs.Names.{◌≡◌, ◌≤◌, ◌+◌, length, drop, Everyone, masks_from, masks_of}
use Rattle.scene.proofs.Pending.{pending}
use Rattle.scene.proofs.telling.survey.Given as goal

abbrev pub invariant-loop-watcher : goal.invariant-loop-watcher
invariant-loop-watcher l =
    let rest = pending Everyone 0 l.fn.views.entries (drop l.watcher-index l.fn.document.document.views) in
    let whole = pending Everyone 0 l.fn.views.entries l.fn.document.document.views in
    record {
      counted : l.count + length rest ≡ length whole;
      joined : masks_from l.masks rest ≡ masks_of whole;
      few : l.count ≤ l.watcher-index;
    }
