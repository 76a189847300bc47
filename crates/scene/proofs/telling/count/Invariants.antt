-- the views counted and the views still to be counted are all views
use Rattle.std.proofs.Common.{◌≡◌, ◌≤◌, ◌+◌, length, drop}
use Rattle.scene.proofs.Pending.{pending}
use Rattle.scene.proofs.telling.count.Given as goal

abbrev pub invariant-loop-watcher : goal.invariant-loop-watcher
invariant-loop-watcher l = record {
  counted : l.count + length (pending l.fn.audience l.fn.kind l.fn.views.entries (drop l.watcher-index l.fn.document.document.views))
      ≡ length (pending l.fn.audience l.fn.kind l.fn.views.entries l.fn.document.document.views);
  few : l.count ≤ l.watcher-index;
}
