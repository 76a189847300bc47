-- none of the views before hears of it
use Rattle.std.proofs.Common.{◌≡◌, drop}
use Rattle.scene.proofs.Names.{Hearers}
use Rattle.scene.proofs.Pending.{pending}
use Rattle.scene.proofs.telling.is_heard.Given as goal

abbrev pub invariant-loop-watcher : goal.invariant-loop-watcher
invariant-loop-watcher l =
    pending Hearers l.fn.kinds l.fn.views.entries (drop l.watcher-index l.fn.document.document.views) ≡ pending Hearers l.fn.kinds l.fn.views.entries l.fn.document.document.views
