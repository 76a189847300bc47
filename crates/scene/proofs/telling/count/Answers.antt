use Rattle.scene.proofs.Names.{true, false, sym, ap, ◌∙◌, length, arith, option_copied}
use Rattle.scene.proofs.Pending.{next_found, next_missing, nothing_pending}
use Rattle.scene.proofs.telling.count.Goals as goal
use Rattle.scene.proofs.telling.count.Goals.{in-Some+then-is_told, in-Some+else-is_told, in_default}

pub loop-watcher-preserved : goal.loop-watcher-preserved
loop-watcher-preserved c =
    let a = c.args in let ids = c.views-watcher-items.result.now in let i = c.loop-watcher.watcher-index in let so = c.loop-watcher.invariant.counted in
    elim c.match-get.branch [
      | in-Some+then-is_told w ↦
          let e = next_found a.audience a.kind a.views.now.entries ids i c.requires.named c.loop-watcher-test.true w.in-Some.view.now true
          (sym c.get.ensures ∙ ap option_copied w.in-Some.is) (sym w.is_told.ensures ∙ w.if-is_told.true) in
          let e = ap length (rw c.views-watcher-items.ensures at e) in
          record { counted = omega arith; few = omega arith }
      | in-Some+else-is_told w ↦
          let e = next_found a.audience a.kind a.views.now.entries ids i c.requires.named c.loop-watcher-test.true w.in-Some.view.now false
          (sym c.get.ensures ∙ ap option_copied w.in-Some.is) (sym w.is_told.ensures ∙ w.if-is_told.false) in
          let e = ap length (rw c.views-watcher-items.ensures at e) in
          record { counted = omega arith; few = omega arith }
      | in_default w ↦
          let e = next_missing a.audience a.kind a.views.now.entries ids i c.requires.named c.loop-watcher-test.true (sym c.get.ensures ∙ ap option_copied w.in_default.is) in
          let e = ap length (rw c.views-watcher-items.ensures at e) in
          record { counted = omega arith; few = omega arith }
    ]

pub overflow_add-count : goal.overflow_add-count
overflow_add-count c = record { fits = omega arith }

pub returns : goal.returns
returns c =
    let e = nothing_pending c.args.audience c.args.kind c.args.views.now.entries c.views-watcher-items.result.now c.loop-watcher.watcher-index c.loop-watcher-test.false in
    let e = ap length (rw c.views-watcher-items.ensures at e) in
    let so = c.loop-watcher.invariant.counted in
    omega arith
