use Rattle.scene.proofs.Names.{true, sym, ap, ◌∙◌, length, refl, arith, option_copied, Everyone}
use Rattle.scene.proofs.Pending.{next_found, next_missing, nothing_pending}
use Rattle.scene.proofs.telling.survey.Goals as goal
use Rattle.scene.proofs.telling.survey.Goals.{in-Some, in_default}

pub loop-watcher-preserved : goal.loop-watcher-preserved
loop-watcher-preserved c =
    let ids = c.views-watcher-items.result.now in let i = c.loop-watcher.watcher-index in let so = c.loop-watcher.invariant in
    elim c.match-get.branch [
      | in-Some w ↦
          let e = next_found Everyone 0 c.args.views.now.entries ids i c.requires.named c.loop-watcher-test.true w.in-Some.view.now true (sym c.get.ensures ∙ ap option_copied w.in-Some.is) refl in
          let e = rw c.views-watcher-items.ensures at e in
          let n = ap length e in
          record { counted = omega arith; joined = rw (w.masks-is, w.mask-masks.ensures) (rw e at so.joined); few = omega arith }
      | in_default w ↦
          let e = next_missing Everyone 0 c.args.views.now.entries ids i c.requires.named c.loop-watcher-test.true (sym c.get.ensures ∙ ap option_copied w.in_default.is) in
          let e = rw c.views-watcher-items.ensures at e in
          let n = ap length e in
          record { counted = omega arith; joined = rw w.masks-is (rw e at so.joined); few = omega arith }
    ]

pub overflow_add-count : goal.overflow_add-count
overflow_add-count c = record { fits = omega arith }

pub returns : goal.returns
returns c =
    let e = rw c.views-watcher-items.ensures at (nothing_pending Everyone 0 c.args.views.now.entries c.views-watcher-items.result.now c.loop-watcher.watcher-index c.loop-watcher-test.false) in
    let n = ap length e in
    let so = c.loop-watcher.invariant in
    record { count = omega arith; masks = rw e at so.joined }
