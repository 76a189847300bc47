use Rattle.std.proofs.lemmas.Bool.{lt-ltb}
use Rattle.scene.proofs.Names.{true, false, sym, ap, ◌∙◌, length, arith, option_copied, Hearers}
use Rattle.scene.proofs.Pending.{pending, next_found, next_missing}
use Rattle.scene.proofs.telling.is_heard.Goals as goal
use Rattle.scene.proofs.telling.is_heard.Goals.{in-Some+else-is_told, in_default}

pub returns-then-is_told : goal.returns-then-is_told
returns-then-is_told c =
    let a = c.args in let ids = c.views-watcher-items.result.now in
    let e = next_found Hearers a.kinds a.views.now.entries ids c.loop-watcher.watcher-index c.requires.named c.loop-watcher-test.true c.in-Some.view.now true
    (sym c.get.ensures ∙ ap option_copied c.in-Some.is) (sym c.is_told.ensures ∙ c.if-is_told.true) in
    let some = ap length (sym c.loop-watcher.invariant ∙ rw c.views-watcher-items.ensures at e) in
    sym (lt-ltb 0 (length (pending Hearers a.kinds a.views.now.entries a.document.now.document.views)) (omega (arith, some)))

pub loop-watcher-preserved : goal.loop-watcher-preserved
loop-watcher-preserved c =
    let a = c.args in let ids = c.views-watcher-items.result.now in let i = c.loop-watcher.watcher-index in
    elim c.match-get.branch [
      | in-Some+else-is_told w ↦
          let e = next_found Hearers a.kinds a.views.now.entries ids i c.requires.named c.loop-watcher-test.true w.in-Some.view.now false
          (sym c.get.ensures ∙ ap option_copied w.in-Some.is) (sym w.is_told.ensures ∙ w.if-is_told.false) in
          sym (rw c.views-watcher-items.ensures at e) ∙ c.loop-watcher.invariant
      | in_default w ↦
          let e = next_missing Hearers a.kinds a.views.now.entries ids i c.requires.named c.loop-watcher-test.true (sym c.get.ensures ∙ ap option_copied w.in_default.is) in
          sym (rw c.views-watcher-items.ensures at e) ∙ c.loop-watcher.invariant
    ]
