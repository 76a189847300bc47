use Rattle.scene.proofs.Names.{◌+◌, drop, length, arith, drop_all, changes_of, save_point_told, watchers, bits_of, save_point_notes}
use Rattle.scene.proofs.ChangeSteps.{drop_some, some_has}
use Rattle.scene.proofs.PerformedSoFar.{there}
use Rattle.scene.proofs.NeededSoFar.{needed_next, needed_notes, needed_room}
use Rattle.scene.proofs.undoing.history_need.Goals as goal

pub loop-index-preserved : goal.loop-index-preserved
loop-index-preserved c =
    let d = c.args.document.now.document in
    let all = changes_of c.args.direction d.history in
    let count = c.change_count-count.ensures in
    let next = there all c.loop-index.index (omega arith) in
    let O = some_has _ _ next.0 next.1 c.change_with_need-outline.ensures.outline in
    let D = some_has _ _ next.0 next.1 c.change_with_need-outline.ensures.need in
    rw (c.plus.ensures, c.plus-in-loop-index.ensures, c.change_note_need-notes.ensures next.0 O, c.beside.ensures, D, c.free_behind-free.ensures next.0 O)
    (needed_next (watchers d c.args.views.now) (bits_of c.args.direction) d.line_end_types (save_point_notes (save_point_told c.args.direction d.history) (length (watchers d c.args.views.now)))
    c.loop-index.free next.0 (drop (c.loop-index.index + 1) all) all c.loop-index.need (rw (drop_some all c.loop-index.index next.0 next.1) at c.loop-index.invariant))

pub returns : goal.returns
returns c =
    let d = c.args.document.now.document in
    let all = changes_of c.args.direction d.history in
    let W = watchers d c.args.views.now in
    let told = save_point_notes (save_point_told c.args.direction d.history) (length W) in
    let count = c.change_count-count.ensures in
    let so = rw (drop_all c.loop-index.index all (omega arith)) at c.loop-index.invariant in
    record {
      notes = needed_notes W (bits_of c.args.direction) d.line_end_types told c.loop-index.free all c.loop-index.need so;
      document = needed_room W (bits_of c.args.direction) d.line_end_types told c.loop-index.free all c.loop-index.need so;
    }
