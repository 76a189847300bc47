use Rattle.scene.proofs.Names.{length, arith, changes_of, save_point_told, watchers, bits_of, save_point_notes}
use Rattle.scene.proofs.ChangeSteps.{some_has}
use Rattle.scene.proofs.PerformedSoFar.{there}
use Rattle.scene.proofs.NeededSoFar.{one_change, notes_of_one, room_of_one}
use Rattle.scene.proofs.undoing.need_of_one.Goals as goal

pub returns-clause-notes : goal.returns-clause-notes
returns-clause-notes c =
    let all = changes_of c.args.direction c.args.document.now.document.history in
    let next = there all 0 (omega arith) in
    let O = some_has _ _ next.0 next.1 c.change_with_need-outline.ensures.outline in
    let N = c.change_note_need-notes.ensures next.0 O in
    let one = one_change all next.0 c.requires.one next.1 in
    let W = watchers c.args.document.now.document c.args.views.now in
    let told = save_point_notes (save_point_told c.args.direction c.args.document.now.document.history) (length W) in
    rw (c.plus.ensures, c.save_point_need.ensures, c.survey-watched.ensures.count)
    (notes_of_one W (bits_of c.args.direction) told all next.0 c.change_note_need-notes.result one N)

pub returns-clause-document : goal.returns-clause-document
returns-clause-document c =
    let d = c.args.document.now.document in
    let all = changes_of c.args.direction d.history in
    let next = there all 0 (omega arith) in
    let D = some_has _ _ next.0 next.1 c.change_with_need-outline.ensures.need in
    let one = one_change all next.0 c.requires.one next.1 in
    rw (c.plus-2.ensures, c.none.ensures) (room_of_one d.line_end_types all next.0 c.change_with_need-outline.result.1 one D)
