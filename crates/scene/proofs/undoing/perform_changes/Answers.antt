use Rattle.scene.proofs.Names.{◌+◌, ◌<◌, drop, length, refl, sym, ap, ◌∙◌, subst, arith, nat_lt, ◌==◌, drop_all, changes_of, turn_of}
use Rattle.scene.proofs.ChangeSteps.{drop_some, some_has}
use Rattle.scene.proofs.LatestStep.{behind_all, caret_next}
use Rattle.scene.proofs.PerformedSoFar.{performed_none, quiet_notes, still_quiet, last_is, can_at, performed_next, performed_all}
use Rattle.scene.proofs.undoing.perform_changes.Goals as goal

pub loop-index-init : goal.loop-index-init
loop-index-init c = (performed_none c.args.direction c.args.document.now c.args.views.now c.args.notes.now c.requires.can, refl)

pub change_outline-outline-requires : goal.change_outline-outline-requires
change_outline-outline-requires c =
    let count = c.change_count-count.ensures in
    record { there = subst (λ h. c.loop-index.index < length (changes_of c.args.direction h)) (sym c.loop-index.invariant.0.history) (omega arith) }

pub caret_by-caret-requires : goal.caret_by-caret-requires
caret_by-caret-requires c =
    let a = c.args in let l = c.loop-index in let count = c.change_count-count.ensures in
    let next = can_at (turn_of a.direction l.index c.change_count-count.result) l.lines_changed a.document.now l.document a.views.now l.views a.notes.now l.notes l.invariant.0 c.requires.can (omega arith) in
    record { can = (next.0, some_has _ _ next.0 next.1.at c.change_outline-outline.ensures.outline, next.1.fits, next.1.room) }

pub perform_change-lines_changed-requires-clause-quiet : goal.perform_change-lines_changed-requires-clause-quiet
perform_change-lines_changed-requires-clause-quiet c = λ is change.
    let none = quiet_notes c.args.direction c.args.document.now c.args.views.now c.args.notes.now (nat_lt 1 c.change_count-count.result) c.is_quiet-quiet.result c.requires.can c.is_quiet-quiet.ensures is in
    rw c.turn_at-turn.ensures (λ at. still_quiet _ _ _ _ _ _ _ _ _ _ change c.loop-index.invariant.0 none at)

pub perform_change-lines_changed-requires-clause-can : goal.perform_change-lines_changed-requires-clause-can
perform_change-lines_changed-requires-clause-can c =
    let a = c.args in let l = c.loop-index in let count = c.change_count-count.ensures in
    let next = can_at (turn_of a.direction l.index c.change_count-count.result) l.lines_changed a.document.now l.document a.views.now l.views a.notes.now l.notes l.invariant.0 c.requires.can (omega arith) in
    rw c.turn_at-turn.ensures (next.0, next.1)

pub perform_change-lines_changed-requires-clause-outline : goal.perform_change-lines_changed-requires-clause-outline
perform_change-lines_changed-requires-clause-outline c = rw c.turn_at-turn.ensures c.change_outline-outline.ensures.outline

pub loop-index-preserved : goal.loop-index-preserved
loop-index-preserved c =
    let a = c.args in let l = c.loop-index in let count = c.change_count-count.ensures in
    let all = changes_of a.direction a.document.now.document.history in
    let turn = turn_of a.direction l.index c.change_count-count.result in
    let within : l.index < length all = omega arith in
    let next = can_at turn l.lines_changed a.document.now l.document a.views.now l.views a.notes.now l.notes l.invariant.0 c.requires.can within in
    let performed = (rw c.turn_at-turn.ensures at c.perform_change-lines_changed.ensures) next.0 next.1.at in
    let outline = some_has _ _ next.0 next.1.at c.change_outline-outline.ensures.outline in (
      performed_next turn next.0 (drop (l.index + 1) all) l.lines_changed a.document.now l.document a.views.now l.views a.notes.now l.notes (rw (drop_some all l.index next.0 next.2) at l.invariant.0)
          c.perform_change-lines_changed.result _ _ _ c.positions_after_a_step.ensures.cells_follow_bytes (ap (λ n. nat_lt 1 n) count) (ap (λ n. l.index + 1 == n) count ∙ last_is all l.index within) performed,
      c.caret_by-caret.ensures ∙ caret_next all l.index next.0 c.change_outline-outline.result l.caret next.2 outline l.invariant.1,
    )

pub returns : goal.returns
returns c =
    let a = c.args in let l = c.loop-index in let count = c.change_count-count.ensures in
    let all = changes_of a.direction a.document.now.document.history in
    record {
      all = performed_all a.direction l.lines_changed a.document.now l.document a.views.now l.views a.notes.now l.notes (rw (drop_all l.index all (omega arith)) at l.invariant.0);
      caret = l.invariant.1 ∙ behind_all all l.index (omega arith);
    }
