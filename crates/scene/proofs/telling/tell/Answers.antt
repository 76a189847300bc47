use Rattle.scene.proofs.Names.{true, false, refl, sym, ap, ◌∙◌, option_copied, with_note_text}
use Rattle.scene.proofs.Pending.{next_found, next_missing, nothing_pending}
use Rattle.scene.proofs.ToldSoFar.{told_nobody, told_one, told_all, room_for_one, note_for_text}
use Rattle.scene.proofs.telling.tell.Goals as goal
use Rattle.scene.proofs.telling.tell.Goals.{in-Some+then-is_told, in-Some+else-is_told, in_default}

pub returns-then-is_full : goal.returns-then-is_full
returns-then-is_full c = told_nobody (with_note_text c.args.text c.args.note.now c.args.notes.now.shared) _ c.args.notes.now (sym c.is_full.ensures ∙ c.if-is_full.true) c.requires.room

pub loop-id-init : goal.loop-id-init
loop-id-init c = record { notes = refl; others = refl }

pub loop-id-preserved : goal.loop-id-preserved
loop-id-preserved c =
    let a = c.args in let ids = c.views-id-items.result.now in let i = c.loop-id.id-index in
    elim c.match-get.branch [
      | in-Some+then-is_told w ↦
          let k = w.in-Some.view.now in
          let e = next_found a.audience a.note.now.kind a.views.now.entries ids i c.requires.named c.loop-id-test.true k true
          (sym c.get.ensures ∙ ap option_copied w.in-Some.is) (sym w.is_told.ensures ∙ w.if-is_told.true) in
          told_one _ _ _ _ k.view _ _ _ (rw (rw c.views-id-items.ensures at e) at c.loop-id.invariant)
          (note_for_text a.text a.note.now w.note_for.result w.id.result k.view.id c.loop-id.notes.shared a.notes.now.shared w.note_for.ensures w.id.ensures (ap (λ g. g.shared) c.loop-id.invariant.others)) (w.notes-is ∙ w.put.ensures)
      | in-Some+else-is_told w ↦
          let e = next_found a.audience a.note.now.kind a.views.now.entries ids i c.requires.named c.loop-id-test.true w.in-Some.view.now false
          (sym c.get.ensures ∙ ap option_copied w.in-Some.is) (sym w.is_told.ensures ∙ w.if-is_told.false) in
          rw w.notes-is (rw (rw c.views-id-items.ensures at e) at c.loop-id.invariant)
      | in_default w ↦
          let e = next_missing a.audience a.note.now.kind a.views.now.entries ids i c.requires.named c.loop-id-test.true (sym c.get.ensures ∙ ap option_copied w.in_default.is) in
          rw w.notes-is (rw (rw c.views-id-items.ensures at e) at c.loop-id.invariant)
    ]

pub put-requires : goal.put-requires
put-requires c =
    let e = next_found c.args.audience c.args.note.now.kind c.args.views.now.entries c.views-id-items.result.now c.loop-id.id-index c.requires.named c.loop-id-test.true c.in-Some.view.now true
    (sym c.get.ensures ∙ ap option_copied c.in-Some.is) (sym c.is_told.ensures ∙ c.if-is_told.true) in
    room_for_one _ _ _ c.in-Some.view.now.view _ _ (rw (rw c.views-id-items.ensures at e) at c.loop-id.invariant) c.requires.room

pub returns : goal.returns
returns c =
    let e = nothing_pending c.args.audience c.args.note.now.kind c.args.views.now.entries c.views-id-items.result.now c.loop-id.id-index c.loop-id-test.false in
    told_all _ _ _ _ (rw (rw c.views-id-items.ensures at e) at c.loop-id.invariant)
