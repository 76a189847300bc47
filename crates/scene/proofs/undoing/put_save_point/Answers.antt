use Rattle.scene.proofs.Names.{◌∙◌, ap, [], Notice, told, watchers, with_notes}
use Rattle.scene.proofs.undoing.put_save_point.Goals as goal
use Rattle.scene.proofs.undoing.put_save_point.Goals.{then-is_there, else-is_there}

pub returns : goal.returns
returns c =
    let put = λ (n : Notice). with_notes (told (watchers c.args.document.now.document c.args.views.now) n) c.args.notes.now in
    elim c.if-is_there.branch [
      | then-is_there w ↦ rw w.if-is_there.true (c.tell.ensures ∙ ap put (rw w.code-is at (c.blank-note.ensures [])))
      | else-is_there w ↦ rw w.if-is_there.false (c.tell.ensures ∙ ap put (rw w.code-is at (c.blank-note.ensures [])))
    ]
