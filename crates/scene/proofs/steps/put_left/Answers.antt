use Rattle.scene.proofs.Names.{[], ap, ◌∙◌, told, watchers, with_notes}
use Rattle.scene.proofs.steps.put_left.Goals as goal

pub returns : goal.returns
returns c = c.tell.ensures ∙ ap (λ n. with_notes (told (watchers c.args.document.now.document c.args.views.now) n) c.args.notes.now) (c.blank-note.ensures [])
