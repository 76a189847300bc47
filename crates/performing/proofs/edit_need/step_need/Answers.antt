use Rattle.performing.proofs.Edits.{[], ◌∙◌, notes_of_step, bytes_of_step, leaving_count, watching, scene_in, step_on, and_leaving, and_none, lent_needs, one_room, same_need}
use Rattle.performing.proofs.edit_need.step_need.Goals as goal

pub returns : goal.returns
returns c =
    let a = c.args in let k = a.document.now in let d = k.document in let step = step_on k a.step in let views = watching (scene_in d a.views.now.entries []).views d in
    rw (c.plus.ensures, c.plus-2.ensures, c.none.ensures, c.note_need.ensures.notes, c.note_need.ensures.bytes, c.leaving_need.ensures)
    (same_need (and_leaving (notes_of_step views step) (leaving_count views d.history)) (and_none (bytes_of_step views step)) (one_room d.line_end_types step c.step_need.result (c.step_need.ensures.need ∙ lent_needs k a.step c.requires.fits)))
