use Rattle.performing.proofs.Edits.{[], ◌+◌, arith, slice_range, text_of, Insert, Delete, length_of_range, scene_in, watching, notes_of_step, bytes_of_step, leaving_count, inserts_alone, deletes_alone, both_steps, then_leaving, then_more, two_rooms, same_need}
use Rattle.performing.proofs.edit_need.replacement_need.Goals as goal

pub returns-then-count-eq0 : goal.returns-then-count-eq0
returns-then-count-eq0 c = let a = c.args in rw (inserts_alone a.document.now.document a.start a.count a.bytes.now c.requires.range c.if-count-eq0.true c.if-is_empty.ensures) c.step_need.ensures

pub returns-then-is_empty-2 : goal.returns-then-is_empty-2
returns-then-is_empty-2 c =
    let a = c.args in rw (deletes_alone a.document.now.document a.start a.count a.bytes.now c.requires.range c.if-count-eq0.false c.if-is_empty-2.ensures) c.step_need-need.ensures

pub returns : goal.returns
returns c =
    let a = c.args in let d = a.document.now.document in let bytes = slice_range (text_of d) a.start (a.start + a.count) in
    let gone = Delete a.start bytes in let come = Insert a.start a.bytes.now in let views = watching (scene_in d a.views.now.entries []).views d in
    rw (c.plus.ensures, c.plus-2.ensures, c.step_need-need.ensures, c.note_need.ensures.notes, c.note_need.ensures.bytes, c.saturating_sub.ensures, c.step_need-room.ensures.need)
    (rw (both_steps d a.start a.count a.bytes.now c.requires.range c.if-count-eq0.false c.if-is_empty-2.ensures)
    (same_need (then_leaving (leaving_count views d.history) (notes_of_step views gone) (notes_of_step views come)) (then_more (bytes_of_step views gone) (bytes_of_step views come))
    (two_rooms d.line_end_types a.start a.count bytes come (length_of_range d.cells a.start a.count c.requires.range) (omega arith))))
