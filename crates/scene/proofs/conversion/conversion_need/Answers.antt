use Rattle.scene.proofs.Names.{[], ap, sym, ◌∙◌, false, missing_from, text_of, DocumentNeed, amount_sum, amounts_added, NoteRoom, scene_in, note_room, capped_room, deletions_of, rooms_added}
use Rattle.scene.proofs.ConversionNeeds.{both_needs, both_notes, conversion_beside}
use Rattle.scene.proofs.conversion.conversion_need.Goals as goal

pub returns-clause-notes : goal.returns-clause-notes
returns-clause-notes c =
    let d = c.args.document.now.document in
    let insertions = c.need_of_insertions-insertions in
    let deletions = c.need_of_deletions-deletions in
    c.plus-2.ensures ∙ ap (λ (r : NoteRoom). note_room (amount_sum r.notes c.notes_of_leaving.result) (amount_sum r.bytes 0)) c.plus.ensures
    ∙ both_notes (scene_in d c.args.views.now.entries []) (missing_from 0 false c.args.to (text_of d)) (deletions_of c.args.to (text_of d)) c.notes_of_leaving.result
    insertions.result.notes deletions.result.notes c.notes_of_leaving.ensures insertions.ensures.notes deletions.ensures.notes

pub returns-clause-document : goal.returns-clause-document
returns-clause-document c =
    let d = c.args.document.now.document in
    let insertions = c.need_of_insertions-insertions in
    let deletions = c.need_of_deletions-deletions in
    let puts = missing_from 0 false c.args.to (text_of d) in
    let takes = deletions_of c.args.to (text_of d) in
    c.plus-3.ensures ∙ ap (λ (r : DocumentNeed). amounts_added r deletions.result.document) insertions.ensures.document
    ∙ ap (λ (r : DocumentNeed). amounts_added (capped_room (rooms_added d.line_end_types puts)) r) deletions.ensures.document
    ∙ both_needs d.line_end_types puts takes ∙ ap capped_room (sym (conversion_beside d.line_end_types c.args.to (text_of d)))
