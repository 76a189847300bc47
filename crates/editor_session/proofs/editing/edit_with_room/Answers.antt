use Rattle.editor_session.proofs.Names.{length, sym, ap, subst, ◌∙◌, edit_made, text_of, replacement, scene_in, IsEditWithin, stored_bytes, edit_steps, StepsFitWidth}
use Rattle.std.proofs.lemmas.Result.{on_ok_weaker}
use Rattle.editor_session.proofs.editing.edit_with_room.Goals as goal

pub source_bytes-bytes-requires : goal.source_bytes-bytes-requires
source_bytes-bytes-requires c = (subst (λ x. IsEditWithin x (length c.args.document.now.document.cells) (length c.args.text.now)) c.in-Replace.is c.requires.within).1

pub replace_with_room-requires-clause-range : goal.replace_with_room-requires-clause-range
replace_with_room-requires-clause-range c = (subst (λ x. IsEditWithin x (length c.args.document.now.document.cells) (length c.args.text.now)) c.in-Replace.is c.requires.within).0

pub replace_with_room-requires-clause-wide : goal.replace_with_room-requires-clause-wide
replace_with_room-requires-clause-wide c =
    let a = c.args in let p = c.in-Replace in let d = a.document.now.document in
    let bytes = c.source_bytes-bytes.ensures ∙ ap (stored_bytes p.source a.text.now a.clipboard.now a.pasted.now) c.typed_line_end-line_end.ensures in
    subst (λ ss. StepsFitWidth d ss) (ap (λ x. edit_steps x a.text.now a.clipboard.now a.pasted.now d) p.is ∙ ap (λ xs. replacement p.start p.count xs (text_of d)) (sym bytes)) c.requires.wide

pub convert_with_room-requires-clause-wide : goal.convert_with_room-requires-clause-wide
convert_with_room-requires-clause-wide c =
    let a = c.args in let d = a.document.now.document in
    subst (λ x. StepsFitWidth d (edit_steps x a.text.now a.clipboard.now a.pasted.now d)) c.in-ConvertLineEnds.is c.requires.wide

pub returns-in-Replace-clause-scene : goal.returns-in-Replace-clause-scene
returns-in-Replace-clause-scene c =
    let a = c.args in let p = c.in-Replace in let d = a.document.now.document in
    let bytes = c.source_bytes-bytes.ensures ∙ ap (stored_bytes p.source a.text.now a.clipboard.now a.pasted.now) c.typed_line_end-line_end.ensures in
    on_ok_weaker c.replace_with_room.result
    (λ made. made ∙ ap (λ xs. edit_made (replacement p.start p.count xs (text_of d)) (scene_in d a.views.now.entries a.notes.now.notes)) bytes
    ∙ ap (λ x. edit_made (edit_steps x a.text.now a.clipboard.now a.pasted.now d) (scene_in d a.views.now.entries a.notes.now.notes)) (sym p.is))
    c.replace_with_room.ensures.scene

pub returns-in-Replace-clause-free : goal.returns-in-Replace-clause-free
returns-in-Replace-clause-free c = λ none.
    let a = c.args in let p = c.in-Replace in let d = a.document.now.document in
    let bytes = c.source_bytes-bytes.ensures ∙ ap (stored_bytes p.source a.text.now a.clipboard.now a.pasted.now) c.typed_line_end-line_end.ensures in
    c.replace_with_room.ensures.free (ap (λ xs. replacement p.start p.count xs (text_of d)) bytes ∙ ap (λ x. edit_steps x a.text.now a.clipboard.now a.pasted.now d) (sym p.is) ∙ none)

pub returns-in-ConvertLineEnds-clause-scene : goal.returns-in-ConvertLineEnds-clause-scene
returns-in-ConvertLineEnds-clause-scene c =
    let a = c.args in let d = a.document.now.document in
    on_ok_weaker c.convert_with_room.result
    (λ made. made ∙ ap (λ x. edit_made (edit_steps x a.text.now a.clipboard.now a.pasted.now d) (scene_in d a.views.now.entries a.notes.now.notes)) (sym c.in-ConvertLineEnds.is))
    c.convert_with_room.ensures.scene

pub returns-in-ConvertLineEnds-clause-free : goal.returns-in-ConvertLineEnds-clause-free
returns-in-ConvertLineEnds-clause-free c = λ none.
    let a = c.args in
    c.convert_with_room.ensures.free (ap (λ x. edit_steps x a.text.now a.clipboard.now a.pasted.now a.document.now.document) (sym c.in-ConvertLineEnds.is) ∙ none)
