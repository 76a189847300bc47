use Rattle.ed_model.specs.LineEnds.{conversion_steps}
use Rattle.scene.specs.declared.need.NoteRoom.{NoteRoom}
use Rattle.performing.proofs.Edits.{◌≡◌, ap, sym, ◌∙◌, subst, rules, CanHoldEdit, Document, text_of, Kept, Scene, edit_made, edit_made_id, scene_in, room_of_steps, capped_fits, no_steps, room_made, edit_held}
use Rattle.performing.proofs.converting.convert_with_room.Goals as goal

pub returns-then-need-eq0-clause-scene : goal.returns-then-need-eq0-clause-scene
returns-then-need-eq0-clause-scene c =
    let a = c.args in let d = a.document.now.document in let need = c.conversion_need-need in
    let none = no_steps d.line_end_types (conversion_steps a.to (text_of d)) need.result.document need.ensures.document c.if-need-eq0.true in
    sym (ap (λ ss. edit_made ss (scene_in d a.views.now.entries a.notes.now.notes)) none)

pub reserve-requires-2 : goal.reserve-requires-2
reserve-requires-2 c =
    let a = c.args in let d = a.document.now.document in
    record { wide = capped_fits d (room_of_steps d.line_end_types (conversion_steps a.to (text_of d))) c.conversion_need-need.result.document c.conversion_need-need.ensures.document c.requires.wide }

pub convert-requires : goal.convert-requires
convert-requires c =
    let a = c.args in let d = a.document.now.document in let need = c.conversion_need-need in let same = ap (λ (k : Kept). k.document) c.reserve-2.ensures.grown.0 in
    let counted = c.is_counted.ensures.counted c.if-not-is_counted.false in
    let holds = edit_held c.needs_are_enough.ensures (conversion_steps a.to (text_of d)) d a.views.now.entries a.notes.now c.reserve.new.self need.result (search rules)
    (ap (λ (n : NoteRoom). n.notes) need.ensures.notes) (ap (λ (n : NoteRoom). n.bytes) need.ensures.notes) counted in
    record {
      watched = search rules;
      room = room_made c.reserve-2.new.self d (λ d. room_of_steps d.line_end_types (conversion_steps a.to (text_of d))) need.result same need.ensures.document counted (search rules);
      holds = subst (λ (x : Document). CanHoldEdit (conversion_steps a.to (text_of x)) (scene_in x a.views.now.entries c.reserve.new.self.notes) c.reserve.new.self) (sym same) holds;
    }

pub returns-clause-scene : goal.returns-clause-scene
returns-clause-scene c =
    let a = c.args in let d = a.document.now.document in let views = a.views.now.entries in let before : c.reserve.new.self.notes ≡ a.notes.now.notes = search rules in
    c.convert.ensures.scene ∙ ap (λ (k : Kept). edit_made (conversion_steps a.to (text_of k.document)) (scene_in k.document views c.reserve.new.self.notes)) c.reserve-2.ensures.grown.0
    ∙ ap (λ ns. edit_made (conversion_steps a.to (text_of d)) (scene_in d views ns)) before

pub returns-clause-id : goal.returns-clause-id
returns-clause-id c =
    let a = c.args in let d = a.document.now.document in
    ap (λ (x : Scene). x.document.id) (returns-clause-scene c) ∙ edit_made_id (conversion_steps a.to (text_of d)) (scene_in d a.views.now.entries a.notes.now.notes)
