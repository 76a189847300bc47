use Rattle.performing.proofs.Edits.{◌≡◌, ap, sym, ◌∙◌, subst, rules, CanHoldEdit, Document, text_of, Kept, Scene, edit_made, edit_made_id, replacement, scene_in, room_of_steps, SceneNeed, capped_fits, no_steps, room_made, edit_held}
use Rattle.performing.proofs.replacing.replace_with_room.Goals as goal

pub returns-then-need-eq0-clause-scene : goal.returns-then-need-eq0-clause-scene
returns-then-need-eq0-clause-scene c =
    let a = c.args in let d = a.document.now.document in let need = c.replacement_need-need in
    let none = no_steps d.line_end_types (replacement a.start a.count a.bytes.now (text_of d)) need.result.document (ap (λ (n : SceneNeed). n.document) need.ensures) c.if-need-eq0.true in
    sym (ap (λ ss. edit_made ss (scene_in d a.views.now.entries a.notes.now.notes)) none)

pub reserve-requires-2 : goal.reserve-requires-2
reserve-requires-2 c =
    let a = c.args in let d = a.document.now.document in let need = c.replacement_need-need in
    record { wide = capped_fits d (room_of_steps d.line_end_types (replacement a.start a.count a.bytes.now (text_of d))) need.result.document (ap (λ (n : SceneNeed). n.document) need.ensures) c.requires.wide }

pub replace_bytes-requires-clause-room : goal.replace_bytes-requires-clause-room
replace_bytes-requires-clause-room c =
    let a = c.args in let need = c.replacement_need-need in
    room_made c.reserve-2.new.self a.document.now.document (λ d. room_of_steps d.line_end_types (replacement a.start a.count a.bytes.now (text_of d))) need.result
    (ap (λ (k : Kept). k.document) c.reserve-2.ensures.grown.0) (ap (λ (n : SceneNeed). n.document) need.ensures) (c.is_counted.ensures.counted c.if-not-is_counted.false) (search rules)

pub replace_bytes-requires-clause-notes : goal.replace_bytes-requires-clause-notes
replace_bytes-requires-clause-notes c =
    let a = c.args in let d = a.document.now.document in let need = c.replacement_need-need in
    let holds = edit_held c.needs_are_enough.ensures (replacement a.start a.count a.bytes.now (text_of d)) d a.views.now.entries a.notes.now c.reserve.new.self need.result (search rules)
    (ap (λ (n : SceneNeed). n.notes.notes) need.ensures) (ap (λ (n : SceneNeed). n.notes.bytes) need.ensures) (c.is_counted.ensures.counted c.if-not-is_counted.false) in
    subst (λ (x : Document). CanHoldEdit (replacement a.start a.count a.bytes.now (text_of x)) (scene_in x a.views.now.entries c.reserve.new.self.notes) c.reserve.new.self)
    (sym (ap (λ (k : Kept). k.document) c.reserve-2.ensures.grown.0)) holds

pub returns-clause-scene : goal.returns-clause-scene
returns-clause-scene c =
    let a = c.args in let d = a.document.now.document in let views = a.views.now.entries in let before : c.reserve.new.self.notes ≡ a.notes.now.notes = search rules in
    c.replace_bytes.ensures.scene
    ∙ ap (λ (k : Kept). edit_made (replacement a.start a.count a.bytes.now (text_of k.document)) (scene_in k.document views c.reserve.new.self.notes)) c.reserve-2.ensures.grown.0
    ∙ ap (λ ns. edit_made (replacement a.start a.count a.bytes.now (text_of d)) (scene_in d views ns)) before

pub returns-clause-id : goal.returns-clause-id
returns-clause-id c =
    let a = c.args in let d = a.document.now.document in
    ap (λ (x : Scene). x.document.id) (returns-clause-scene c) ∙ edit_made_id (replacement a.start a.count a.bytes.now (text_of d)) (scene_in d a.views.now.entries a.notes.now.notes)
