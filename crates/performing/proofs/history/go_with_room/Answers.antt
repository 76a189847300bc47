use Rattle.document.specs.Undoing.{changes_of, history_behind}
use Rattle.performing.proofs.Edits.{ap, ◌∙◌, rules, Kept, Scene, scene_in, bits_of, room_of_changes, capped_fits, room_made, transaction_keeps_id}
use Rattle.performing.proofs.history.go_with_room.Goals as goal

pub reserve-requires-2 : goal.reserve-requires-2
reserve-requires-2 c =
    let a = c.args in let d = a.document.now.document in
    record { wide = capped_fits d (room_of_changes d.line_end_types (changes_of a.direction d.history)) c.history_need-need.result.document c.history_need-need.ensures.document c.requires.wide }

pub perform_history-requires-clause-room : goal.perform_history-requires-clause-room
perform_history-requires-clause-room c =
    let a = c.args in let need = c.history_need-need in
    let made = room_made c.reserve-2.new.self a.document.now.document (λ d. room_of_changes d.line_end_types (changes_of a.direction d.history)) need.result
    (ap (λ (k : Kept). k.document) c.reserve-2.ensures.grown.0) need.ensures.document (search rules) (search rules) in
    made.0

pub returns-clause-id : goal.returns-clause-id
returns-clause-id c =
    let a = c.args in let d = c.reserve-2.new.self.document in
    ap (λ (x : Scene). x.document.id) c.perform_history.ensures.scene
    ∙ transaction_keeps_id (bits_of a.direction) (changes_of a.direction d.history) (history_behind a.direction d.history) (scene_in d a.views.now.entries c.reserve.new.self.notes)
    ∙ ap (λ (k : Kept). k.document.id) c.reserve-2.ensures.grown.0
