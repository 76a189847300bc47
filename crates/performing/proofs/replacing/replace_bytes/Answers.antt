use Rattle.document.specs.declared.text_step.TextStep.TheVariants as lent
use Rattle.scene.specs.Steps.{scene_made, made_bytes}
use Rattle.scene.specs.proved.Watched.{watched_with_history}
use Rattle.performing.proofs.Edits.{[], Insert, ◌≡◌, ◌+◌, false, kept_scene, sealed_outside_groups, CanHold, LeavesRoom, step_on, first_room, inserts_alone, deletes_alone, deletion_fits, room_of_first, first_of_two, second_of_two, second_room, two_made}
use Rattle.performing.proofs.replacing.replace_bytes.Goals as goal

pub make_step-requires-clause-room : goal.make_step-requires-clause-room
make_step-requires-clause-room c =
    let a = c.args in let d = a.document.now.document in
    first_room a.document.now d.line_end_types (Insert a.start a.bytes.now) [] (rw (inserts_alone d a.start a.count a.bytes.now c.requires.range c.if-count-eq0.true c.if-is_empty.ensures) at c.requires.room)

pub make_step-requires-clause-notes : goal.make_step-requires-clause-notes
make_step-requires-clause-notes c = rw (inserts_alone c.args.document.now.document c.args.start c.args.count c.args.bytes.now c.requires.range c.if-count-eq0.true c.if-is_empty.ensures) at c.requires.notes

pub returns-then-count-eq0-clause-scene : goal.returns-then-count-eq0-clause-scene
returns-then-count-eq0-clause-scene c = rw (inserts_alone c.args.document.now.document c.args.start c.args.count c.args.bytes.now c.requires.range c.if-count-eq0.true c.if-is_empty.ensures) c.make_step.ensures.scene

pub make_step-requires-then-is_empty-2-clause-room : goal.make_step-requires-then-is_empty-2-clause-room
make_step-requires-then-is_empty-2-clause-room c =
    let a = c.args in
    deletion_fits a.document.now a.start a.count [] c.requires.range
    (rw (deletes_alone a.document.now.document a.start a.count a.bytes.now c.requires.range c.if-count-eq0.false c.if-is_empty-2.ensures) at c.requires.room)

pub make_step-requires-then-is_empty-2-clause-notes : goal.make_step-requires-then-is_empty-2-clause-notes
make_step-requires-then-is_empty-2-clause-notes c =
    let a = c.args in rw (deletes_alone a.document.now.document a.start a.count a.bytes.now c.requires.range c.if-count-eq0.false c.if-is_empty-2.ensures) at c.requires.notes

pub returns-then-is_empty-2-clause-scene : goal.returns-then-is_empty-2-clause-scene
returns-then-is_empty-2-clause-scene c =
    let a = c.args in
    rw (deletes_alone a.document.now.document a.start a.count a.bytes.now c.requires.range c.if-count-eq0.false c.if-is_empty-2.ensures) c.make_step-then-is_empty-2.ensures.scene

pub make_step-requires-2-clause-room : goal.make_step-requires-2-clause-room
make_step-requires-2-clause-room c =
    let a = c.args in
    rw c.seal_outside_groups.ensures (room_of_first a.start a.count a.bytes.now a.document.now a.views.now a.notes.now c.requires.range c.if-count-eq0.false c.if-is_empty-2.ensures c.requires.room)

pub make_step-requires-2-clause-notes : goal.make_step-requires-2-clause-notes
make_step-requires-2-clause-notes c =
    let a = c.args in let k = c.seal_outside_groups.new.self in let s = lent.Delete a.start a.count in
    let can : CanHold a.notes.now (scene_made false s k a.views.now a.notes.now) (a.notes.now.held + made_bytes false s k a.views.now) =
    rw c.seal_outside_groups.ensures (first_of_two a.start a.count a.bytes.now a.document.now a.views.now a.notes.now c.requires.range c.if-count-eq0.false c.if-is_empty-2.ensures c.requires.notes) in can

pub make_step-requires-3-clause-room : goal.make_step-requires-3-clause-room
make_step-requires-3-clause-room c =
    let a = c.args in let n = c.make_step-2.new in let k = c.seal_outside_groups.new.self in let s = lent.Delete a.start a.count in
    let made : kept_scene n.document n.views n.notes ≡ scene_made false s k a.views.now a.notes.now = c.make_step-2.ensures.scene in
    let left : LeavesRoom (step_on k s) k n.document = c.make_step-2.ensures.room in
    second_room a.start a.count a.bytes.now a.document.now a.views.now a.notes.now c.requires.range c.if-count-eq0.false c.if-is_empty-2.ensures n.document n.views n.notes (rw c.seal_outside_groups.ensures at made)
    c.requires.room (rw c.seal_outside_groups.ensures at left)

pub make_step-requires-3-clause-notes : goal.make_step-requires-3-clause-notes
make_step-requires-3-clause-notes c =
    let a = c.args in let n = c.make_step-2.new in let k = c.seal_outside_groups.new.self in let s = lent.Delete a.start a.count in
    let made : kept_scene n.document n.views n.notes ≡ scene_made false s k a.views.now a.notes.now = c.make_step-2.ensures.scene in
    let held : n.notes.held ≡ a.notes.now.held + made_bytes false s k a.views.now = c.make_step-2.ensures.held in
    second_of_two a.start a.count a.bytes.now a.document.now a.views.now a.notes.now c.requires.range c.if-count-eq0.false c.if-is_empty-2.ensures n.document n.views n.notes (rw c.seal_outside_groups.ensures at made)
    c.requires.notes c.make_step-2.ensures.rooms.capacity (rw c.seal_outside_groups.ensures at held)

pub returns-clause-scene : goal.returns-clause-scene
returns-clause-scene c =
    let a = c.args in let n = c.make_step-2.new in let m = c.make_step-3.new in
    let made : kept_scene n.document n.views n.notes ≡ scene_made false (lent.Delete a.start a.count) c.seal_outside_groups.new.self a.views.now a.notes.now = c.make_step-2.ensures.scene in
    rw c.seal_outside_groups-2.ensures
    (two_made a.start a.count a.bytes.now a.document.now a.views.now a.notes.now c.requires.range c.if-count-eq0.false c.if-is_empty-2.ensures n.document n.views n.notes (rw c.seal_outside_groups.ensures at made)
    (kept_scene m.document m.views m.notes) c.make_step-3.ensures.scene)

pub returns-clause-watched : goal.returns-clause-watched
returns-clause-watched c =
    let m = c.make_step-3.new in
    rw c.seal_outside_groups-2.ensures (watched_with_history m.document.document (sealed_outside_groups m.document.document.history) m.views c.make_step-3.ensures.watched)
