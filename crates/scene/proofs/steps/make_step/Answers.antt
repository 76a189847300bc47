use Rattle.scene.proofs.Names.{ap, TextStep, appended, text_of, Scene, step_in, need_of}
use Rattle.document.specs.Kept.{DocumentCapacity}
use Rattle.document.specs.TextSteps.{need_then, with_appended}
use Rattle.scene.specs.proved.Watched.{watched_with_history}
use Rattle.scene.proofs.StepScenes.{text_room_with_history, same_history_room}
use Rattle.scene.proofs.steps.make_step.Goals as goal

pub step_heard-requires-clause-room : goal.step_heard-requires-clause-room
step_heard-requires-clause-room c =
    let k = c.args.document.now in
    let h = appended c.args.later (TextStep (step_in c.args.step (text_of k.document))) k.document.history in
    rw c.append-begins.ensures.document (text_room_with_history k h (need_of k.document.line_end_types c.args.step) c.requires.room.0)

pub step_heard-requires-clause-watched : goal.step_heard-requires-clause-watched
step_heard-requires-clause-watched c =
    let d = c.args.document.now.document in
    let h = appended c.args.later (TextStep (step_in c.args.step (text_of d))) d.history in
    rw c.append-begins.ensures.document (watched_with_history d h c.args.views.now c.requires.watched)

pub step_heard-requires-clause-notes : goal.step_heard-requires-clause-notes
step_heard-requires-clause-notes c =
    rw (c.append-begins.ensures.document, c.leaves_save_point-is_left.ensures, c.user_bits.ensures.before, c.user_bits.ensures.after, c.append-begins.ensures.begins) c.requires.notes

pub returns-clause-scene : goal.returns-clause-scene
returns-clause-scene c =
    rw (c.append-begins.ensures.document, c.leaves_save_point-is_left.ensures, c.user_bits.ensures.before, c.user_bits.ensures.after, c.append-begins.ensures.begins) at c.step_heard.ensures.scene

pub returns-clause-rooms : goal.returns-clause-rooms
returns-clause-rooms c =
    let stay = rw c.append-begins.ensures.document at c.step_heard.ensures.rooms in
    record { memory = stay.memory; capacity = stay.capacity; table = stay.table }

pub returns-clause-room : goal.returns-clause-room
returns-clause-room c = λ rest room.
    let k = c.args.document.now in
    let s = step_in c.args.step (text_of k.document) in
    let scene = rw c.append-begins.ensures.document at c.step_heard.ensures.scene in
    let text = rw c.append-begins.ensures.document at c.step_heard.ensures.room in
    let stay = rw c.append-begins.ensures.document at c.step_heard.ensures.rooms in
    let left = rw c.append-begins.ensures.document at c.append-begins.ensures.room in (
      text rest (text_room_with_history k (appended c.args.later (TextStep s) k.document.history) (need_then k.document.line_end_types s rest) room.0),
      same_history_room (with_appended c.args.later c.args.step k) c.step_heard.new.document rest (ap (λ (x : Scene). x.document.history) scene) (ap (λ (x : DocumentCapacity). x.history) stay.memory) (left rest room.1),
    )
