use Rattle.scene.proofs.Names.{arith, text_of, edited, unwanted_in, kept_scene, first_held}
use Rattle.scene.proofs.StepsInTurn.{text_after, take_of, take_room, take_made}
use Rattle.scene.proofs.conversion.take_unwanted.Goals as goal

pub make_step-requires-clause-room : goal.make_step-requires-clause-room
make_step-requires-clause-room c =
    let p = c.taking in let left = rw c.in-Some.ensures.steps at p.invariant.left in
    take_room c.args.to p.place c.in-Some.found (unwanted_in c.args.to (edited (take_of c.in-Some.found p.document) (text_of p.document.document)) c.in-Some.found) p.document c.in-Some.ensures left.can.room

pub make_step-requires-clause-notes : goal.make_step-requires-clause-notes
make_step-requires-clause-notes c =
    let p = c.taking in let s = take_of c.in-Some.found p.document in let left = rw c.in-Some.ensures.steps at p.invariant.left in
    first_held p.later s (unwanted_in c.args.to (edited s (text_of p.document.document)) c.in-Some.found) (kept_scene p.document p.views p.notes) p.notes left.can.holds

pub taking-smaller : goal.taking-smaller
taking-smaller c =
    let p = c.taking in let n = c.make_step.new in
    rw (text_after p.later (take_of c.in-Some.found p.document) (kept_scene p.document p.views p.notes) (kept_scene n.document n.views n.notes) c.make_step.ensures.scene, c.in-Some.ensures.steps) (omega arith)

pub taking-preserved : goal.taking-preserved
taking-preserved c =
    let a = c.args in let p = c.taking in let n = c.make_step.new in let e = c.make_step.ensures in
    take_made a.to p.place c.in-Some.found p.later a.later a.document.now p.document n.document
    a.views.now p.views n.views a.notes.now p.notes n.notes p.invariant c.in-Some.ensures e.scene e.watched e.room e.held e.rooms
