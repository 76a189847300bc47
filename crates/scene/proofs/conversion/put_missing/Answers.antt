use Rattle.scene.proofs.Names.{arith, kept_scene, first_held, first_room}
use Rattle.scene.proofs.StepsInTurn.{text_after, put_of, puts_behind, put_made}
use Rattle.scene.proofs.conversion.put_missing.Goals as goal

pub make_step-requires-clause-room : goal.make_step-requires-clause-room
make_step-requires-clause-room c =
    let a = c.args in let p = c.putting in let left = rw c.in-Some.ensures.steps at p.invariant.left in
    first_room p.document p.document.document.line_end_types (put_of c.in-Some.found c.in-Some.byte) (puts_behind a.to c.in-Some.found c.in-Some.byte a.document.now p.document) left.can.room

pub make_step-requires-clause-notes : goal.make_step-requires-clause-notes
make_step-requires-clause-notes c =
    let a = c.args in let p = c.putting in let left = rw c.in-Some.ensures.steps at p.invariant.left in
    first_held p.later (put_of c.in-Some.found c.in-Some.byte) (puts_behind a.to c.in-Some.found c.in-Some.byte a.document.now p.document) (kept_scene p.document p.views p.notes) p.notes left.can.holds

pub putting-smaller : goal.putting-smaller
putting-smaller c =
    let p = c.putting in let n = c.make_step.new in
    rw (text_after p.later (put_of c.in-Some.found c.in-Some.byte) (kept_scene p.document p.views p.notes) (kept_scene n.document n.views n.notes) c.make_step.ensures.scene, c.in-Some.ensures.steps) (omega arith)

pub putting-preserved : goal.putting-preserved
putting-preserved c =
    let a = c.args in let p = c.putting in let n = c.make_step.new in let e = c.make_step.ensures in
    put_made a.to p.place c.in-Some.found c.in-Some.byte p.later a.document.now p.document n.document
    a.views.now p.views n.views a.notes.now p.notes n.notes p.invariant c.in-Some.ensures e.scene e.watched e.room e.held e.rooms
