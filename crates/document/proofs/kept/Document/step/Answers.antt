use Rattle.document.proofs.Names.{subst, sym, Kept}
use Rattle.document.specs.Kept.{HasTextRoom}
use Rattle.document.specs.TextSteps.{need_on, need_of}
use Rattle.document.proofs.SteppedParts.{memory_kept, text_room_left}
use Rattle.document.proofs.TextRoom.{parts_take}
use Rattle.document.proofs.kept.Document.step.Goals as goal

pub make_step-requires-clause-room : goal.make_step-requires-clause-room
make_step-requires-clause-room c =
    let d = c.self.inside in
    let room = subst (λ (k : Kept). HasTextRoom (need_on k c.args.step) k) (sym c.self.view_is) c.requires.room in
    (record { options = d.options; are = c.self.invariant }, parts_take (need_of d.parts.places.index.types c.args.step) d c.self.invariant room)

pub returns-clause-lines : goal.returns-clause-lines
returns-clause-lines c = rw (← c.self.view_is) c.make_step.ensures.text.is

pub returns-clause-room : goal.returns-clause-room
returns-clause-room c = rw (← c.self.view_is) (text_room_left _ _ c.self.inside _ _ c.self.invariant c.make_step.ensures)

pub returns-clause-memory : goal.returns-clause-memory
returns-clause-memory c = rw (← c.self.view_is) (memory_kept _ _ c.self.inside _ _ c.self.invariant c.make_step.ensures)
