use Rattle.document.proofs.Names.{subst, Step, kept_in, AreStepped}
use Rattle.document.specs.TextSteps.{need_on}
use Rattle.document.proofs.LentSteps.{lent_room, lent_step}
use Rattle.document.proofs.SteppedParts.{memory_kept, text_room_left}
use Rattle.document.proofs.TextRoom.{parts_take}
use Rattle.document.proofs.kept.Document.make_change.Goals as goal

pub make_step-requires-clause-room : goal.make_step-requires-clause-room
make_step-requires-clause-room c =
    let d = c.self.inside in
    let can = rw (← c.self.view_is) at c.requires.can in
    let lent = rw c.in-Some.is at c.step_at.ensures.step in
    (record { options = d.options; are = c.self.invariant }, parts_take (need_on (kept_in d) c.in-Some.step) d c.self.invariant (lent_room (kept_in d) _ c.in-Some.step can lent))

pub returns-clause-lines : goal.returns-clause-lines
returns-clause-lines c =
    let can = rw (← c.self.view_is) at c.requires.can in
    let lent = rw c.in-Some.is at c.step_at.ensures.step in
    rw (← c.self.view_is) (λ step there. rw (← lent_step (kept_in c.self.inside) _ c.in-Some.step step can lent there) c.make_step.ensures.text.is)

pub returns-clause-room : goal.returns-clause-room
returns-clause-room c =
    let d = c.self.inside in
    let can = rw (← c.self.view_is) at c.requires.can in
    let lent = rw c.in-Some.is at c.step_at.ensures.step in
    rw (← c.self.view_is) (λ step there.
    let made = subst (λ (s : Step). AreStepped s c.make_step.result d.parts c.make_step.new.parts) (lent_step (kept_in d) _ c.in-Some.step step can lent there) c.make_step.ensures in
    text_room_left step _ d _ c.make_step.new.parts c.self.invariant made)

pub returns-clause-memory : goal.returns-clause-memory
returns-clause-memory c = rw (← c.self.view_is) (memory_kept _ _ c.self.inside _ _ c.self.invariant c.make_step.ensures)
