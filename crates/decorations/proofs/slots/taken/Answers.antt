use Rattle.decorations.proofs.Names.{◌≡◌, None}
use Rattle.decorations.proofs.Memory.{zeros_run}
use Rattle.decorations.proofs.slots.taken.Goals as goal

pub returns-clause-room : goal.returns-clause-room
returns-clause-room g c =
    let value = c.in_default.ensures.value in
    let is = c.in_default.is in
    let none : c.args.slot.now ≡ None = cc in
    rw (c.take-2.ensures.taken, zeros_run c.args.size) (rw none at c.requires.room)
