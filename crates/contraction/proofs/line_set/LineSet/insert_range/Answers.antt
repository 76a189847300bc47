use Rattle.contraction.proofs.Names.{arith}
use Rattle.contraction.proofs.Outside.{room_for}
use Rattle.contraction.proofs.line_set.LineSet.insert_range.Goals as goal

pub insert-requires-clause-room : goal.insert-requires-clause-room
insert-requires-clause-room g c = λ out.
    let inv = c.loop-line.invariant in
    let small = room_for c.loop-line.self.numbers c.loop-line.self.length c.loop-line.line c.is_sound.ensures.sound (omega (arith, inv.set.lines, c.requires.range)) out in
    omega (arith, inv.set.capacity, inv.set.lines, c.requires.room, c.requires.range)
