use Rattle.contraction.proofs.Names.{◌<◌, true, false, arith}
use Rattle.contraction.proofs.Kept.{kept_length, kept_contracted}
use Rattle.contraction.proofs.Changed.{set_expanded}
use Rattle.contraction.proofs.contraction.Contraction.set_expanded.Goals as goal

pub insert-requires-clause-room : goal.insert-requires-clause-room
insert-requires-clause-room g c = λ _.
    let room = c.requires.room c.if-on.false in
    grind (arith, kept_contracted)

pub returns-then-on-clause-flags : goal.returns-then-on-clause-flags
returns-then-on-clause-flags g c =
    let inside : c.args.line < c.self.inside.hidden.length = grind (arith, kept_length) in
    rw (← c.self.view_is, c.if-on.true) (set_expanded c.self.inside.hidden c.self.inside.contracted c.remove_range.new.self c.args.line true inside c.remove_range.ensures)

pub returns-else-on-clause-flags : goal.returns-else-on-clause-flags
returns-else-on-clause-flags g c =
    let inside : c.args.line < c.self.inside.hidden.length = grind (arith, kept_length) in
    rw (← c.self.view_is, c.if-on.false) (set_expanded c.self.inside.hidden c.self.inside.contracted c.insert.new.self c.args.line false inside c.insert.ensures)
