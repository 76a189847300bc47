use Rattle.document.proofs.Names.{◌+◌, arith, refl}
use Rattle.document.specs.proved.Room.{fewer_lines}
use Rattle.document.proofs.pieces.carry_rows.Goals as goal

pub returns-then-is_quiet : goal.returns-then-is_quiet
returns-then-is_quiet c = rw (c.is_quiet.ensures.none c.if-is_quiet.true) (refl, λ count room. fewer_lines count (0 + count) c.args.rows.now (omega arith) room)
