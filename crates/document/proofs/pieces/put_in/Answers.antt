use Rattle.document.proofs.Names.{◌≤◌, refl, length, ap, arith, length_of_bytes, bytes_of}
use Rattle.document.proofs.PieceLemmas.{marked}
use Rattle.document.proofs.pieces.put_in.Goals as goal

pub put_piece-requires-clause-can : goal.put_piece-requires-clause-can
put_piece-requires-clause-can g c =
    let can = c.requires.can.put in
    let place : c.args.place ≤ length (bytes_of c.args.cells.now.cells) = omega (arith, can.within, length_of_bytes c.args.cells.now.cells) in
    let few = c.room_for_steps.ensures.insertion c.args.places.now.lines.types c.args.place c.args.bytes.now (bytes_of c.args.cells.now.cells) place in
    record { within = can.within; room = can.room; short = can.short; indexed = can.indexed; starts = omega (arith, can.starts, ap length can.indexed.starts, few) }

pub returns-then-bytes-le-PIECE-clause-indicators : goal.returns-then-bytes-le-PIECE-clause-indicators
returns-then-bytes-le-PIECE-clause-indicators g c =
    let made = c.insert.ensures in
    marked c.args.place c.args.bytes.now c.args.cells.now c.put_piece.new.cells c.args.places.now.indicators c.insert.new.self c.requires.can.put.within c.put_piece.ensures.edit.cells
    c.requires.can.as_long made.length (made.values c.args.bytes.now refl) made.runs made.room

pub returns-clause-indicators : goal.returns-clause-indicators
returns-clause-indicators g c =
    let made = c.insert.ensures in
    marked c.args.place c.args.bytes.now c.args.cells.now c.put_pieces-change.new.cells c.args.places.now.indicators c.insert.new.self c.requires.can.put.within c.put_pieces-change.ensures.edit.cells
    c.requires.can.as_long made.length (made.values c.args.bytes.now refl) made.runs made.room
