use Rattle.line_ends.proofs.Names.{◌++◌, vec_len, vec_capacity, arith, converted}
use Rattle.line_ends.proofs.Pasted.{within_on, items_on, room_on}
use Rattle.line_ends.proofs.pasting.convert_into.Goals as goal

pub pieces-preserved : goal.pieces-preserved
pieces-preserved c =
    let a = c.args in
    let old = c.pieces.invariant in
    let p = c.next_piece-piece in
    let one = c.extend_reserved.ensures in
    let two = c.extend_reserved-in-pieces.ensures in
    let last = c.bytes_of_end.ensures in
    record {
      within = within_on a.bytes.now c.pieces.place p.result.quiet p.result.end old.within p.ensures.within;
      items = items_on a.to a.bytes.now c.pieces.place p.result.quiet p.result.end old.within p.ensures.pieces
          (a.target.now.items ++ converted a.to a.bytes.now) c.pieces.target.items c.extend_reserved.new.vec.items c.extend_reserved-in-pieces.new.vec.items old.items one.items (rw last at two.items);
      room = room_on a.to a.bytes.now c.pieces.place p.result.quiet p.result.end old.within p.ensures.within p.ensures.pieces
          (vec_len c.pieces.target) (vec_len c.extend_reserved.new.vec) (vec_len c.extend_reserved-in-pieces.new.vec) (vec_capacity c.pieces.target) (vec_capacity c.extend_reserved-in-pieces.new.vec)
          old.room one.len (rw last at two.len) (let x = one.room_stays in let y = two.room_stays in omega arith);
    }
