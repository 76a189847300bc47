use Rattle.document.proofs.Names.{refl, length, ap, arith, length-append, length_of_bytes, bytes_of, Buffer, Insert}
use Rattle.document.proofs.LineSteps.{edited_by, index_after, told_of_step}
use Rattle.document.proofs.pieces.put_piece.Goals as goal

pub near_step-requires : goal.near_step-requires
near_step-requires g c =
    omega (arith, ap length c.halves.ensures.joined, length_of_bytes c.insert_reserved.new.self.cells, length-append c.halves.result.0.now c.halves.result.1.now, c.insert_reserved.ensures.len, c.requires.can.within)

pub inserted-requires-clause-was : goal.inserted-requires-clause-was
inserted-requires-clause-was g c =
    let put = ap (λ (b : Buffer). b.cells) c.insert_reserved.ensures.inserted in
    record {
      old = bytes_of c.args.cells.now.cells;
      step = Insert c.args.place c.args.bytes.now;
      made = (refl, refl);
      is = told_of_step (Insert c.args.place c.args.bytes.now) c.args.cells.now.cells c.insert_reserved.new.self.cells c.args.lines.now _ _ c.requires.can.indexed c.requires.can.within put c.halves.ensures.joined c.near_step.ensures
          c.requires.can.starts;
    }

pub inserted-requires-clause-fits : goal.inserted-requires-clause-fits
inserted-requires-clause-fits g c = omega (arith, c.requires.can.indexed.length, length_of_bytes c.args.cells.now.cells, c.requires.fits)

pub returns : goal.returns
returns g c =
    let cells = c.args.cells.now in
    let new = c.insert_reserved.new.self in
    let step = Insert c.args.place c.args.bytes.now in
    let is = c.insert_reserved.ensures.inserted in
    let put = ap (λ (b : Buffer). b.cells) is in
    let told = c.inserted.ensures in
    let was = told_of_step step cells.cells new.cells c.args.lines.now _ _ c.requires.can.indexed c.requires.can.within put c.halves.ensures.joined c.near_step.ensures c.requires.can.starts in
    edited_by step c.inserted.result cells new c.args.lines.now c.inserted.new.self c.requires.can.indexed
    (record {
      cells = put;
      keeps_styles = ap (λ (b : Buffer). b.keeps_styles) is;
      capacity = ap (λ (b : Buffer). b.capacity) is;
      index = index_after step cells.cells new.cells c.inserted.new.self put (told.index step (bytes_of cells.cells) (refl, refl) was);
      lines = told.kept;
    }) told.change
