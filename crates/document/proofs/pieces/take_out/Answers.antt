use Rattle.document.proofs.Names.{◌+◌, ◌∙◌, slice_range, refl, length, ap, arith, length-append, length_of_bytes, length_of_range, bytes_of, Buffer, deletion_of}
use Rattle.document.proofs.LineSteps.{change_of_deletion, deleted_cells, edited_by, index_after, told_of_deletion}
use Rattle.document.proofs.pieces.take_out.Goals as goal

pub near_step-requires : goal.near_step-requires
near_step-requires g c =
    omega (arith, ap length c.halves.ensures.joined, length_of_bytes c.delete-2.new.self.cells, length-append c.halves.result.0.now c.halves.result.1.now, c.delete-2.ensures.len, c.requires.within)

pub deleted-requires-clause-was : goal.deleted-requires-clause-was
deleted-requires-clause-was g c =
    let cells = c.args.cells.now in
    let taken = deleted_cells cells.cells c.delete-2.new.self.cells c.args.place c.args.count c.requires.within (ap (λ (b : Buffer). b.cells) c.delete-2.ensures.deleted) in
    record {
      old = bytes_of cells.cells;
      step = deletion_of c.args.place c.args.count (bytes_of cells.cells);
      made = (refl, length_of_range cells.cells c.args.place c.args.count c.requires.within);
      is = told_of_deletion cells c.delete-2.new.self c.args.places.now.lines c.args.places.now.indicators c.args.place c.args.count _ _ c.room_for_steps.ensures.deletion c.requires taken c.halves.ensures.joined c.near_step.ensures;
    }

pub returns-clause-text : goal.returns-clause-text
returns-clause-text g c =
    let cells = c.args.cells.now in
    let new = c.delete-2.new.self in
    let new_lines = c.deleted.new.self in
    let step = deletion_of c.args.place c.args.count (bytes_of cells.cells) in
    let is = c.delete-2.ensures.deleted in
    let taken = deleted_cells cells.cells new.cells c.args.place c.args.count c.requires.within (ap (λ (b : Buffer). b.cells) is) in
    let told = c.deleted.ensures in
    let was = told_of_deletion cells new c.args.places.now.lines c.args.places.now.indicators c.args.place c.args.count _ _ c.room_for_steps.ensures.deletion c.requires taken c.halves.ensures.joined c.near_step.ensures in
    let index = told.index step (bytes_of cells.cells) (refl, length_of_range cells.cells c.args.place c.args.count c.requires.within) was in
    edited_by step c.deleted.result cells new c.args.places.now.lines new_lines c.requires.indexed
    (record {
      cells = taken;
      keeps_styles = ap (λ (b : Buffer). b.keeps_styles) is;
      capacity = ap (λ (b : Buffer). b.capacity) is;
      index = index_after step cells.cells new.cells new_lines taken index;
      lines = told.kept;
    }) (told.change ∙ change_of_deletion cells.cells c.args.place c.args.count c.args.places.now.lines.starts new_lines.starts new_lines.length c.requires.within)

pub returns-clause-indicators : goal.returns-clause-indicators
returns-clause-indicators g c =
    let cells = c.args.cells.now.cells in
    let made = c.delete.ensures in
    record {
      as_long = omega (arith, made.length, c.delete-2.ensures.len, c.requires.as_long);
      values = made.values (slice_range (bytes_of cells) c.args.place (c.args.place + c.args.count)) (length_of_range cells c.args.place c.args.count c.requires.within);
      runs = made.capacity;
      room = λ types rest room. made.room rest.insertions room;
    }
