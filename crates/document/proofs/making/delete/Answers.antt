use Rattle.document.proofs.Names.{◌+◌, ◌≤◌, slice_range, ap, ◌∙◌, arith, length, bytes_of, length_of_bytes, length_of_range, List, Cell, deletion_of, TextParts}
use Rattle.document.proofs.LineSteps.{length_deleted}
use Rattle.document.proofs.SteppedParts.{can_carry, small_bound, stepped}
use Rattle.document.proofs.making.delete.Goals as goal

pub delete-change-requires : goal.delete-change-requires
delete-change-requires c =
    let room = c.requires.room.1 in
    let are = c.requires.room.0.are in
    record { within = c.requires.fits; short = omega (arith, room.width, small_bound c.args.parts.now.places.is_large); indexed = are.indexed; starts = room.starts; as_long = are.indicator_count }

pub carry_rows-requires : goal.carry_rows-requires
carry_rows-requires c =
    let old = c.args.parts.now in
    let laws = c.edits_of_steps.ensures in
    let one = c.requires.room.0 in
    can_carry (deletion_of c.args.place c.args.count (bytes_of old.cells.cells)) c.delete-change.result one.options old one.are
    (omega (arith, c.requires.fits, length_of_range old.cells.cells c.args.place c.args.count c.requires.fits)) laws.few laws.fit c.delete-change.ensures.text.is c.requires.room.1.rows
    (omega (arith, c.requires.room.1.width, small_bound old.places.is_large))

pub returns : goal.returns
returns c =
    let old = c.args.parts.now in
    let new : TextParts = record { cells = c.delete-change.new.cells; places = c.delete-change.new.self; rows = c.carry_rows.new.rows } in
    let text = bytes_of old.cells.cells in
    let bytes = slice_range text c.args.place (c.args.place + c.args.count) in
    let laws = c.edits_of_steps.ensures in
    let one = c.requires.room.0 in
    let made = c.delete-change.ensures in
    let counted = length_of_range old.cells.cells c.args.place c.args.count c.requires.fits in
    let within : c.args.place + length bytes ≤ length old.cells.cells = omega (arith, c.requires.fits, counted) in
    let long = ap (λ (cells : List Cell). length cells + length bytes) made.text.edit.cells ∙ length_deleted c.args.place bytes old.cells.cells within in
    let few = c.room_for_steps.ensures.deletion old.places.index.types c.args.place (length bytes) text (omega (arith, within, length_of_bytes old.cells.cells)) in
    stepped (deletion_of c.args.place c.args.count text) c.delete-change.result one.options old one.are within laws.few new laws.rows c.rows_that_meet.ensures.rows c.rows_match_lines.ensures.rows_after_steps
    few made.width made.text made.indicators c.carry_rows.ensures (omega (arith, long, c.requires.room.1.width))
