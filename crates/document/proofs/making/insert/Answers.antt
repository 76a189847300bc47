use Rattle.document.proofs.Names.{◌≤◌, ap, ◌∙◌, arith, length, Insert, few_lines, length_of_bytes, bytes_of, TextParts}
use Rattle.document.proofs.LineSteps.{length_inserted}
use Rattle.document.proofs.SteppedParts.{can_carry, small_bound, stepped}
use Rattle.document.proofs.making.insert.Goals as goal

pub insert-change-requires-clause-can : goal.insert-change-requires-clause-can
insert-change-requires-clause-can c =
    let room = c.requires.room.1 in
    let are = c.requires.room.0.are in
    record {
      put = record { within = c.requires.fits; room = room.cells; short = omega (arith, room.width, small_bound c.args.parts.now.places.is_large); indexed = are.indexed; starts = room.starts };
      as_long = are.indicator_count;
      runs = room.runs;
    }

pub carry_rows-requires : goal.carry_rows-requires
carry_rows-requires c =
    let old = c.args.parts.now in
    let laws = c.edits_of_steps.ensures in
    let one = c.requires.room.0 in
    can_carry (Insert c.args.place c.args.bytes.now) c.insert-change.result one.options old one.are c.requires.fits laws.few laws.fit c.insert-change.ensures.text.is c.requires.room.1.rows
    (omega (arith, c.requires.room.1.width, small_bound old.places.is_large, few_lines old.places.index.types c.args.bytes.now))

pub returns : goal.returns
returns c =
    let old = c.args.parts.now in
    let new : TextParts = record { cells = c.insert-change.new.cells; places = c.insert-change.new.self; rows = c.carry_rows.new.rows } in
    let step = Insert c.args.place c.args.bytes.now in
    let laws = c.edits_of_steps.ensures in
    let one = c.requires.room.0 in
    let made = c.insert-change.ensures in
    let long = ap length made.text.edit.cells ∙ length_inserted c.args.place c.args.bytes.now old.cells.cells c.requires.fits in
    let place : c.args.place ≤ length (bytes_of old.cells.cells) = omega (arith, c.requires.fits, length_of_bytes old.cells.cells) in
    stepped step c.insert-change.result one.options old one.are c.requires.fits laws.few new laws.rows c.rows_that_meet.ensures.rows c.rows_match_lines.ensures.rows_after_steps
    (c.room_for_steps.ensures.insertion old.places.index.types c.args.place c.args.bytes.now (bytes_of old.cells.cells) place) made.width made.text made.indicators c.carry_rows.ensures (omega (arith, long, c.requires.room.1.width))
