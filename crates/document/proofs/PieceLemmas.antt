-- Bytes that are inserted piece by piece: the text after each piece, and its number of lines.
use Rattle.document.proofs.Names.{◌≡◌, ℕ, ◌+◌, ◌-◌, ◌≤◌, List, [], ◌++◌, length, take, drop, slice_range, refl, ap, sym, ◌∙◌, arith, append_assoc, append-nil, length-append, take_at, drop_at, take-append-drop, length-map, length-take, length-take-le, length-drop, map-append, Buffer, Cell, bytes_of, plain_cell, plain_cells, line_count, Insert, edited, edited_cells, bytes_of_edited_cells, length_of_bytes, IsIndexOf, lines_for_insertion, InsertionAddsFewLines, FirstBytesHaveFewLines, Index, Decorated, CanPut, WereEdited, WereMarked}
use Rattle.std.proofs.Math.Seq.{take-add}
use Rattle.decorations.specs.Decorated.{HasRoomForInsertions, KeepsRuns}
use Rattle.ed_model.specs.Indicators.{indicators_after}
use Rattle.document.specs.proved.Room.{fewer_insertions}
use Rattle.document.proofs.LineSteps.{length_inserted}
use Rattle.document.proofs.TextRoom.{cells_left}

-- the front of a list, and the part behind it
take_and_next : {X : Type 0} (xs : List X) (n m : ℕ) → n ≤ m → take m xs ≡ take n xs ++ slice_range xs n m
take_and_next xs n m h =
    let apart : m ≡ n + (m - n) = omega arith in
    ap (λ k. take k xs) apart ∙ take-add n (m - n) xs

-- a piece behind those that were inserted
piece_behind :
    (cells now : List Cell) (place done end : ℕ) (bytes : List ℕ) → place ≤ length cells → done ≤ end → end ≤ length bytes → now ≡ edited_cells (Insert place (take done bytes)) cells
    → edited_cells (Insert (place + done) (slice_range bytes done end)) now ≡ edited_cells (Insert place (take end bytes)) cells
piece_behind cells now place done end bytes p d e is =
    let front : List Cell = take place cells ++ plain_cells (take done bytes) in
    let long : length front ≡ place + done =
    omega (arith, length-append (take place cells) (plain_cells (take done bytes)), length-take-le place cells p, length-map (take done bytes) plain_cell, length-take-le done bytes (omega arith)) in
    rw (is, take_and_next bytes done end d, take_at front (drop place cells) (place + done) long, drop_at front (drop place cells) (place + done) long)
    (simp (map-append, append_assoc))

-- the text is no longer with the next piece than with all bytes
pub piece_fits :
    (cells now : Buffer) (place done end : ℕ) (bytes : List ℕ) → place ≤ length cells.cells → now.cells ≡ edited_cells (Insert place (take done bytes)) cells.cells → done ≤ end → end ≤ length bytes
    → length now.cells + length (slice_range bytes done end) ≤ length cells.cells + length bytes
piece_fits cells now place done end bytes within put d e =
    let front : length (take done bytes) ≡ done = length-take-le done bytes (omega arith) in
    let long : length now.cells ≡ length cells.cells + length (take done bytes) = ap length put ∙ length_inserted place (take done bytes) cells.cells within in
    let counted : length (slice_range bytes done end) ≡ end - done = simp (length-take, length-drop) (omega arith) in
    omega (arith, front, long, counted)

-- the next piece can be inserted, with its lines
pub piece_can :
    (cells now : Buffer) (lines now_lines : Index) (place done end : ℕ) (bytes : List ℕ) → InsertionAddsFewLines → FirstBytesHaveFewLines
    → CanPut place bytes (length lines.starts + lines_for_insertion lines.types bytes) cells lines → done ≤ end → end ≤ length bytes → WereEdited (Insert place (take done bytes)) cells now lines now_lines
    → CanPut (place + done) (slice_range bytes done end) (line_count now_lines.types (edited (Insert (place + done) (slice_range bytes done end)) (bytes_of now.cells))) now now_lines
piece_can cells now lines now_lines place done end bytes few first can d e put =
    let piece : List ℕ = slice_range bytes done end in
    let front : length (take done bytes) ≡ done = length-take-le done bytes (omega arith) in
    let long : length now.cells ≡ length cells.cells + length (take done bytes) = ap length put.cells ∙ length_inserted place (take done bytes) cells.cells can.within in
    let short : length now.cells + length piece ≤ length cells.cells + length bytes = piece_fits cells now place done end bytes can.within put.cells d e in
    let text : edited (Insert (place + done) piece) (bytes_of now.cells) ≡ edited (Insert place (take end bytes)) (bytes_of cells.cells) =
    sym (bytes_of_edited_cells (Insert (place + done) piece) now.cells) ∙ ap bytes_of (piece_behind cells.cells now.cells place done end bytes can.within d e put.cells) ∙ bytes_of_edited_cells (Insert place (take end bytes)) cells.cells in
    record {
      within = omega (arith, front, long, can.within);
      room = cells_left cells now (length piece) (length bytes) put.keeps_styles put.capacity short can.room;
      short = omega (arith, short, can.short);
      indexed = put.index;
      starts = rw (text, put.lines.0) (omega (
        arith,
        put.lines.1,
        can.starts,
        ap length can.indexed.starts,
        few lines.types place (take end bytes) (bytes_of cells.cells) (omega (arith, can.within, length_of_bytes cells.cells)),
        first lines.types bytes end e,
      ));
    }

pub no_piece : (cells : Buffer) (lines : Index) (place : ℕ) → IsIndexOf (bytes_of cells.cells) lines → WereEdited (Insert place []) cells cells lines lines
no_piece cells lines place indexed = record {
  cells = sym (ap (λ (front : List Cell). front ++ drop place cells.cells) (append-nil (take place cells.cells)) ∙ take-append-drop place cells.cells);
  keeps_styles = refl;
  capacity = refl;
  index = indexed;
  lines = (refl, refl);
}

pub one_more_piece :
    (cells now next : Buffer) (lines now_lines next_lines : Index) (place done end : ℕ) (bytes : List ℕ) → place ≤ length cells.cells → done ≤ end → end ≤ length bytes
    → WereEdited (Insert place (take done bytes)) cells now lines now_lines → WereEdited (Insert (place + done) (slice_range bytes done end)) now next now_lines next_lines
    → WereEdited (Insert place (take end bytes)) cells next lines next_lines
one_more_piece cells now next lines now_lines next_lines place done end bytes p d e so put = record {
  cells = put.cells ∙ piece_behind cells.cells now.cells place done end bytes p d e so.cells;
  keeps_styles = put.keeps_styles ∙ so.keeps_styles;
  capacity = put.capacity ∙ so.capacity;
  index = put.index;
  lines = (put.lines.0 ∙ so.lines.0, put.lines.1 ∙ so.lines.1);
}

-- the indicators after all bytes
pub marked :
    (place : ℕ) (bytes : List ℕ) (cells new : Buffer) (old now : Decorated) → place ≤ length cells.cells → new.cells ≡ edited_cells (Insert place bytes) cells.cells
    → old.length ≡ length cells.cells → now.length ≡ old.length + length bytes → now.values ≡ indicators_after (Insert place bytes) old.values → KeepsRuns old now
    → ((n : ℕ) → HasRoomForInsertions (n + 1) old → HasRoomForInsertions n now) → WereMarked (Insert place bytes) new old now
marked place bytes cells new old now within put as_long longer values runs left = record {
  as_long = omega (arith, as_long, longer, ap length put, length_inserted place bytes cells.cells within);
  values = values;
  runs = runs;
  room = λ types rest room. left rest.insertions (fewer_insertions (rest.insertions + 1) (1 + rest.insertions) old (omega arith) room);
}
