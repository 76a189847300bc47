-- The effect of a step on the parts of a document.
use Rattle.document.proofs.Names.{◌≡◌, ◌≤◌, ◌<◌, ◌+◌, ◌^◌, ℕ, Bool, true, false, length, refl, sym, ap, ◌∙◌, subst, arith, LineEndTypes, Cell, List, bytes_of, line_count, few_lines, Step, Insert, Delete, edited, edited_cells, end_of, bytes_of_edited_cells, length_of_bytes, Row, rows_together, JoinsRows, lines_for_step, change_of, edits_of, fresh_lines, after_edits, LineEdit, KeptRows, bound_of, kept_in, AreParts, AreStepped, AreTogether, CanCarry, TextParts, WereCarried, WereEditedBy, WereMarked}
use Rattle.ed_model.specs.CarryLaws.{StepsLeaveARowForEachLine}
use Rattle.line_index.specs.declared.change.LineChange.{LineChange}
use Rattle.line_index.specs.StepEdits.{EditsBringFewLines, EditsCarryRows, EditsFitLines}
use Rattle.line_rows.specs.Kept.{HasRoomForLines}
use Rattle.document.specs.declared.kept.Document.TheInside.{Inside}
use Rattle.document.specs.declared.need.DocumentNeed.{DocumentNeed}
use Rattle.document.specs.Memory.{KeepsMemory}
use Rattle.document.specs.TextSteps.{LeavesTextRoom, need_then}
use Rattle.document.specs.proved.Room.{fewer_lines}
use Rattle.document.proofs.LineSteps.{length_deleted, length_inserted, lines_of_index}
use Rattle.document.proofs.TextRoom.{cells_left, document_takes, parts_take}

-- a text that fits places of 32 bits has fewer lines than these can count
pub narrow_lines : (is_large : Bool) (n lines : ℕ) → n < bound_of is_large → lines ≤ n + 1 → is_large ≡ false → lines < 2 ^ 32
narrow_lines true n lines fits few e = absurd (cc)
narrow_lines false n lines fits few e = omega arith

pub small_bound : (is_large : Bool) → bound_of is_large ≤ 2 ^ 61
small_bound true = omega arith
small_bound false = omega arith

-- a text has at most as many lines as bytes, and one
pub few_starts : (options : ℕ) (p : TextParts) → AreTogether options p → length p.places.index.starts ≤ length p.cells.cells + 1
few_starts options p are = omega (arith, ap length are.indexed.starts, few_lines p.places.index.types (bytes_of p.cells.cells), length_of_bytes p.cells.cells)

-- what comes later needs no more of the text and of the lines than what the step leaves

text_left :
    (step : Step) (types : LineEndTypes) (cells : List Cell) (rest : DocumentNeed) → end_of step ≤ length cells
    → length (edited_cells step cells) + rest.text ≤ length cells + (need_then types step rest).text
text_left (Insert place bytes) types cells rest within = omega (arith, length_inserted place bytes cells within)
text_left (Delete place bytes) types cells rest within = omega (arith, length_deleted place bytes cells within)

lines_left : (step : Step) (types : LineEndTypes) (rest : DocumentNeed) → (need_then types step rest).lines ≡ lines_for_step types step + rest.lines
lines_left (Insert place bytes) types rest = refl
lines_left (Delete place bytes) types rest = refl

-- A step at which parts of a document are, with its effect on the lines of their text.
module _ (step : Step) (change : LineChange) (options : ℕ) (old : TextParts) (are : AreTogether options old) (within : end_of step ≤ length old.cells.cells) (few : EditsBringFewLines) where
  abbrev types : LineEndTypes
  types = old.places.index.types

  abbrev text : List ℕ
  text = bytes_of old.cells.cells

  inside : end_of step ≤ length text
  inside = omega (arith, within, length_of_bytes old.cells.cells)

  rows_of_text : length old.rows.rows ≡ line_count types text
  rows_of_text = are.row_count ∙ ap length are.indexed.starts

  few_fresh : change ≡ change_of types step text → fresh_lines (edits_of change) ≤ lines_for_step types step
  few_fresh is = rw is (few types step text inside)

  -- the facts that the rows require
  pub can_carry :
      EditsFitLines → change ≡ change_of types step text → HasRoomForLines (lines_for_step types step) old.rows → length old.cells.cells + lines_for_step types step < 2 ^ 62 → CanCarry (edits_of change) old.rows
  can_carry fit is room small = record {
    lines = rw (is, rows_of_text) (fit types step text inside);
    fits = omega (arith, small, are.row_count, few_fresh is, few_starts options old are);
    room = fewer_lines (fresh_lines (edits_of change)) (lines_for_step types step) old.rows (few_fresh is) room;
  }

  -- the parts after it
  pub stepped :
      (new : TextParts) → EditsCarryRows Row → JoinsRows rows_together → StepsLeaveARowForEachLine Row
      → line_count types (edited step text) ≤ line_count types text + lines_for_step types step
      → new.places.is_large ≡ old.places.is_large → WereEditedBy step change old.cells new.cells old.places.index new.places.index → WereMarked step new.cells old.places.decorated new.places.decorated
      → WereCarried (edits_of change) old.rows new.rows → length new.cells.cells < bound_of old.places.is_large → AreStepped step change old new
  stepped new carry joins each lines width put marked carried fits =
      let edit = put.edit in
      let after : bytes_of new.cells.cells ≡ edited step text = ap bytes_of edit.cells ∙ bytes_of_edited_cells step old.cells.cells in
      let rows : new.rows.rows ≡ after_edits rows_together (edits_of change) old.rows.rows = ap (λ (k : KeptRows). k.rows) carried.0 in
      let as_model = rows ∙ ap (λ (es : List LineEdit). after_edits rows_together es old.rows.rows) (ap edits_of put.is) ∙ sym (carry rows_together joins types step text old.rows.rows inside rows_of_text) in
      let starts : length new.places.index.starts ≡ line_count types (edited step text) = lines_of_index types (bytes_of new.cells.cells) new.places.index edit.index edit.lines.0 ∙ ap (line_count types) after in
      record {
        together =
            λ options parts. record {
              indexed = edit.index;
              row_count = ap length as_model ∙ each rows_together types step text old.rows.rows ∙ sym starts;
              indicator_count = marked.as_long;
              width = width ∙ parts.width;
              fits = subst (λ large. length new.cells.cells < bound_of large) parts.width fits;
            };
        text = put;
        rows = as_model;
        next_handle = ap (λ (k : KeptRows). k.next_handle) carried.0;
        stored_levels = ap (λ (k : KeptRows). k.stored_levels) carried.0;
        stored_states = ap (λ (k : KeptRows). k.stored_states) carried.0;
        row_capacity = ap (λ (k : KeptRows). k.capacity) carried.0;
        values = marked.values;
        runs = marked.runs;
        room =
            λ rest room.
            let left = text_left step types old.cells.cells rest within in
            let short : length new.cells.cells + rest.text ≤ length old.cells.cells + (need_then types step rest).text = omega (arith, left, ap (λ (cells : List Cell). length cells) edit.cells) in
            let many = lines_left step types rest in
            record {
              width = subst (λ large. length new.cells.cells + rest.text < bound_of large) (sym width) (omega (arith, short, room.width));
              cells = cells_left old.cells new.cells rest.text (need_then types step rest).text edit.keeps_styles edit.capacity short room.cells;
              starts = omega (arith, edit.lines.1, lines, many, room.starts, ap length are.indexed.starts, starts);
              rows = carried.1 rest.lines (fewer_lines (fresh_lines (edits_of change) + rest.lines) (need_then types step rest).lines old.rows (omega (arith, many, few_fresh put.is)) room.rows);
              runs = marked.room types rest room.runs;
            };
      }

-- The document after it, up to whatever place it is styled now.
module _ (step : Step) (change : LineChange) (d : Inside) (styled : ℕ) (new : TextParts) (parts : AreParts d) (made : AreStepped step change d.parts new) where
  abbrev after : Inside
  after = record d { parts = new; end_styled = styled }

  pub text_room_left : LeavesTextRoom step (kept_in d) (kept_in after)
  text_room_left = λ rest room. document_takes rest after (made.together d.options parts) (made.room rest (parts_take (need_then d.parts.places.index.types step rest) d parts room))

  pub memory_kept : KeepsMemory (kept_in d) (kept_in after)
  memory_kept = record {
    others = rw (made.text.edit.capacity, made.text.edit.lines.1, made.row_capacity) refl;
    runs = record {
      runs = λ k below. let has = made.runs.runs k below in record { used = has.used; clear = has.clear };
      spare = made.runs.spare;
      slots = made.runs.slots;
    };
  }
