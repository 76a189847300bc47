-- The parts of a document.
use Rattle.std.specs.Prelude.{◌≡◌, ℕ, ◌+◌, ◌^◌, ◌<◌, ◌≤◌, List, length, vec_capacity}
use Rattle.ed_model.specs.Numbers.{meets}
use Rattle.ed_model.specs.declared.plan.LineEndTypes.{LineEndTypes}
use Rattle.ed_model.specs.Text.{bytes_of}
use Rattle.ed_model.specs.Rows.{rows_together}
use Rattle.ed_model.specs.Carry.{carried_by}
use Rattle.ed_model.specs.Steps.{Step, edited_cells}
use Rattle.ed_model.specs.Indicators.{indicators_after}
use Rattle.ed_model.specs.Session.{Document}
use Rattle.line_index.specs.declared.change.LineChange.{LineChange}
use Rattle.line_index.specs.declared.edit.LineEdit.{LineEdit}
use Rattle.line_index.specs.Edits.{FitLines, fresh_lines}
use Rattle.line_index.specs.Index.{Index, IsIndexOf, MoreLinesFit}
use Rattle.line_index.specs.RoomLaws.{lines_for_deletion, lines_for_insertion}
use Rattle.line_index.specs.StepEdits.{change_of, edits_of}
use Rattle.line_rows.specs.Kept.{KeptRows, HasRoomForLines, rows_after}
use Rattle.line_rows.specs.Values.{stored_after}
use Rattle.cell_buffer.specs.Buffer.{Buffer, HasRoom}
use Rattle.decorations.specs.Decorated.{Decorated, HasRoomForInsertions, KeepsRuns}
use Rattle.document.specs.Kept.{Kept, bound_of}
use Rattle.document.specs.declared.text_step.TextStep.{TextStep as Lent}
use Rattle.document.specs.TextSteps.{need_of, need_then, step_in}
use Rattle.document.specs.declared.need.DocumentNeed.{DocumentNeed}
use Rattle.document.specs.declared.kept.Document.TheInside.{Inside}
use Rattle.document.specs.declared.making.TextParts.{TextParts}

abbrev pub document_in : Inside → Document
document_in d = record {
  id = d.id;
  cells = d.parts.cells.cells;
  rows = d.parts.rows.rows;
  indicators = d.parts.places.decorated.values;
  end_styled = d.end_styled;
  history = d.history.history;
  read_only = d.is_read_only;
  line_end = d.line_end;
  options = d.options;
  line_end_types = d.parts.places.index.types;
  next_handle = d.parts.rows.next_handle;
  views = d.views.items;
  held_by_callers = d.held_by_callers;
}

abbrev pub kept_in : Inside → Kept
kept_in d = record {
  document = document_in d;
  stored = record { styles = d.parts.cells.keeps_styles; levels = d.parts.rows.stored_levels; states = d.parts.rows.stored_states };
  capacity = record {
    cells = d.parts.cells.capacity;
    starts = d.parts.places.index.capacity;
    rows = d.parts.rows.capacity;
    indicators = d.parts.places.decorated.capacity;
    history = d.history.capacity;
    views = vec_capacity d.views;
  };
}

-- The parts of a document with these options: the line starts are those of the text, with a row for each line; each byte has its values of
-- the indicators; the places are wide enough.
pub record AreTogether (options : ℕ) (p : TextParts) : Type 0 where
  pub indexed : IsIndexOf (bytes_of p.cells.cells) p.places.index
  pub row_count : length p.rows.rows ≡ length p.places.index.starts
  pub indicator_count : p.places.decorated.length ≡ length p.cells.cells
  pub width : p.places.is_large ≡ meets options 0x100
  pub fits : length p.cells.cells < bound_of (meets options 0x100)

abbrev pub AreParts : Inside → Type 0
AreParts d = AreTogether d.options d.parts

-- The parts under a step; no public contract cites what follows.

-- The bytes can be inserted at the place: there is room for them and for so many lines in all, and the line starts are those of the cells.
pub record CanPut (place : ℕ) (bytes : List ℕ) (lines_after : ℕ) (cells : Buffer) (lines : Index) : Type 0 where
  pub within : place ≤ length cells.cells
  pub room : HasRoom (length bytes) cells
  pub short : length cells.cells + length bytes < 2 ^ 61
  pub indexed : IsIndexOf (bytes_of cells.cells) lines
  pub starts : lines_after ≤ lines.capacity

-- the same with the lines that they may add, and with room among the indicators
pub record CanPutIn (place : ℕ) (bytes : List ℕ) (cells : Buffer) (lines : Index) (indicators : Decorated) : Type 0 where
  pub put : CanPut place bytes (length lines.starts + lines_for_insertion lines.types bytes) cells lines
  pub as_long : indicators.length ≡ length cells.cells
  pub runs : HasRoomForInsertions 1 indicators

-- the `count` bytes from the place on can be deleted: there is room for the lines that this may add
pub record CanTakeOut (place count : ℕ) (cells : Buffer) (lines : Index) (indicators : Decorated) : Type 0 where
  pub within : place + count ≤ length cells.cells
  pub short : length cells.cells < 2 ^ 61
  pub indexed : IsIndexOf (bytes_of cells.cells) lines
  pub starts : MoreLinesFit lines_for_deletion lines
  pub as_long : indicators.length ≡ length cells.cells

-- The cells and the line starts are those after the step. Neither has another capacity.
pub record WereEdited (step : Step) (old new : Buffer) (old_lines new_lines : Index) : Type 0 where
  pub cells : new.cells ≡ edited_cells step old.cells
  pub keeps_styles : new.keeps_styles ≡ old.keeps_styles
  pub capacity : new.capacity ≡ old.capacity
  pub index : IsIndexOf (bytes_of new.cells) new_lines
  pub lines : (new_lines.types ≡ old_lines.types) × (new_lines.capacity ≡ old_lines.capacity)

-- the same, and `change` is the effect of the step on the lines
pub record WereEditedBy (step : Step) (change : LineChange) (old new : Buffer) (old_lines new_lines : Index) : Type 0 where
  pub edit : WereEdited step old new old_lines new_lines
  pub is : change ≡ change_of old_lines.types step (bytes_of old.cells)

-- The indicators are those of the cells after the step. What there was room for besides it still fits in, and so do as many runs, but
-- where an indicator is 0 everywhere now.
pub record WereMarked (step : Step) (cells : Buffer) (old new : Decorated) : Type 0 where
  pub as_long : new.length ≡ length cells.cells
  pub values : new.values ≡ indicators_after step old.values
  pub runs : KeepsRuns old new
  pub room : (types : LineEndTypes) (rest : DocumentNeed) → HasRoomForInsertions (need_then types step rest).insertions old → HasRoomForInsertions rest.insertions new

-- the rows can be carried by the edits: these name lines that are there, and there is room for the fresh ones
pub record CanCarry (edits : List LineEdit) (rows : KeptRows) : Type 0 where
  pub lines : FitLines (length rows.rows) edits
  pub fits : length rows.rows + fresh_lines edits ≤ 2 ^ 62
  pub room : HasRoomForLines (fresh_lines edits) rows

-- they were carried, and lines that fitted in besides the fresh ones still do
abbrev pub WereCarried : List LineEdit → KeptRows → KeptRows → Type 0
WereCarried edits old new =
    (new ≡ rows_after edits old) × ((count : ℕ) → HasRoomForLines (fresh_lines edits + count) old → HasRoomForLines count new)

-- so many more bytes, lines, and insertions into the indicators fit in
pub record CanTake (text lines insertions : ℕ) (p : TextParts) : Type 0 where
  pub width : length p.cells.cells + text < bound_of p.places.is_large
  pub cells : HasRoom text p.cells
  pub starts : MoreLinesFit lines p.places.index
  pub rows : HasRoomForLines lines p.rows
  pub runs : HasRoomForInsertions insertions p.places.decorated

-- the part of the need for the text fits in
abbrev pub CanTakeNeed : DocumentNeed → TextParts → Type 0
CanTakeNeed need p = CanTake need.text need.lines need.insertions p

-- these are the parts of some document
pub record AreOfOne (p : TextParts) : Type 0 where
  pub options : ℕ
  pub are : AreTogether options p

-- they are, and so much more fits in
abbrev pub HaveRoom : ℕ → ℕ → ℕ → TextParts → Type 0
HaveRoom text lines insertions p = AreOfOne p × CanTake text lines insertions p

abbrev pub HaveRoomFor : Lent → TextParts → Type 0
HaveRoomFor step p = AreOfOne p × CanTakeNeed (need_of p.places.index.types step) p

-- The parts after the step, with its effect on the lines. What there was room for besides it still fits in. None has another capacity, but
-- for the runs of indicators that are 0 everywhere now.
pub record AreStepped (step : Step) (change : LineChange) (old new : TextParts) : Type 0 where
  pub together : (options : ℕ) → AreTogether options old → AreTogether options new
  pub text : WereEditedBy step change old.cells new.cells old.places.index new.places.index
  pub rows : new.rows.rows ≡ carried_by rows_together old.places.index.types step (bytes_of old.cells.cells) old.rows.rows
  pub next_handle : new.rows.next_handle ≡ old.rows.next_handle
  pub stored_levels : new.rows.stored_levels ≡ stored_after (edits_of change) old.rows.stored_levels
  pub stored_states : new.rows.stored_states ≡ stored_after (edits_of change) old.rows.stored_states
  pub row_capacity : new.rows.capacity ≡ old.rows.capacity
  pub values : new.places.decorated.values ≡ indicators_after step old.places.decorated.values
  pub runs : KeepsRuns old.places.decorated new.places.decorated
  pub room : (rest : DocumentNeed) → CanTakeNeed (need_then old.places.index.types step rest) old → CanTakeNeed rest new

-- the parts after the step by the place of its bytes
abbrev pub AreSteppedBy : Lent → LineChange → TextParts → TextParts → Type 0
AreSteppedBy step change old new = AreStepped (step_in step (bytes_of old.cells.cells)) change old new
