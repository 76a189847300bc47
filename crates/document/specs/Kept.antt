-- What a contract sees of a `Document`.
use Rattle.std.specs.Prelude.{ℕ, ◌+◌, ◌-◌, ◌^◌, ◌≤◌, ◌<◌, Bool, true, false, List, length, min, slice_range}
use Rattle.ed_model.specs.Lines.{line_starts}
use Rattle.ed_model.specs.Session.{Document, is_large, lines_in, new_document, text_of}
use Rattle.decorations.specs.Decorated.{Decorated, DecorationCapacity, HasRoomForFill, HasRoomForInsertions, decorated, no_capacity}
use Rattle.undo_history.specs.Kept as history
use Rattle.line_rows.specs.Kept.{KeptRows, RowCapacity, HasRoomForLevel, HasRoomForLines, HasRoomForMarkers, HasRoomForState, kept_rows, row_capacity}
use Rattle.cell_buffer.specs.Buffer.{styles_for}
use Rattle.document.specs.declared.need.DocumentNeed.{DocumentNeed}

-- What of a document is stored only once it is used: whether its styles are, and for how many lines, from the first on, the levels and
-- the states are.
pub record Stored : Type 0 where
  pub styles : Bool
  pub levels : ℕ
  pub states : ℕ

-- How much fits into a document in all without an allocation: bytes and styles; line starts; what belongs to its lines; runs of its
-- indicators; steps of its history, and their bytes; and views.
pub record DocumentCapacity : Type 0 where
  pub cells : ℕ × ℕ
  pub starts : ℕ
  pub rows : RowCapacity
  pub indicators : DecorationCapacity
  pub history : history.HistoryCapacity
  pub views : ℕ

-- the document, what of it is stored, and how much fits in
pub record Kept : Type 0 where
  pub document : Document
  pub stored : Stored
  pub capacity : DocumentCapacity

-- the document alone
abbrev pub document_of : Kept → Document
document_of k = k.document

-- a new document: only the start of its line fits in
abbrev pub new_kept : ℕ → ℕ → Kept
new_kept id options = record {
  document = new_document id options;
  stored = record { styles = false; levels = 0; states = 0 };
  capacity = record {
    cells = (0, 0);
    starts = 1;
    rows = row_capacity 0 0 0 0;
    indicators = no_capacity;
    history = history.history_capacity 0 0;
    views = 0;
  };
}

-- Its parts, as their own contracts see them.

abbrev pub rows_in : Kept → KeptRows
rows_in k = kept_rows k.document.rows k.document.next_handle k.stored.levels k.stored.states k.capacity.rows

abbrev pub decorated_in : Kept → Decorated
decorated_in k = decorated (length k.document.cells) k.document.indicators k.capacity.indicators

abbrev pub history_in : Kept → history.Kept
history_in k = history.kept k.document.history k.capacity.history

-- The need of steps.

abbrev pub document_need : ℕ → ℕ → ℕ → ℕ → ℕ → DocumentNeed
document_need text lines insertions steps bytes = record { text = text; lines = lines; insertions = insertions; steps = steps; bytes = bytes }

abbrev pub nothing_needed : DocumentNeed
nothing_needed = document_need 0 0 0 0 0

-- the sum of two amounts, or the greatest amount that can be requested
abbrev pub amount_sum : ℕ → ℕ → ℕ
amount_sum a b = min (a + b) (2 ^ 64 - 1)

abbrev pub amounts_added : DocumentNeed → DocumentNeed → DocumentNeed
amounts_added a b =
    document_need (amount_sum a.text b.text) (amount_sum a.lines b.lines) (amount_sum a.insertions b.insertions) (amount_sum a.steps b.steps)
    (amount_sum a.bytes b.bytes)

-- the part of a need for the text and what is kept of it
abbrev pub text_part : DocumentNeed → DocumentNeed
text_part need = record need { steps = 0; bytes = 0 }

-- no amount is less
pub record IsAtLeast (more need : DocumentNeed) : Type 0 where
  pub text : need.text ≤ more.text
  pub lines : need.lines ≤ more.lines
  pub insertions : need.insertions ≤ more.insertions
  pub steps : need.steps ≤ more.steps
  pub bytes : need.bytes ≤ more.bytes

-- each text of a document of this width is shorter than that, in bytes
abbrev pub bound_of : Bool → ℕ
bound_of true = 2 ^ 61
bound_of false = 2 ^ 31

-- a text of the length fits into the width of the document's places
abbrev pub FitsWidth : Document → ℕ → Type 0
FitsWidth d length = length < bound_of (is_large d)

-- Room for steps.

-- `count` more lines fit in
abbrev pub HasLineRoom : ℕ → Kept → Type 0
HasLineRoom count k = (lines_in k.document + count ≤ k.capacity.starts) × HasRoomForLines count (rows_in k)

-- So many more bytes of text, lines, and insertions into the indicators fit in: the text is not too long for the document's places then.
pub record FitIn (text more_lines insertions : ℕ) (k : Kept) : Type 0 where
  pub width : FitsWidth k.document (length k.document.cells + text)
  pub bytes : length k.document.cells + text ≤ k.capacity.cells.0
  pub styles : styles_for k.stored.styles (length k.document.cells + text) ≤ k.capacity.cells.1
  pub lines : HasLineRoom more_lines k
  pub runs : HasRoomForInsertions insertions (decorated_in k)

-- the part of the need for the text fits in
abbrev pub HasTextRoom : DocumentNeed → Kept → Type 0
HasTextRoom need k = FitIn need.text need.lines need.insertions k

-- the part of the need for the history fits in; a history that does not collect needs nothing
abbrev pub HasHistoryRoom : DocumentNeed → Kept → Type 0
HasHistoryRoom need k = history.HasRoom need.steps need.bytes (history_in k)

abbrev pub HasRoom : DocumentNeed → Kept → Type 0
HasRoom need k = HasTextRoom need k × HasHistoryRoom need k

-- Room for what is no step.

abbrev pub HasViewRoom : Kept → Type 0
HasViewRoom k = length k.document.views < k.capacity.views

abbrev pub HasMarkerRoom : ℕ → Kept → Type 0
HasMarkerRoom count k = HasRoomForMarkers count (rows_in k)

abbrev pub HasLevelRoom : ℕ → Kept → Type 0
HasLevelRoom line k = HasRoomForLevel line (rows_in k)

abbrev pub HasStateRoom : ℕ → Kept → Type 0
HasStateRoom line k = HasRoomForState line (rows_in k)

abbrev pub HasFillRoom : ℕ → Kept → Type 0
HasFillRoom indicator k = HasRoomForFill indicator (decorated_in k)

-- Parts of the text.

-- the `count` bytes of the text from `start` on
abbrev pub text_from : ℕ → ℕ → Document → List ℕ
text_from start count d = slice_range (text_of d) start (start + count)

-- where the lines of the document start
abbrev pub line_starts_in : Document → List ℕ
line_starts_in d = line_starts d.line_end_types (text_of d)
