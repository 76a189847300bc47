-- Laws of steps: positions stay in the text, and keep their order.
use Rattle.std.specs.Prelude.{ℕ, ◌≡◌, ◌+◌, ◌-◌, ◌≤◌, List, length}
use Rattle.ed_model.specs.Text.{Cell, bytes_of}
use Rattle.ed_model.specs.Steps.{Step, Insert, Delete, edited, edited_cells, moved_start, moved_position}

-- an insertion lengthens the text by the inserted bytes
abbrev pub InsertionsLengthen : Type 0
InsertionsLengthen = (p : ℕ) (bytes text : List ℕ) → length (edited (Insert p bytes) text) ≡ length text + length bytes

-- a deletion of bytes that are there shortens the text by them
abbrev pub DeletionsShorten : Type 0
DeletionsShorten = (p : ℕ) (bytes text : List ℕ) → p + length bytes ≤ length text → length (edited (Delete p bytes) text) ≡ length text - length bytes

-- the bytes of the edited cells are the edited bytes
abbrev pub CellsFollowBytes : Type 0
CellsFollowBytes = (step : Step) (cells : List Cell) → bytes_of (edited_cells step cells) ≡ edited step (bytes_of cells)

-- a position in the text is moved to a position in the new text
abbrev pub PositionsStayInRange : Type 0
PositionsStayInRange = (step : Step) (text : List ℕ) (q : ℕ) → q ≤ length text → moved_position step q ≤ length (edited step text)

abbrev pub StartsStayInRange : Type 0
StartsStayInRange = (step : Step) (text : List ℕ) (q : ℕ) → q ≤ length text → moved_start step q ≤ length (edited step text)

-- a later position is never moved before an earlier one
abbrev pub PositionsKeepTheirOrder : Type 0
PositionsKeepTheirOrder = (step : Step) (p q : ℕ) → p ≤ q → moved_position step p ≤ moved_position step q

abbrev pub StartsKeepTheirOrder : Type 0
StartsKeepTheirOrder = (step : Step) (p q : ℕ) → p ≤ q → moved_start step p ≤ moved_start step q
