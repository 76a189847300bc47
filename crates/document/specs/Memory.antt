-- The memory of a document: how much a call may allocate, and which calls allocate none.
use Rattle.std.specs.Prelude.{◌≡◌, ℕ, ◌+◌, ◌≤◌, max, length}
use Rattle.ed_model.specs.Session.{lines_in}
use Rattle.cell_buffer.specs.Buffer.{IsWithin, styles_for}
use Rattle.split_vector.specs.Split.{most_held}
use Rattle.decorations.specs.Decorated.{IsCapacityForFill, IsCapacityForRuns, KeepsRuns, WereFilledFrom}
use Rattle.line_rows.specs.Kept.{RowCapacity, IsAtMost, most_for_lines}
use Rattle.undo_history.specs.Kept as history
use Rattle.document.specs.declared.need.DocumentNeed.{DocumentNeed}
use Rattle.document.specs.Kept.{Kept, decorated_in, history_in, rows_in}

-- The capacity for lines grows for `count` more at most: if these fit in, it stays, and otherwise it becomes what they need, or twice as
-- much as before. Nothing is given back.
pub record GrowsForLines (count : ℕ) (old new : Kept) : Type 0 where
  pub starts : new.capacity.starts ≤ most_held old.capacity.starts (lines_in old.document + count)
  pub starts_kept : old.capacity.starts ≤ new.capacity.starts
  pub rows : IsAtMost new.capacity.rows (most_for_lines count (rows_in old))
  pub rows_kept : IsAtMost old.capacity.rows new.capacity.rows

-- the same of each capacity, for a need
pub record GrowsFor (need : DocumentNeed) (old new : Kept) : Type 0 where
  pub bytes : new.capacity.cells.0 ≤ most_held old.capacity.cells.0 (length old.document.cells + need.text)
  pub styles : new.capacity.cells.1 ≤ most_held old.capacity.cells.1 (styles_for old.stored.styles (length old.document.cells + need.text))
  pub cells_kept : IsWithin old.capacity.cells new.capacity.cells
  pub lines : GrowsForLines need.lines old new
  pub runs : IsCapacityForRuns (need.insertions + 2) (decorated_in old) new.capacity.indicators
  pub history_kept : history.KeepsCapacity old.capacity.history new.capacity.history
  pub history : history.CapacityAtMost need.steps need.bytes (history_in old) (history_in new)
  pub views : new.capacity.views ≡ old.capacity.views

-- What each `reserve` may change: at most so much is reserved, nothing is given back, and nothing else is another.

abbrev pub ReservesSteps : DocumentNeed → Kept → Kept → Type 0
ReservesSteps need old new = (new ≡ record old { capacity = new.capacity }) × GrowsFor need old new

abbrev pub ReservesLines : ℕ → Kept → Kept → Type 0
ReservesLines count old new =
    (new ≡ record old { capacity = record old.capacity { starts = new.capacity.starts; rows = new.capacity.rows } }) × GrowsForLines count old new

-- only the capacity for what belongs to lines, which grows to this at most
abbrev pub ReservesRows : RowCapacity → Kept → Kept → Type 0
ReservesRows most old new =
    (new ≡ record old { capacity = record old.capacity { rows = new.capacity.rows } })
    × IsAtMost old.capacity.rows new.capacity.rows
    × IsAtMost new.capacity.rows most

-- only the capacity of the history, which grows for one step without bytes at most
abbrev pub ReservesStep : Kept → Kept → Type 0
ReservesStep old new =
    (new ≡ record old { capacity = record old.capacity { history = new.capacity.history } })
    × history.KeepsCapacity old.capacity.history new.capacity.history
    × history.CapacityAtMost 1 0 (history_in old) (history_in new)

-- only whether styles are stored, and the capacity for them
abbrev pub ReservesStyles : Kept → Kept → Type 0
ReservesStyles old new =
    (new ≡ record old {
      stored = record old.stored { styles = new.stored.styles };
      capacity = record old.capacity { cells = (old.capacity.cells.0, new.capacity.cells.1) };
    })
    × (new.capacity.cells.1 ≤ most_held old.capacity.cells.1 old.capacity.cells.0)

-- only the capacity for indicators, which grows for a fill of this one at most
abbrev pub ReservesFill : ℕ → Kept → Kept → Type 0
ReservesFill indicator old new =
    (new ≡ record old { capacity = record old.capacity { indicators = new.capacity.indicators } })
    × IsCapacityForFill indicator (decorated_in old) new.capacity.indicators

-- only the capacity for views, which grows to twice as many as are attached at most, or to one
abbrev pub ReservesView : Kept → Kept → Type 0
ReservesView old new =
    (new ≡ record old { capacity = record old.capacity { views = new.capacity.views } })
    × (old.capacity.views ≤ new.capacity.views)
    × (new.capacity.views ≤ max old.capacity.views (length old.document.views + max 1 (length old.document.views)))

-- only the capacity for indicators may be another: runs are dropped where an indicator becomes 0 everywhere
abbrev pub KeepsCapacity : Kept → Kept → Type 0
KeepsCapacity old new = new.capacity ≡ record old.capacity { indicators = new.capacity.indicators }

-- No memory was allocated.
pub record KeepsMemory (old new : Kept) : Type 0 where
  pub others : KeepsCapacity old new
  pub runs : KeepsRuns (decorated_in old) (decorated_in new)

-- the same if one indicator was filled
pub record KeepsMemoryFilling (indicator : ℕ) (old new : Kept) : Type 0 where
  pub others : KeepsCapacity old new
  pub runs : WereFilledFrom indicator (decorated_in old) (decorated_in new)
