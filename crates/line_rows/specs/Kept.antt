-- What a contract sees of `LineRows`.
use Rattle.std.specs.Prelude.{◌≡◌, ℕ, ℤ, pos, ◌<◌, ◌≤◌, ◌-◌, ◌+◌, ◌==◌, Bool, List, [], ◌∷◌, ◌++◌, length, map, min, max, slice_index_or, slice_set, Option, find, reverse}
use Rattle.std.specs.List.{range_with_len, list_any}
use Rattle.ed_model.specs.Numbers.{meets}
use Rattle.ed_model.specs.Rows.{Marker, Row, fresh_row, base_level, rows_together}
use Rattle.ed_model.specs.LinePlans.{mask_of}
use Rattle.ed_model.specs.Changes.{with_markers, new_markers, without_marker, marker_count}
use Rattle.split_vector.specs.Split.{most_held}
use Rattle.line_index.specs.declared.edit.LineEdit.{LineEdit}
use Rattle.line_index.specs.Edits.{after_edits}
use Rattle.marker_store.specs.Lines.{MarkedLines}
use Rattle.line_rows.specs.Values.{Valued, stored_after, wanted_if}
use Rattle.line_rows.specs.Rows.{rows_of}

-- For how many levels, states and markers there is memory, and for the markers of how many lines. As long as there is no
-- memory for a marker, no line needs any.
pub record RowCapacity : Type 0 where
  pub levels : ℕ
  pub states : ℕ
  pub markers : ℕ
  pub marker_lines : ℕ

-- The row of each line, and the handle that the next marker gets. For how many lines, from the first on, levels are stored,
-- and for how many states. For how much there is memory.
pub record KeptRows : Type 0 where
  pub rows : List Row
  pub next_handle : ℕ
  pub stored_levels : ℕ
  pub stored_states : ℕ
  pub capacity : RowCapacity

abbrev pub row_capacity : (levels states markers marker_lines : ℕ) → RowCapacity
row_capacity levels states markers marker_lines = record { levels = levels; states = states; markers = markers; marker_lines = marker_lines }

abbrev pub kept_rows : List Row → ℕ → (stored_levels stored_states : ℕ) → RowCapacity → KeptRows
kept_rows rows handle stored_levels stored_states capacity =
    record { rows = rows; next_handle = handle; stored_levels = stored_levels; stored_states = stored_states; capacity = capacity }

-- what a contract sees of the markers, the levels and the states of all lines
abbrev pub kept_in : MarkedLines → Valued ℕ → Valued ℤ → KeptRows
kept_in markers levels states =
    kept_rows (rows_of markers.lines levels.values states.values) markers.next_handle levels.stored states.stored
    (row_capacity levels.capacity states.capacity markers.capacity markers.line_capacity)

-- `count` more lines fit in. They take no memory for levels as long as none is stored, nor for states, nor for markers as
-- long as there is no memory for one.
abbrev pub HasRoomForLines : ℕ → KeptRows → Type 0
HasRoomForLines count r =
    (0 < r.stored_levels → r.stored_levels + count ≤ r.capacity.levels)
    × (0 < r.stored_states → r.stored_states + count ≤ r.capacity.states)
    × (0 < r.capacity.markers → length r.rows + count ≤ r.capacity.marker_lines)

-- the level of the line fits in, and its state, each with those of the lines before it
abbrev pub HasRoomForLevel : ℕ → KeptRows → Type 0
HasRoomForLevel line r = line < r.capacity.levels

abbrev pub HasRoomForState : ℕ → KeptRows → Type 0
HasRoomForState line r = line < r.capacity.states

-- `count` more markers fit in
abbrev pub HasRoomForMarkers : ℕ → KeptRows → Type 0
HasRoomForMarkers count r = marker_count r.rows + count ≤ r.capacity.markers

-- none of these capacities is greater than that one
abbrev pub IsAtMost : RowCapacity → RowCapacity → Type 0
IsAtMost c most = (c.levels ≤ most.levels) × (c.states ≤ most.states) × (c.markers ≤ most.markers) × (c.marker_lines ≤ most.marker_lines)

-- for how much there is memory at most after room was made: for `count` more lines, for the level of a line, for its state,
-- and for `count` more markers. Room for one level or state is made with that of all lines.
abbrev pub most_for_lines : ℕ → KeptRows → RowCapacity
most_for_lines count r = record r.capacity {
  levels = most_held r.capacity.levels (wanted_if r.stored_levels (r.stored_levels + count));
  states = most_held r.capacity.states (wanted_if r.stored_states (r.stored_states + count));
  marker_lines = most_held r.capacity.marker_lines (wanted_if r.capacity.markers (length r.rows + count));
}

abbrev pub most_for_level : ℕ → KeptRows → RowCapacity
most_for_level line r = record r.capacity { levels = most_held r.capacity.levels (max (line + 1) (length r.rows)) }

abbrev pub most_for_state : ℕ → KeptRows → RowCapacity
most_for_state line r = record r.capacity { states = most_held r.capacity.states (max (line + 1) (length r.rows)) }

abbrev pub most_for_markers : ℕ → KeptRows → RowCapacity
most_for_markers count r = record r.capacity {
  markers = most_held r.capacity.markers (marker_count r.rows + count);
  marker_lines = most_held r.capacity.marker_lines (length r.rows);
}

-- nothing but the capacities has changed, each of which is no less, and no more than this
abbrev pub GrowsTo : RowCapacity → KeptRows → KeptRows → Type 0
GrowsTo most old new = (new ≡ record old { capacity = new.capacity }) × IsAtMost old.capacity new.capacity × IsAtMost new.capacity most

-- the kept rows after edits of lines
abbrev pub rows_after : List LineEdit → KeptRows → KeptRows
rows_after edits r = record r {
  rows = after_edits rows_together edits r.rows;
  stored_levels = stored_after edits r.stored_levels;
  stored_states = stored_after edits r.stored_states;
}

abbrev pub row_at : List Row → ℕ → Row
row_at rows line = slice_index_or rows line fresh_row

-- the kept rows after the level of a line was set: the levels of the lines up to it are stored
abbrev pub with_level : KeptRows → ℕ → ℕ → KeptRows
with_level r line level =
    record r { rows = slice_set r.rows line (record (row_at r.rows line) { level = level }); stored_levels = max r.stored_levels (line + 1) }

-- the kept rows after the state of a line was set: the states of the lines up to it are stored
abbrev pub with_state : KeptRows → ℕ → ℤ → KeptRows
with_state r line state =
    record r { rows = slice_set r.rows line (record (row_at r.rows line) { state = state }); stored_states = max r.stored_states (line + 1) }

-- the kept rows with a new marker behind those of the line
abbrev pub with_marker : KeptRows → (line number : ℕ) → KeptRows
with_marker r line number =
    record r {
      rows = with_markers line ((row_at r.rows line).markers ++ new_markers r.next_handle (number ∷ [])) r.rows;
      next_handle = r.next_handle + 1;
    }

-- the rows without the line's first marker with the number, or without all of its markers
abbrev pub without_marker_on : ℕ → Option ℕ → List Row → List Row
without_marker_on line number rows = with_markers line (without_marker number (row_at rows line).markers) rows

abbrev pub levels_of : List Row → List ℕ
levels_of rows = map (λ (row : Row). row.level) rows

-- whether the line's mask has a bit in common with the mask
abbrev pub is_marked : ℕ → List Row → ℕ → Bool
is_marked mask rows line = meets (mask_of (row_at rows line).markers) mask

-- whether the line has a marker with the handle
abbrev pub has_handle : ℕ → List Row → ℕ → Bool
has_handle handle rows line = list_any (λ (m : Marker). m.handle == handle) (row_at rows line).markers

-- the first line that passes the test, from the line on, or from the line back
abbrev pub first_from : (ℕ → Bool) → List Row → ℕ → Option ℕ
first_from test rows line = find test (range_with_len line (length rows - line))

abbrev pub last_up_to : (ℕ → Bool) → List Row → ℕ → Option ℕ
last_up_to test rows line = find test (reverse (range_with_len 0 (min (line + 1) (length rows))))

-- as many levels and states as lines with markers, with the defaults of a fresh row
pub record AreParts (markers : MarkedLines) (levels : Valued ℕ) (states : Valued ℤ) : Type 0 where
  pub levelled : length markers.lines ≡ length levels.values
  pub stated : length markers.lines ≡ length states.values
  pub base : levels.default ≡ base_level
  pub zero_state : states.default ≡ pos 0
