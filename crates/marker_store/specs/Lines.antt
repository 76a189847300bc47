-- What a contract sees of a `MarkerStore`, and the effect of its calls on the lists of the lines.
use Rattle.std.specs.Prelude.{ℕ, ◌+◌, ◌-◌, ◌<◌, ◌≤◌, ◌==◌, not, Bool, List, [], ◌∷◌, ◌++◌, length, map, filter, take, drop, replicate, slice_range, slice_index_or, slice_set, sum_by, Option, find, reverse, min, refl}
use Rattle.std.specs.List.{range_with_len, flat_map, list_any}
use Rattle.std.specs.Coded.{Coded, code_by, coded×, coded_list, coded_ℕ}
use Rattle.split_vector.specs.Split.{most_held}
use Rattle.ed_model.specs.Rows.{Marker}
use Rattle.ed_model.specs.Numbers.{meets}
use Rattle.ed_model.specs.LinePlans.{mask_of}
use Rattle.ed_model.specs.Changes.{new_markers, without_marker}

-- The markers of each line in their order, the handle that the next marker gets, for how many markers there is memory, and
-- for how many lines. As long as there is no memory for a marker, no line needs any.
pub record MarkedLines : Type 0 where
  pub lines : List (List Marker)
  pub next_handle : ℕ
  pub capacity : ℕ
  pub line_capacity : ℕ

abbrev pub marker : ℕ → ℕ → Marker
marker handle number = record { handle = handle; number = number }

abbrev pub marker_code : Coded Marker
marker_code = code_by (ℕ × ℕ) (coded× coded_ℕ coded_ℕ) (λ m. (m.handle, m.number)) (λ p. marker p.0 p.1) (λ _. refl)

abbrev pub marked_lines : List (List Marker) → ℕ → ℕ → ℕ → MarkedLines
marked_lines lines handle capacity line_capacity = record { lines = lines; next_handle = handle; capacity = capacity; line_capacity = line_capacity }

abbrev pub marked_lines_code : Coded MarkedLines
marked_lines_code =
    code_by (List (List Marker) × (ℕ × (ℕ × ℕ))) (coded× (coded_list (coded_list marker_code)) (coded× coded_ℕ (coded× coded_ℕ coded_ℕ)))
    (λ s. (s.lines, (s.next_handle, (s.capacity, s.line_capacity)))) (λ p. marked_lines p.0 p.1.0 p.1.1.0 p.1.1.1) (λ _. refl)

-- the markers of a line; a line that does not exist has none
abbrev pub markers_of : ℕ → List (List Marker) → List Marker
markers_of line lines = slice_index_or lines line []

-- how many markers there are
abbrev pub marker_total : List (List Marker) → ℕ
marker_total lines = sum_by length lines

-- there is memory for `count` more lines, or none is needed
abbrev pub HasLineRoom : ℕ → MarkedLines → Type 0
HasLineRoom count s = 0 < s.capacity → length s.lines + count ≤ s.line_capacity

-- there is room for `markers` more markers, and for `lines` more lines
abbrev pub HasRoom : ℕ → ℕ → MarkedLines → Type 0
HasRoom markers lines s = (marker_total s.lines + markers ≤ s.capacity) × HasLineRoom lines s

-- a capacity is no less than before, and no more than what is wanted asks for
abbrev pub GrowsFor : (wanted old new : ℕ) → Type 0
GrowsFor wanted old new = (old ≤ new) × (new ≤ most_held old wanted)

-- the lists with a new marker behind those of the line
abbrev pub with_marker_on : ℕ → ℕ → MarkedLines → List (List Marker)
with_marker_on line number s = slice_set s.lines line (markers_of line s.lines ++ new_markers s.next_handle (number ∷ []))

-- the lists without the line's first marker with the number, or without all of its markers
abbrev pub without_marker_on : ℕ → Option ℕ → List (List Marker) → List (List Marker)
without_marker_on line number lines = slice_set lines line (without_marker number (markers_of line lines))

-- `count` lines without markers inserted before the line
abbrev pub with_fresh : ℕ → ℕ → List (List Marker) → List (List Marker)
with_fresh line count lines = take line lines ++ (replicate count [] ++ drop line lines)

-- the markers of the `count` lines behind the line follow its own, in their order
abbrev pub with_joined : ℕ → ℕ → List (List Marker) → List (List Marker)
with_joined line count lines =
    take line lines ++ (flat_map (λ ms. ms) (slice_range lines line (line + (count + 1))) ∷ drop (line + (count + 1)) lines)

-- the lists without the markers that are dropped
abbrev pub without : (Marker → Bool) → List (List Marker) → List (List Marker)
without drops lines = map (λ ms. filter (λ m. not (drops m)) ms) lines

-- whether the line's mask has a bit in common with the mask
abbrev pub is_met : ℕ → List (List Marker) → ℕ → Bool
is_met mask lines line = meets (mask_of (markers_of line lines)) mask

-- whether the line has a marker with the handle
abbrev pub has_handle : ℕ → List (List Marker) → ℕ → Bool
has_handle handle lines line = list_any (λ m. m.handle == handle) (markers_of line lines)

-- the first of these lines that passes the test, from the line on, or from the line back
abbrev pub first_from : (ℕ → Bool) → List (List Marker) → ℕ → Option ℕ
first_from test lines line = find test (range_with_len line (length lines - line))

abbrev pub last_up_to : (ℕ → Bool) → List (List Marker) → ℕ → Option ℕ
last_up_to test lines line = find test (reverse (range_with_len 0 (min (line + 1) (length lines))))
