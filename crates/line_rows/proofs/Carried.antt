-- What is kept of lines, through edits of them.
use Rattle.line_rows.proofs.Names.{◌≡◌, ◌≤◌, ◌<◌, ◌+◌, ℕ, ℤ, List, [], ◌∷◌, length, sym, ap, ap₂, ◌∙◌, subst, arith, LineEdit, Come, Join, Restart, FitLines, after_edit, after_edits, length_after_edit, edit_adds, fresh_by, fresh_lines, rows_together, rows_of, markers_together, MarkedLines, HasLineRoom, KeptRows, AreParts, HasRoomForLines, kept_in, rows_after, first_or, Valued, stored_after, stored_after_edit, values_after}
use Rattle.line_rows.proofs.RowParts.{same_edits, rows_carried}
use Rattle.line_rows.proofs.RowReads.{parts_length}

-- edits of lines add no more lines than are fresh
edits_add : {R : Type 0} (together : List R → R) (edits : List LineEdit) (rows : List R) → FitLines (length rows) edits → length (after_edits together edits rows) ≤ length rows + fresh_lines edits
edits_add together [] rows h = omega arith
edits_add together (edit ∷ edits) rows h =
    let long = length_after_edit together rows edit h.0 in
    omega (arith, edits_add together edits (after_edit together rows edit) (rw long h.1), long, edit_adds (length rows) edit)

-- an edit stores no more values than it brings lines, and none where none is stored
pub room_after_edit : (edit : LineEdit) (stored capacity more : ℕ) → (0 < stored → stored + (fresh_by edit + more) ≤ capacity) → 0 < stored_after_edit stored edit → stored_after_edit stored edit + more ≤ capacity
room_after_edit (Come line count) stored capacity more h some = grind arith
room_after_edit (Join line count) stored capacity more h some = omega (arith, h (omega arith))
room_after_edit Restart stored capacity more h some = absurd (omega arith)

pub room_after : (edits : List LineEdit) (stored capacity more : ℕ) → (0 < stored → stored + (fresh_lines edits + more) ≤ capacity) → 0 < stored_after edits stored → stored_after edits stored + more ≤ capacity
room_after [] stored capacity more h some = omega (arith, h some)
room_after (edit ∷ edits) stored capacity more h some =
    room_after edits (stored_after_edit stored edit) capacity more
    (room_after_edit edit stored capacity (fresh_lines edits + more) (λ was. omega (arith, h was))) some

-- there is room for more lines, if there was for these and the fresh ones
pub room_for_more : (edits : List LineEdit) (r : KeptRows) (more : ℕ) → FitLines (length r.rows) edits → HasRoomForLines (fresh_lines edits + more) r → HasRoomForLines more (rows_after edits r)
room_for_more edits r more fit h = (
  room_after edits r.stored_levels r.capacity.levels more h.0,
  room_after edits r.stored_states r.capacity.states more h.1,
  λ some. omega (arith, h.2 some, edits_add rows_together edits r.rows fit),
)

-- The parts of a `LineRows` are carried.
module _ (edits : List LineEdit) (markers : MarkedLines) (levels : Valued ℕ) (states : Valued ℤ) (parts : AreParts markers levels states) (r : KeptRows) (view : kept_in markers levels states ≡ r) where
  pub fit_markers : FitLines (length r.rows) edits → FitLines (length markers.lines) edits
  fit_markers fit = subst (λ (n : ℕ). FitLines n edits) (sym (parts_length markers levels states parts r view)) fit

  pub room_for_markers : HasRoomForLines (fresh_lines edits) r → HasLineRoom (fresh_lines edits) markers
  room_for_markers room some =
      let held = subst (HasRoomForLines (fresh_lines edits)) (sym view) room in
      omega (arith, held.2 some, parts_length markers levels states parts r view, ap (λ (v : KeptRows). length v.rows) view)

  pub carried_parts : AreParts (record markers { lines = after_edits markers_together edits markers.lines }) (values_after edits levels) (values_after edits states)
  carried_parts = record {
    levelled = same_edits markers_together (first_or levels.default) edits markers.lines levels.values parts.levelled;
    stated = same_edits markers_together (first_or states.default) edits markers.lines states.values parts.stated;
    base = parts.base;
    zero_state = parts.zero_state;
  }

  pub carried_view : kept_in (record markers { lines = after_edits markers_together edits markers.lines }) (values_after edits levels) (values_after edits states) ≡ rows_after edits r
  carried_view =
      ap (λ rows. record (rows_after edits (kept_in markers levels states)) { rows = rows })
      (ap₂ (λ (ls : List ℕ) (ss : List ℤ). rows_of (after_edits markers_together edits markers.lines) ls ss) (ap (λ d. after_edits (first_or d) edits levels.values) parts.base) (ap (λ d. after_edits (first_or d) edits states.values) parts.zero_state)
      ∙ sym (rows_carried edits markers.lines levels.values states.values parts.levelled parts.stated))
      ∙ ap (rows_after edits) view
