-- How far each capacity grows once room was made.
use Rattle.document.proofs.Names.{◌≡◌, ◌≤◌, ◌+◌, ℕ, length, refl, ap, sym, ◌∙◌, subst, arith, Buffer, bytes_of, line_count, Kept, KeptRows, AreParts, document_in, kept_in, PlacesOf}
use Rattle.std.specs.Prelude.{Result, Ok, Err, OnOk}
use Rattle.split_vector.specs.Split.{most_held}
use Rattle.cell_buffer.specs.Buffer.{Grows}
use Rattle.cell_buffer.specs.Buffer as buffer
use Rattle.decorations.specs.Decorated.{Decorated, HasRoomForInsertions, IsCapacityForRuns}
use Rattle.line_index.specs.Index.{Index, MoreLinesFit}
use Rattle.line_rows.specs.Kept.{GrowsTo, HasRoomForLines, most_for_lines}
use Rattle.undo_history.specs.Kept as history
use Rattle.document.specs.declared.kept.Document.TheInside.{Inside}
use Rattle.document.specs.declared.need.DocumentNeed.{DocumentNeed}
use Rattle.document.specs.Kept.{FitsWidth, HasHistoryRoom, HasRoom, HasTextRoom}
use Rattle.document.specs.Memory.{ReservesSteps}
use Rattle.document.specs.Places.{ChangeCapacity, GrowsLines}

-- a history that stays as it is
held_at_least : (held wanted : ℕ) → held ≤ most_held held wanted
held_at_least held wanted = grind arith

pub history_stays : (steps bytes : ℕ) (k : history.Kept) → (k ≡ record k { capacity = k.capacity }) × history.KeepsCapacity k.capacity k.capacity × history.CapacityAtMost steps bytes k k
history_stays steps bytes k = (refl, (omega arith, omega arith), (held_at_least _ _, held_at_least _ _))

-- there is room for all that is needed if the last part was reserved, too
with_history_room : {T E : Type 0} (result : Result T E) (need : DocumentNeed) (k : Kept) → HasTextRoom need k → OnOk result (HasHistoryRoom need k) → OnOk result (HasRoom need k)
with_history_room (Ok value) need k text told = (text, told)
with_history_room (Err error) need k text told = tt

-- A document whose parts have other capacities: `lines` are its places once there is room for lines, and `runs` once there is for runs, too.
module _ (need : DocumentNeed) (d : Inside) (cells : Buffer) (lines runs : PlacesOf) (rows : KeptRows) (told : history.Kept) (parts : AreParts d) where
  abbrev reserved : Inside
  reserved = record d { parts = record { cells = cells; places = runs; rows = rows }; history = told }

  pub all_grow :
      Grows need.text d.parts.cells cells → GrowsLines need.lines d.parts.places lines → GrowsTo (most_for_lines need.lines d.parts.rows) d.parts.rows rows
      → ChangeCapacity lines runs × IsCapacityForRuns (need.insertions + 2) lines.decorated runs.decorated.capacity
      → (told ≡ record d.history { capacity = told.capacity }) × history.KeepsCapacity d.history.capacity told.capacity × history.CapacityAtMost need.steps need.bytes d.history told
      → ReservesSteps need (kept_in d) (kept_in reserved)
  all_grow for_cells for_lines for_rows for_runs for_history =
      let index : runs.index ≡ lines.index = ap (λ (p : PlacesOf). p.index) for_runs.0 in
      let marked : lines.decorated ≡ d.parts.places.decorated = ap (λ (p : PlacesOf). p.decorated) for_lines.0 in
      let grown = subst (λ (was : Decorated). IsCapacityForRuns (need.insertions + 2) was runs.decorated.capacity) marked for_runs.1 in (
        rw (for_cells.0, for_runs.0, for_lines.0, for_lines.1.0, for_rows.0, for_history.0) refl,
        record {
          bytes = for_cells.2.0;
          styles = for_cells.2.1;
          cells_kept = for_cells.1;
          lines = record {
            starts = rw index (subst (λ n. lines.index.capacity ≤ most_held d.parts.places.index.capacity (n + need.lines)) (ap length parts.indexed.starts) for_lines.1.2);
            starts_kept = rw index for_lines.1.1;
            rows = for_rows.2;
            rows_kept = for_rows.1;
          };
          runs = record { runs = grown.runs; kept = grown.kept; spare = grown.spare; slots = grown.slots };
          history_kept = for_history.1;
          history = for_history.2;
          views = refl;
        },
      )

  pub all_fit :
      cells ≡ record d.parts.cells { capacity = cells.capacity } → GrowsLines need.lines d.parts.places lines → ChangeCapacity lines runs
      → FitsWidth (document_in d) (length d.parts.cells.cells + need.text)
      → buffer.HasRoom need.text cells → MoreLinesFit need.lines lines.index → HasRoomForLines need.lines rows → HasRoomForInsertions need.insertions runs.decorated
      → {T E : Type 0} (result : Result T E) → OnOk result (history.HasRoom need.steps need.bytes told) → OnOk result (HasRoom need (kept_in reserved))
  all_fit same_cells for_lines same_runs wide cells_fit starts_fit rows_fit runs_fit result told_fits =
      let index : runs.index ≡ lines.index = ap (λ (p : PlacesOf). p.index) same_runs in
      let text = ap (λ (b : Buffer). line_count lines.index.types (bytes_of b.cells)) same_cells ∙ ap (λ (i : Index). line_count i.types (bytes_of d.parts.cells.cells)) for_lines.1.0 in
      with_history_room result need (kept_in reserved) (record {
        width = omega (arith, wide, ap (λ (b : Buffer). length b.cells) same_cells);
        bytes = cells_fit.0;
        styles = cells_fit.1;
        lines = (rw index (omega (arith, starts_fit, text, ap (λ (i : Index). length i.starts) for_lines.1.0, ap length parts.indexed.starts)), rows_fit);
        runs = runs_fit;
      }) told_fits

  -- room for lines changes nothing among the indicators
  pub runs_fit : GrowsLines need.lines d.parts.places lines → HasTextRoom need (kept_in d) → HasRoomForInsertions need.insertions lines.decorated
  runs_fit for_lines room = subst (λ (was : Decorated). HasRoomForInsertions need.insertions was) (sym (ap (λ (p : PlacesOf). p.decorated) for_lines.0)) room.runs

  pub all_same : cells ≡ d.parts.cells → lines ≡ d.parts.places → runs ≡ lines → rows ≡ d.parts.rows → told ≡ d.history → kept_in reserved ≡ kept_in d
  all_same a b e f g = rw (a, e, b, f, g) refl
