-- Room lasts: where more fits in, less does, and a seal of the history takes up none.
use Rattle.std.proofs.Common.{◌≤◌, ◌+◌, ℕ, Bool, true, false, length, arith}
use Rattle.cell_buffer.specs.Buffer.{styles_for}
use Rattle.decorations.specs.Decorated.{Decorated, HasRoomForInsertions}
use Rattle.ed_model.specs.History.{sealed_outside_groups}
use Rattle.line_rows.specs.Kept.{KeptRows, HasRoomForLines}
use Rattle.undo_history.specs.proved.Room.{room_after_seal}
use Rattle.document.specs.declared.need.DocumentNeed.{DocumentNeed}
use Rattle.document.specs.Kept.{Kept, HasRoom, HasTextRoom, IsAtLeast, decorated_in, history_in, rows_in}
use Rattle.document.specs.Changes.{with_history}

-- Parts of a document.

pub fewer_styles : (keeps : Bool) (few many capacity : ℕ) → few ≤ many → styles_for keeps many ≤ capacity → styles_for keeps few ≤ capacity
fewer_styles true few many capacity less room = omega arith
fewer_styles false few many capacity less room = room

pub fewer_lines : (few many : ℕ) (r : KeptRows) → few ≤ many → HasRoomForLines many r → HasRoomForLines few r
fewer_lines few many r less room = (λ some. omega (arith, room.0 some), λ some. omega (arith, room.1 some), λ some. omega (arith, room.2 some))

pub fewer_insertions : (few many : ℕ) (d : Decorated) → few ≤ many → HasRoomForInsertions many d → HasRoomForInsertions few d
fewer_insertions few many d less room = λ k below used. let fit = room k below used in (omega (arith, fit.0), omega (arith, fit.1))

-- Documents.

pub less_text_room : (k : Kept) (need more : DocumentNeed) → IsAtLeast more need → HasTextRoom more k → HasTextRoom need k
less_text_room k need more less room = record {
  width = omega (arith, less.text, room.width);
  bytes = omega (arith, less.text, room.bytes);
  styles = fewer_styles k.stored.styles (length k.document.cells + need.text) (length k.document.cells + more.text) k.capacity.cells.1 (omega (arith, less.text)) room.styles;
  lines = (omega (arith, less.lines, room.lines.0), fewer_lines need.lines more.lines (rows_in k) less.lines room.lines.1);
  runs = fewer_insertions need.insertions more.insertions (decorated_in k) less.insertions room.runs;
}

pub less_room : (k : Kept) (need more : DocumentNeed) → IsAtLeast more need → HasRoom more k → HasRoom need k
less_room k need more less room = (
  less_text_room k need more less room.0,
  λ collecting. let fit = room.1 collecting in (omega (arith, less.steps, fit.0), omega (arith, less.bytes, fit.1)),
)

pub seal_room : (k : Kept) (need : DocumentNeed) → HasRoom need k → HasRoom need (with_history (sealed_outside_groups k.document.history) k)
seal_room k need room = (
  record { width = room.0.width; bytes = room.0.bytes; styles = room.0.styles; lines = room.0.lines; runs = room.0.runs },
  room_after_seal (history_in k) need.steps need.bytes room.1,
)
