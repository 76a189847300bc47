-- The room of a document, and that of its parts.
use Rattle.document.proofs.Names.{◌≡◌, ℕ, ◌+◌, ◌≤◌, ◌<◌, length, ap, sym, subst, arith, Buffer, bound_of, kept_in, AreParts, CanTakeNeed}
use Rattle.cell_buffer.specs.Buffer.{HasRoom}
use Rattle.document.specs.declared.kept.Document.TheInside.{Inside}
use Rattle.document.specs.declared.need.DocumentNeed.{DocumentNeed}
use Rattle.document.specs.Kept.{HasTextRoom}
use Rattle.document.specs.proved.Room.{fewer_styles}

pub parts_take : (need : DocumentNeed) (d : Inside) → AreParts d → HasTextRoom need (kept_in d) → CanTakeNeed need d.parts
parts_take need d parts room = record {
  width = subst (λ large. length d.parts.cells.cells + need.text < bound_of large) (sym parts.width) room.width;
  cells = (room.bytes, room.styles);
  starts = omega (arith, room.lines.0, ap length parts.indexed.starts);
  rows = room.lines.1;
  runs = room.runs;
}

pub document_takes : (need : DocumentNeed) (d : Inside) → AreParts d → CanTakeNeed need d.parts → HasTextRoom need (kept_in d)
document_takes need d parts room = record {
  width = subst (λ large. length d.parts.cells.cells + need.text < bound_of large) parts.width room.width;
  bytes = room.cells.0;
  styles = room.cells.1;
  lines = (omega (arith, room.starts, ap length parts.indexed.starts), room.rows);
  runs = room.runs;
}

-- a text that is no longer has no less room
pub cells_left :
    (old new : Buffer) (few many : ℕ) → new.keeps_styles ≡ old.keeps_styles → new.capacity ≡ old.capacity → length new.cells + few ≤ length old.cells + many → HasRoom many old → HasRoom few new
cells_left old new few many styles capacity short room =
    rw (styles, capacity) (omega (arith, short, room.0), fewer_styles old.keeps_styles (length new.cells + few) (length old.cells + many) old.capacity.1 short room.1)
