-- Bytes and cells. A position is a place between bytes, from 0 to the length.
use Rattle.std.specs.Prelude.{ℕ, Bool, List, map, slice_get}
use Rattle.ed_model.specs.Numbers.{is_number}

-- A cell is a byte and its style. [Scintilla: text retrieval, styling]
pub record Cell : Type 0 where
  pub byte : ℕ
  pub style : ℕ

abbrev pub bytes_of : List Cell → List ℕ
bytes_of cells = map (λ (c : Cell). c.byte) cells

abbrev pub styles_of : List Cell → List ℕ
styles_of cells = map (λ (c : Cell). c.style) cells

-- an inserted byte has style 0
abbrev pub plain_cell : ℕ → Cell
plain_cell byte = record { byte = byte; style = 0 }

abbrev pub plain_cells : List ℕ → List Cell
plain_cells bytes = map plain_cell bytes

-- whether the byte at the place is this one
abbrev pub stands : ℕ → List ℕ → ℕ → Bool
stands byte text place = is_number byte (slice_get text place)

abbrev pub line_feed : ℕ
line_feed = 10

abbrev pub carriage_return : ℕ
carriage_return = 13
