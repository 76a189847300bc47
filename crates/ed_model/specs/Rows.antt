-- What is kept for each line: a document keeps its markers, fold level and line state; a view keeps whether it is visible and
-- whether it is expanded. [Scintilla: markers, folding]
use Rattle.std.specs.Prelude.{ℕ, ℤ, pos, Bool, true, List, [], ◌∷◌, flat_map}

-- A marker has a handle that no other marker of the document ever had, and a number from 0 to 31.
pub record Marker : Type 0 where
  pub handle : ℕ
  pub number : ℕ

pub record Row : Type 0 where
  pub markers : List Marker
  pub level : ℕ
  pub state : ℤ

-- SC_FOLDLEVELBASE
abbrev pub base_level : ℕ
base_level = 0x400

abbrev pub fresh_row : Row
fresh_row = record { markers = []; level = base_level; state = pos 0 }

-- rows that meet on one line: the markers of all, in the order of the rows, and the level and state of the first
abbrev pub rows_together : List Row → Row
rows_together [] = fresh_row
rows_together (row ∷ rows) = record row { markers = flat_map (λ (r : Row). r.markers) (row ∷ rows) }

pub record Flags : Type 0 where
  pub visible : Bool
  pub expanded : Bool

abbrev pub fresh_flags : Flags
fresh_flags = record { visible = true; expanded = true }

-- flags that meet on one line: those of the first
abbrev pub flags_together : List Flags → Flags
flags_together [] = fresh_flags
flags_together (flags ∷ others) = flags
