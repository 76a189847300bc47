-- Rows of lines, whose markers, levels and states are stored separately.
use Rattle.std.specs.Prelude.{◌≡◌, ℕ, ℤ, List, [], ◌∷◌, flat_map}
use Rattle.ed_model.specs.Rows.{Marker, Row, base_level}
use Rattle.contraction.specs.Headings.{HeadFrom}
use Rattle.line_rows.specs.Values.{Valued}

-- the row of each line, from its markers, its level and its state
abbrev pub rows_of : List (List Marker) → List ℕ → List ℤ → List Row
rows_of [] levels states = []
rows_of (m ∷ ms) [] states = []
rows_of (m ∷ ms) (l ∷ ls) [] = []
rows_of (m ∷ ms) (l ∷ ls) (s ∷ ss) = record { markers = m; level = l; state = s } ∷ rows_of ms ls ss

-- the markers of lines that are joined
abbrev pub markers_together : List (List Marker) → List Marker
markers_together markers = flat_map (λ ms. ms) markers

-- a line without a level has the base level, and no header has a smaller number than this one
abbrev pub AreLevels : Valued ℕ → ℕ → Type 0
AreLevels levels number = record { base : levels.default ≡ base_level; least : HeadFrom number levels.values }
