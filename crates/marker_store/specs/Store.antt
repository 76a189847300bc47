-- The lines of a store: those that have a chain, and the others, which have no marker.
use Rattle.std.specs.Prelude.{◌≡◌, ◌⊎◌, ℕ, ◌-◌, ◌^◌, ◌<◌, ◌≤◌, List, [], ◌++◌, length, replicate, sum_by}
use Rattle.ed_model.specs.Rows.{Marker}
use Rattle.marker_store.specs.Chains.{Chained}

-- the markers of n lines, of which the first have these
abbrev pub all_lines : ℕ → List (List Marker) → List (List Marker)
all_lines n rows = rows ++ replicate (n - length rows) []

-- What a store keeps: the number of lines is within its limit, all lines have a chain or none has, there is memory for all
-- once there is some for a marker, there are fewer markers than handles were given, and none is laid aside.
pub record IsStore (chains : Chained) (lines next_handle : ℕ) : Type 0 where
  pub some : 0 < lines
  pub few : lines ≤ 2 ^ 62
  pub headed : (chains.rows ≡ []) ⊎ (length chains.rows ≡ lines)
  pub held : 0 < length chains.rows → 0 < chains.capacity
  pub fits : 0 < chains.capacity → lines ≤ chains.line_capacity
  pub fewer : sum_by length chains.rows < next_handle
  pub none_aside : chains.aside ≡ []
