-- Line starts and indicators of a text by the width of its places.
use Rattle.std.specs.Prelude.{◌≡◌, ℕ, Bool, true, false}
use Rattle.line_index.specs.Index.{Grows, Index}
use Rattle.decorations.specs.Decorated.{Decorated, IsFilled}
use Rattle.document.specs.declared.places.PlacesByWidth.{PlacesByWidth}
use Rattle.document.specs.declared.places.PlacesByWidth.TheVariants.{Small, Large}

-- the line starts, the indicators, and whether the places are those of a large text
pub record PlacesOf : Type 0 where
  pub index : Index
  pub decorated : Decorated
  pub is_large : Bool

abbrev pub places_of : Index → Decorated → Bool → PlacesOf
places_of index decorated is_large = record { index = index; decorated = decorated; is_large = is_large }

abbrev pub places_by_width : PlacesByWidth → PlacesOf
places_by_width (Small places) = places_of places.lines places.indicators false
places_by_width (Large places) = places_of places.lines places.indicators true

-- The line starts.

-- nothing has changed but the capacity for lines: it has grown for `count` more at most
abbrev pub GrowsLines : ℕ → PlacesOf → PlacesOf → Type 0
GrowsLines count old new = (new ≡ record old { index = new.index }) × Grows count old.index new.index

-- The indicators.

-- nothing has changed except how many runs fit in
abbrev pub ChangeCapacity : PlacesOf → PlacesOf → Type 0
ChangeCapacity old new = new ≡ record old { decorated = record old.decorated { capacity = new.decorated.capacity } }

-- nothing has changed but the indicators: one of them has the value at `count` places from `start` on
abbrev pub AreFilled : ℕ → ℕ → ℕ → ℕ → PlacesOf → PlacesOf → Type 0
AreFilled indicator start count value old new =
    (new ≡ record old { decorated = new.decorated }) × IsFilled indicator start count value old.decorated new.decorated
