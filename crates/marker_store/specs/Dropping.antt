-- Which markers a call removes.
use Rattle.std.specs.Prelude.{◌==◌, not, ℕ, Bool, true, false, List, filter, map, Option, Some, None}
use Rattle.ed_model.specs.Rows.{Marker}
use Rattle.marker_store.specs.declared.drops.Drops.{Drops}
use Rattle.marker_store.specs.declared.drops.Drops.TheVariants.{Nothing, Each, Number, Handle}

abbrev pub is_dropped : Drops → Marker → Bool
is_dropped Nothing m = false
is_dropped Each m = true
is_dropped (Number number) m = m.number == number
is_dropped (Handle handle) m = m.handle == handle

abbrev pub kept : Drops → List Marker → List Marker
kept drops ms = filter (λ m. not (is_dropped drops m)) ms

abbrev pub kept_rows : Drops → List (List Marker) → List (List Marker)
kept_rows drops rows = map (kept drops) rows

-- the markers with the number, or all of them
abbrev pub of_number : Option ℕ → Drops
of_number None = Each
of_number (Some number) = Number number
