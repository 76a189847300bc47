-- How a table keeps its values. No public contract cites this module.
use Rattle.std.specs.Prelude.{◌≡◌, ◌≢◌, ℕ, ◌<◌, List, [], ◌∷◌, length, filter_map, Option, option_map}
use Rattle.std.specs.List.{AllByRecursion, AllWithin, HoldsAt}
use Rattle.std.specs.List.Sorted.{IsNonDecreasingBy}
use Rattle.slab.specs.Slab.{Slab, get, slab_len, ContainsKey}
use Rattle.id_table.specs.Entries.{Entry, entry}
use Rattle.id_table.specs.declared.table.Place.{Place}

-- the ids of these places do not fall
abbrev pub IsOrdered : List Place → Type 0
IsOrdered ps = IsNonDecreasingBy (λ (p : Place). p.id) ps

-- the id stands at that place of the order, or at none
abbrev pub IsAt : ℕ → List Place → ℕ → Type 0
IsAt id ps at = (at < length ps) × HoldsAt (λ (p : Place). p.id ≡ id) ps at

abbrev pub IsNowhere : ℕ → List Place → Type 0
IsNowhere id ps = AllWithin (λ (p : Place). p.id ≢ id) ps 0 (length ps)

module _ {V : Type 0} where
  -- the entry of a place
  abbrev pub entry_by : Slab V → Place → Option (Entry V)
  entry_by slab p = option_map (entry p.id) (get slab p.key)

  abbrev pub entries_by : Slab V → List Place → List (Entry V)
  entries_by slab ps = filter_map (entry_by slab) ps

  -- the ids rise from above `floor` on and are below `next`; each key has a value, and no other place has that key
  abbrev pub InOrder : Slab V → ℕ → ℕ → List Place → Type 0
  InOrder slab floor next [] = floor < next
  InOrder slab floor next (p ∷ ps) =
      (floor < p.id) × ContainsKey slab p.key × AllByRecursion (λ (q : Place). q.key ≢ p.key) ps × InOrder slab p.id next ps

  -- the places and the slab belong together, and no value lies anywhere else
  pub record IsTable (slab : Slab V) (ps : List Place) (next : ℕ) : Type 0 where
    pub ordered : InOrder slab 0 next ps
    pub all : slab_len slab ≡ length ps
