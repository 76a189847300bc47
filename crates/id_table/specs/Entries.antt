-- What a contract sees of an `IdTable`.
use Rattle.std.specs.Prelude.{ℕ, ◌+◌, ◌<◌, ◌≤◌, ◌==◌, if◌then◌else◌, not, max, List, [], ◌∷◌, length, map, filter, find, Option, option_map, refl}
use Rattle.std.specs.Coded.{Coded, code_by, coded×, coded_list, coded_ℕ}

-- a value and its id
pub record Entry (V : Type 0) : Type 0 where
  pub id : ℕ
  pub value : V

-- how many values, and how many ids, fit with no allocation
pub record TableCapacity : Type 0 where
  pub values : ℕ
  pub ids : ℕ

-- the values in the order of their ids, the id of the next one, and how many of them fit
pub record Entries (V : Type 0) : Type 0 where
  pub entries : List (Entry V)
  pub next : ℕ
  pub capacity : TableCapacity

abbrev pub table_capacity : ℕ → ℕ → TableCapacity
table_capacity values ids = record { values = values; ids = ids }

-- no capacity is given back
abbrev pub KeepsCapacity : TableCapacity → TableCapacity → Type 0
KeepsCapacity old new = (old.values ≤ new.values) × (old.ids ≤ new.ids)

-- numbers that rise strictly, from at least `low` on and below `high`
abbrev pub Rise : ℕ → ℕ → List ℕ → Type 0
Rise low high [] = Unit {0}
Rise low high (x ∷ xs) = (low ≤ x) × (x < high) × Rise (x + 1) high xs

module _ {V : Type 0} where
  abbrev pub entry : ℕ → V → Entry V
  entry id value = record { id = id; value = value }

  abbrev pub table_of : List (Entry V) → ℕ → TableCapacity → Entries V
  table_of entries next capacity = record { entries = entries; next = next; capacity = capacity }

  -- an empty table, in which nothing fits
  abbrev pub empty_table : Entries V
  empty_table = table_of [] 1 (table_capacity 0 0)

  -- so many more values fit with no allocation
  abbrev pub HasRoom : ℕ → Entries V → Type 0
  HasRoom count t = (length t.entries + count ≤ t.capacity.values) × (length t.entries + count ≤ t.capacity.ids)

  -- the most ids that fit after `reserve` was called for so many more values; how many values fit is up to the slab
  abbrev pub most_ids : ℕ → Entries V → ℕ
  most_ids count t = max t.capacity.ids (length t.entries + max count (length t.entries))

  abbrev pub entry_code : Coded V → Coded (Entry V)
  entry_code c = code_by (ℕ × V) (coded× coded_ℕ c) (λ e. (e.id, e.value)) (λ p. entry p.0 p.1) (λ _. refl)

  abbrev pub entries_code : Coded V → Coded (Entries V)
  entries_code c =
      code_by
      (List (Entry V) × (ℕ × (ℕ × ℕ)))
      (coded× (coded_list (entry_code c)) (coded× coded_ℕ (coded× coded_ℕ coded_ℕ)))
      (λ t. (t.entries, (t.next, (t.capacity.values, t.capacity.ids))))
      (λ p. table_of p.0 p.1.0 (table_capacity p.1.1.0 p.1.1.1))
      (λ _. refl)

  abbrev pub id_of : Entry V → ℕ
  id_of e = e.id

  abbrev pub value_of : Entry V → V
  value_of e = e.value

  -- the value of an id
  abbrev pub value_at : List (Entry V) → ℕ → Option V
  value_at entries id = option_map value_of (find (λ (e : Entry V). e.id == id) entries)

  abbrev pub in_place_at : ℕ → V → Entry V → Entry V
  in_place_at id value e = if e.id == id then entry id value else e

  -- the entries, with the value of the id replaced by this one
  abbrev pub with_value_at : ℕ → V → List (Entry V) → List (Entry V)
  with_value_at id value entries = map (in_place_at id value) entries

  -- the entries without that of the id
  abbrev pub without_id : ℕ → List (Entry V) → List (Entry V)
  without_id id entries = filter (λ (e : Entry V). not (e.id == id)) entries
