-- The documents that are left after one has lost a reference.
use Rattle.std.specs.Prelude.{◌≡◌, ◌≢◌, ◌<◌, ℕ, ◌-◌, nat_lt, if◌then◌else◌, List, map, Option, Some, None, option_map, IfSome, IsSomeAnd}
use Rattle.std.specs.List.{AllByRecursion}
use Rattle.ed_model.specs.Session.{Document, references, living}
use Rattle.document.specs.Kept.{Kept}
use Rattle.id_table.specs.Entries.{Entry, Rise, entry, id_of, value_of, value_at, with_value_at, without_id}

-- the documents and their ids, without what is stored of them, and without their capacities
abbrev pub document_in : Entry Kept → Entry Document
document_in e = entry e.id e.value.document

abbrev pub documents_in : List (Entry Kept) → List (Entry Document)
documents_in entries = map document_in entries

-- the document after a caller released its reference
abbrev pub released : Document → Document
released d = record d { held_by_callers = d.held_by_callers - 1 }

-- the documents with this one at the id, or with none there if nothing refers to it
abbrev pub left_over : ℕ → Document → List (Entry Document) → List (Entry Document)
left_over id d entries = if nat_lt 0 (references d) then with_value_at id d entries else without_id id entries

abbrev pub left_over_of : ℕ → List (Entry Document) → Option Document → List (Entry Document)
left_over_of id entries None = entries
left_over_of id entries (Some d) = left_over id d entries

-- the document at an id is changed, and dropped if nothing refers to it any more
abbrev pub let_go : ℕ → (Document → Document) → List (Entry Document) → List (Entry Document)
let_go id change entries = left_over_of id entries (option_map change (value_at entries id))

-- if the document at an id still exists, as much of it is stored as before, and as much fits in
abbrev pub KeepsRest : ℕ → List (Entry Kept) → List (Entry Kept) → Type 0
KeepsRest id old new = IfSome (value_at new id) (λ left. IsSomeAnd (value_at old id) (λ was. left ≡ record was { document = left.document }))

-- The model changes every document, and keeps those with a reference.

-- the model's change of the entry's document is that of the one at the id, and no change if the entry has another id
abbrev pub IsChangedAlike : ℕ → (Document → Document) → (Document → Document) → Entry Document → Type 0
IsChangedAlike id change each e = (e.id ≡ id → each e.value ≡ change e.value) × (e.id ≢ id → each e.value ≡ e.value)

-- if the ids rise, something refers to each document, and the model's change of each is that of the one at the id, then
-- the documents that are left are those with a reference
abbrev pub LeavesTheLiving : Type 0
LeavesTheLiving =
    (id low next : ℕ) (change each : Document → Document) (entries : List (Entry Document)) → Rise low next (map id_of entries)
    → AllByRecursion (λ (e : Entry Document). 0 < references e.value) entries → AllByRecursion (IsChangedAlike id change each) entries
    → map value_of (let_go id change entries) ≡ living (map each (map value_of entries))
