-- How often handles are in the rows after a change.
use Rattle.ed_model.proofs.Names.{◌≡◌, ℕ, zero, suc, ◌+◌, ◌<◌, ◌≤◌, Bool, true, false, cond, List, [], ◌∷◌, length, map, get_or, set, refl, arith, ◌==◌, filter, Option, Some, None, not, slice_index_or, length-set, eqb-true, ne_eqb, Row, Marker, fresh_row, with_markers, new_markers, without_first, without_marker, without_markers, occurrences, handles_in, occurrences_append}
use Rattle.ed_model.proofs.SoundCarry.{handles_of}

abbrev pub one_if : Bool → ℕ
one_if true = 1
one_if false = 0

pub occurrences_cons : (n m : ℕ) (ms : List ℕ) → occurrences n (m ∷ ms) ≡ one_if (m == n) + occurrences n ms
occurrences_cons n m ms = go (m == n)
  where
    go : (b : Bool) → length (cond b (m ∷ filter (λ m. m == n) ms) (filter (λ m. m == n) ms)) ≡ one_if b + occurrences n ms
    go true = omega arith
    go false = omega arith

-- one row replaced by another
pub set_occurrences : (h : ℕ) (rows : List Row) (line : ℕ) (new : Row)
    → occurrences h (handles_in (set rows line new)) + occurrences h (handles_of (get_or rows line fresh_row)) ≤ occurrences h (handles_in rows) + occurrences h (handles_of new)
set_occurrences h [] line new = omega arith
set_occurrences h (row ∷ rows) zero new =
    let a = occurrences_append h (handles_of row) (handles_in rows) in
    let b = occurrences_append h (handles_of new) (handles_in rows) in
    omega arith
set_occurrences h (row ∷ rows) (suc line) new =
    let rest = set_occurrences h rows line new in
    let a = occurrences_append h (handles_of row) (handles_in rows) in
    let b = occurrences_append h (handles_of row) (handles_in (set rows line new)) in
    omega arith

-- the markers of a row replaced by others
pub with_markers_occurrences : (h line : ℕ) (markers : List Marker) (rows : List Row)
    → occurrences h (handles_in (with_markers line markers rows)) + occurrences h (map (λ (m : Marker). m.handle) (slice_index_or rows line fresh_row).markers)
    ≤ occurrences h (handles_in rows) + occurrences h (map (λ (m : Marker). m.handle) markers)
with_markers_occurrences h line markers rows = let row = slice_index_or rows line fresh_row in set_occurrences h rows line (record row { markers = markers })

pub length_with_markers : (line : ℕ) (markers : List Marker) (rows : List Row) → length (with_markers line markers rows) ≡ length rows
length_with_markers line markers rows = let row = slice_index_or rows line fresh_row in length-set rows line (record row { markers = markers })

-- New markers.

pub new_below : (h handle : ℕ) (ns : List ℕ) → h < handle → occurrences h (map (λ (m : Marker). m.handle) (new_markers handle ns)) ≡ 0
new_below h handle [] l = refl
new_below h handle (n ∷ ns) l =
    let no : (handle == h) ≡ false = ne_eqb handle h (λ e. omega arith) in
    rw no (new_below h (handle + 1) ns (omega arith))

pub new_above : (h handle : ℕ) (ns : List ℕ) → handle + length ns ≤ h → occurrences h (map (λ (m : Marker). m.handle) (new_markers handle ns)) ≡ 0
new_above h handle [] l = refl
new_above h handle (n ∷ ns) l =
    let no : (handle == h) ≡ false = ne_eqb handle h (λ e. omega arith) in
    rw no (new_above h (handle + 1) ns (omega arith))

pub new_once : (h handle : ℕ) (ns : List ℕ) → occurrences h (map (λ (m : Marker). m.handle) (new_markers handle ns)) ≤ 1
new_once h handle [] = omega arith
new_once h handle (n ∷ ns) = go (handle == h) refl (new_once h (handle + 1) ns)
  where
    go : (b : Bool) → (handle == h) ≡ b → occurrences h (map (λ (m : Marker). m.handle) (new_markers (handle + 1) ns)) ≤ 1
        → length (cond b (handle ∷ filter (λ m. m == h) (map (λ (m : Marker). m.handle) (new_markers (handle + 1) ns))) (filter (λ m. m == h) (map (λ (m : Marker). m.handle) (new_markers (handle + 1) ns)))) ≤ 1
    go true t le = let is = eqb-true handle h t in let none = new_below h (handle + 1) ns (omega arith) in omega arith
    go false t le = le

-- Markers removed.

pub without_first_occurrences : (h number : ℕ) (ms : List Marker) → occurrences h (map (λ (m : Marker). m.handle) (without_first number ms)) ≤ occurrences h (map (λ (m : Marker). m.handle) ms)
without_first_occurrences h number [] = omega arith
without_first_occurrences h number (m ∷ ms) = go (m.number == number) (without_first_occurrences h number ms)
  where
    go : (b : Bool) → occurrences h (map (λ (m : Marker). m.handle) (without_first number ms)) ≤ occurrences h (map (λ (m : Marker). m.handle) ms)
        → occurrences h (map (λ (m : Marker). m.handle) (cond b ms (m ∷ without_first number ms))) ≤ occurrences h (map (λ (m : Marker). m.handle) (m ∷ ms))
    go true le = let a = occurrences_cons h m.handle (map (λ (m : Marker). m.handle) ms) in omega arith
    go false le =
        let a = occurrences_cons h m.handle (map (λ (m : Marker). m.handle) ms) in
        let b = occurrences_cons h m.handle (map (λ (m : Marker). m.handle) (without_first number ms)) in
        omega arith

pub without_marker_occurrences : (h : ℕ) (number : Option ℕ) (ms : List Marker) → occurrences h (map (λ (m : Marker). m.handle) (without_marker number ms)) ≤ occurrences h (map (λ (m : Marker). m.handle) ms)
without_marker_occurrences h None ms = omega arith
without_marker_occurrences h (Some number) ms = without_first_occurrences h number ms

filtered_occurrences : (h : ℕ) (p : Marker → Bool) (ms : List Marker) → occurrences h (map (λ (m : Marker). m.handle) (filter p ms)) ≤ occurrences h (map (λ (m : Marker). m.handle) ms)
filtered_occurrences h p [] = omega arith
filtered_occurrences h p (m ∷ ms) = go (p m) (filtered_occurrences h p ms)
  where
    go : (b : Bool) → occurrences h (map (λ (m : Marker). m.handle) (filter p ms)) ≤ occurrences h (map (λ (m : Marker). m.handle) ms)
        → occurrences h (map (λ (m : Marker). m.handle) (cond b (m ∷ filter p ms) (filter p ms))) ≤ occurrences h (map (λ (m : Marker). m.handle) (m ∷ ms))
    go true le =
        let a = occurrences_cons h m.handle (map (λ (m : Marker). m.handle) ms) in
        let b = occurrences_cons h m.handle (map (λ (m : Marker). m.handle) (filter p ms)) in
        omega arith
    go false le = let a = occurrences_cons h m.handle (map (λ (m : Marker). m.handle) ms) in omega arith

pub without_markers_occurrences : (h : ℕ) (drops : Marker → Bool) (rows : List Row) → occurrences h (handles_in (without_markers drops rows)) ≤ occurrences h (handles_in rows)
without_markers_occurrences h drops [] = omega arith
without_markers_occurrences h drops (row ∷ rows) =
    let rest = without_markers_occurrences h drops rows in
    let here = filtered_occurrences h (λ m. not (drops m)) row.markers in
    let a = occurrences_append h (handles_of row) (handles_in rows) in
    let b = occurrences_append h (map (λ (m : Marker). m.handle) (filter (λ m. not (drops m)) row.markers)) (handles_in (without_markers drops rows)) in
    omega arith
