-- Carry keeps line 0 visible, and repeats no handle.
use Rattle.ed_model.proofs.Names.{◌≡◌, ℕ, ◌+◌, ◌<◌, ◌≤◌, Bool, true, false, cond, List, [], ◌∷◌, ◌++◌, length, map, refl, ap, ◌∙◌, arith, ◌==◌, filter, flat_map, zip, range_with_len, map-append, eqb-true, eqb-false, ne_eqb, LineEndTypes, line_starts, line_of, Step, edited, moved_start, rows_on, carried, carried_by, carried_unless_empty, regrouped, Row, Marker, Flags, flags_together, rows_together, is_visible, Rise, occurrences, handles_in, line_of_monotone, occurrences_append}
use Rattle.ed_model.proofs.StepLemmas.{start_keeps_order}
use Rattle.ed_model.proofs.SoundLists.{rise_range, starts_rise}

-- Line 0 stays visible.

none_on_first : {R : Type 0} (moved : ℕ → ℕ) (rises : (p q : ℕ) → p ≤ q → moved p ≤ moved q) (low high : ℕ) (old new : List ℕ) (rows : List R)
    → Rise low high old → 0 < line_of new (moved low)
    → filter (λ (e : ℕ × R). line_of new (moved e.0) == 0) (zip old rows) ≡ []
none_on_first moved rises low high [] new rows r h = refl
none_on_first moved rises low high (x ∷ xs) new [] r h = refl
none_on_first {R} moved rises low high (x ∷ xs) new (row ∷ rows) r h =
    let a = line_of_monotone new (moved low) (moved x) (rises low x r.0) in
    let b = line_of_monotone new (moved low) (moved (x + 1)) (rises low (x + 1) (let g : low ≤ x = r.0 in omega arith)) in
    let rest = none_on_first moved rises (x + 1) high xs new rows r.2 (omega arith) in
    let no : (line_of new (moved x) == 0) ≡ false = ne_eqb (line_of new (moved x)) 0 (λ e. omega arith) in
    rw no rest

first_on_zero : (moved : ℕ → ℕ) (rises : (p q : ℕ) → p ≤ q → moved p ≤ moved q) (high : ℕ) (old new : List ℕ) (flags : List Flags)
    → Rise 0 high old → is_visible flags 0 ≡ true → (flags_together (rows_on moved old new flags 0)).visible ≡ true
first_on_zero moved rises high [] new flags r v = refl
first_on_zero moved rises high (x ∷ xs) new [] r v = refl
first_on_zero moved rises high (x ∷ xs) new (f ∷ fs) r v = go (line_of new (moved x) == 0) refl
  where
    go : (b : Bool) → (line_of new (moved x) == 0) ≡ b
        → (flags_together (map (λ (e : ℕ × Flags). e.1) (cond b ((x, f) ∷ filter (λ (e : ℕ × Flags). line_of new (moved e.0) == 0) (zip xs fs)) (filter (λ (e : ℕ × Flags). line_of new (moved e.0) == 0) (zip xs fs))))).visible ≡ true
    go true e = v
    go false e =
        let ne = eqb-false (line_of new (moved x)) 0 e in
        let up = line_of_monotone new (moved x) (moved (x + 1)) (rises x (x + 1) (omega arith)) in
        let none = none_on_first moved rises (x + 1) high xs new fs r.2 (let pos : 0 < line_of new (moved x) = omega (arith, ne) in omega arith) in
        rw none refl

pub first_carried : (moved : ℕ → ℕ) (rises : (p q : ℕ) → p ≤ q → moved p ≤ moved q) (high : ℕ) (old new : List ℕ) (flags : List Flags)
    → Rise 0 high old → is_visible flags 0 ≡ true → is_visible (carried flags_together moved old new flags) 0 ≡ true
first_carried moved rises high old [] flags r v = refl
first_carried moved rises high old (n ∷ ns) flags r v = first_on_zero moved rises high old (n ∷ ns) flags r v

first_unless_empty : (types : LineEndTypes) (step : Step) (text new : List ℕ) (flags : List Flags) → is_visible flags 0 ≡ true
    → is_visible (carried_unless_empty flags_together types step text new flags) 0 ≡ true
first_unless_empty types step text [] flags v = refl
first_unless_empty types step text (b ∷ bs) flags v =
    first_carried (moved_start step) (start_keeps_order step) (length text + 1) (line_starts types text) (line_starts types (b ∷ bs)) flags
    (starts_rise types text) v

-- line 0 is visible after a step
pub first_carried_by : (types : LineEndTypes) (step : Step) (text : List ℕ) (flags : List Flags) → is_visible flags 0 ≡ true
    → is_visible (carried_by flags_together types step text flags) 0 ≡ true
first_carried_by types step text flags v = first_unless_empty types step text (edited step text) flags v

-- line 0 is visible after lines are regrouped
pub first_regrouped : (old new : LineEndTypes) (text : List ℕ) (flags : List Flags) → is_visible flags 0 ≡ true
    → is_visible (regrouped flags_together old new text flags) 0 ≡ true
first_regrouped old new text flags v =
    first_carried (λ start. start) (λ p q h. h) (length text + 1) (line_starts old text) (line_starts new text) flags (starts_rise old text) v

-- Handles.

abbrev pub handles_of : Row → List ℕ
handles_of row = map (λ (m : Marker). m.handle) row.markers

-- the handles of rows that meet are the handles of all of them
map_flat : (rows : List Row) → map (λ (m : Marker). m.handle) (flat_map (λ (r : Row). r.markers) rows) ≡ handles_in rows
map_flat [] = refl
map_flat (row ∷ rows) = map-append (λ (m : Marker). m.handle) row.markers (flat_map (λ (r : Row). r.markers) rows) ∙ ap (λ t. handles_of row ++ t) (map_flat rows)

handles_together : (rows : List Row) → handles_of (rows_together rows) ≡ handles_in rows
handles_together [] = refl
handles_together (row ∷ rows) = map_flat (row ∷ rows)

-- the rows with the key k
abbrev selected : (ℕ → ℕ) → List (ℕ × Row) → ℕ → List Row
selected key entries k = map (λ (e : ℕ × Row). e.1) (filter (λ (e : ℕ × Row). key e.0 == k) entries)

-- how often the handle is in the rows selected for these keys
abbrev total : ℕ → (ℕ → ℕ) → List (ℕ × Row) → List ℕ → ℕ
total h key entries [] = 0
total h key entries (k ∷ ks) = occurrences h (handles_in (selected key entries k)) + total h key entries ks

not_selected : (h : ℕ) (key : ℕ → ℕ) (x : ℕ) (row : Row) (entries : List (ℕ × Row)) (low high : ℕ) (ks : List ℕ) → Rise low high ks → key x < low
    → total h key ((x, row) ∷ entries) ks ≡ total h key entries ks
not_selected h key x row entries low high [] r l = refl
not_selected h key x row entries low high (k ∷ ks) r l =
    let ge : low ≤ k = r.0 in
    let no : (key x == k) ≡ false = ne_eqb (key x) k (λ e. omega arith) in
    let rest = not_selected h key x row entries (k + 1) high ks r.2 (omega arith) in
    rw (no, rest) refl

at_most_once : (h : ℕ) (key : ℕ → ℕ) (x : ℕ) (row : Row) (entries : List (ℕ × Row)) (low high : ℕ) (ks : List ℕ) → Rise low high ks
    → total h key ((x, row) ∷ entries) ks ≤ occurrences h (handles_of row) + total h key entries ks
at_most_once h key x row entries low high [] r = omega arith
at_most_once h key x row entries low high (k ∷ ks) r = go (key x == k) refl (at_most_once h key x row entries (k + 1) high ks r.2)
  where
    go : (b : Bool) → (key x == k) ≡ b
        → total h key ((x, row) ∷ entries) ks ≤ occurrences h (handles_of row) + total h key entries ks
        → occurrences h (handles_in (map (λ (e : ℕ × Row). e.1) (cond b ((x, row) ∷ filter (λ (e : ℕ × Row). key e.0 == k) entries) (filter (λ (e : ℕ × Row). key e.0 == k) entries)))) + total h key ((x, row) ∷ entries) ks
        ≤ occurrences h (handles_of row) + (occurrences h (handles_in (selected key entries k)) + total h key entries ks)
    go true e le =
        let is = eqb-true (key x) k e in
        let rest = not_selected h key x row entries (k + 1) high ks r.2 (omega arith) in
        let both = occurrences_append h (handles_of row) (handles_in (selected key entries k)) in
        omega arith
    go false e le = omega arith

total_at_most : (h : ℕ) (key : ℕ → ℕ) (entries : List (ℕ × Row)) (low high : ℕ) (ks : List ℕ) → Rise low high ks
    → total h key entries ks ≤ occurrences h (handles_in (map (λ (e : ℕ × Row). e.1) entries))
total_at_most h key [] low high ks r = none ks
  where
    none : (ks : List ℕ) → total h key [] ks ≤ 0
    none [] = omega arith
    none (k ∷ ks) = let rest = none ks in omega arith
total_at_most h key ((x, row) ∷ entries) low high ks r =
    let one = at_most_once h key x row entries low high ks r in
    let rest = total_at_most h key entries low high ks r in
    let both = occurrences_append h (handles_of row) (handles_in (map (λ (e : ℕ × Row). e.1) entries)) in
    omega arith

handles_selected : (h : ℕ) (moved : ℕ → ℕ) (old new : List ℕ) (rows : List Row) (ks : List ℕ)
    → occurrences h (handles_in (map (λ line. rows_together (rows_on moved old new rows line)) ks)) ≡ total h (λ x. line_of new (moved x)) (zip old rows) ks
handles_selected h moved old new rows [] = refl
handles_selected h moved old new rows (k ∷ ks) =
    let rest = handles_selected h moved old new rows ks in
    let together = handles_together (rows_on moved old new rows k) in
    let both = occurrences_append h (handles_of (rows_together (rows_on moved old new rows k))) (handles_in (map (λ line. rows_together (rows_on moved old new rows line)) ks)) in
    let same = ap (occurrences h) together in
    omega arith

zipped_at_most : (h : ℕ) (old : List ℕ) (rows : List Row) → occurrences h (handles_in (map (λ (e : ℕ × Row). e.1) (zip old rows))) ≤ occurrences h (handles_in rows)
zipped_at_most h [] rows = omega arith
zipped_at_most h (x ∷ xs) [] = omega arith
zipped_at_most h (x ∷ xs) (row ∷ rows) =
    let rest = zipped_at_most h xs rows in
    let a = occurrences_append h (handles_of row) (handles_in (map (λ (e : ℕ × Row). e.1) (zip xs rows))) in
    let b = occurrences_append h (handles_of row) (handles_in rows) in
    omega arith

-- no handle is in the rows more often after they are carried
pub handles_carried : (h : ℕ) (moved : ℕ → ℕ) (old new : List ℕ) (rows : List Row)
    → occurrences h (handles_in (carried rows_together moved old new rows)) ≤ occurrences h (handles_in rows)
handles_carried h moved old new rows =
    let a = handles_selected h moved old new rows (range_with_len 0 (length new)) in
    let b = total_at_most h (λ x. line_of new (moved x)) (zip old rows) 0 (0 + length new) (range_with_len 0 (length new)) (rise_range 0 (length new)) in
    let c = zipped_at_most h old rows in
    omega arith

handles_unless_empty : (h : ℕ) (types : LineEndTypes) (step : Step) (text new : List ℕ) (rows : List Row)
    → occurrences h (handles_in (carried_unless_empty rows_together types step text new rows)) ≤ occurrences h (handles_in rows)
handles_unless_empty h types step text [] rows = omega arith
handles_unless_empty h types step text (b ∷ bs) rows = handles_carried h (moved_start step) (line_starts types text) (line_starts types (b ∷ bs)) rows

pub handles_carried_by : (h : ℕ) (types : LineEndTypes) (step : Step) (text : List ℕ) (rows : List Row)
    → occurrences h (handles_in (carried_by rows_together types step text rows)) ≤ occurrences h (handles_in rows)
handles_carried_by h types step text rows = handles_unless_empty h types step text (edited step text) rows
