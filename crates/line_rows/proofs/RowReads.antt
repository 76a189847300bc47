-- Reads and changes of rows, part by part.
use Rattle.std.proofs.lemmas.Bool.{cases_lt}
use Rattle.split_vector.specs.Split.{most_held}
use Rattle.marker_store.specs.Lines.{HasRoom}
use Rattle.line_rows.specs.Values.{wanted_if}
use Rattle.line_rows.proofs.Names.{inl, inr, ◌≤◌, length-append, length-set, sum_by-set, AreParts, HasRoomForMarkers, MarkedLines, Valued, kept_in, with_level, with_state, with_marker, with_value, with_marker_on, without_marker_on, store_without, ◌≡◌, ◌≢◌, ◌↔◌, IsTrue, min, max, reverse, ◌<◌, ◌+◌, ◌-◌, ℕ, zero, suc, ℤ, pos, Bool, not, cond, List, [], ◌∷◌, ◌++◌, length, filter, get_or, set, Option, Some, refl, sym, ap, ◌∙◌, arith, range_with_len, find, set-get_or, get_or_read, sum_by-cons, Marker, Row, base_level, with_markers, without_markers, new_markers, without_marker, marker_count, markers_of, marker_total, without, KeptRows, row_at, levels_of, rows_of}

abbrev pub row : List Marker → ℕ → ℤ → Row
row m l s = record { markers = m; level = l; state = s }

pub rows_length : (ms : List (List Marker)) (ls : List ℕ) (ss : List ℤ) → length ms ≡ length ls → length ms ≡ length ss → length (rows_of ms ls ss) ≡ length ms
rows_length [] ls ss e f = refl
rows_length (m ∷ ms) [] ss e f = absurd (omega arith)
rows_length (m ∷ ms) (l ∷ ls) [] e f = absurd (omega arith)
rows_length (m ∷ ms) (l ∷ ls) (s ∷ ss) e f = ap suc (rows_length ms ls ss (omega arith) (omega arith))

pub rows_at : (ms : List (List Marker)) (ls : List ℕ) (ss : List ℤ) (k : ℕ) → length ms ≡ length ls → length ms ≡ length ss → row_at (rows_of ms ls ss) k ≡ row (markers_of k ms) (get_or ls k base_level) (get_or ss k (pos 0))
rows_at [] [] [] k e f = refl
rows_at [] [] (s ∷ ss) k e f = absurd (omega arith)
rows_at [] (l ∷ ls) ss k e f = absurd (omega arith)
rows_at (m ∷ ms) [] ss k e f = absurd (omega arith)
rows_at (m ∷ ms) (l ∷ ls) [] k e f = absurd (omega arith)
rows_at (m ∷ ms) (l ∷ ls) (s ∷ ss) zero e f = refl
rows_at (m ∷ ms) (l ∷ ls) (s ∷ ss) (suc k) e f = rows_at ms ls ss k (omega arith) (omega arith)

rows_set : (ms : List (List Marker)) (ls : List ℕ) (ss : List ℤ) (k : ℕ) (m : List Marker) (l : ℕ) (s : ℤ) → length ms ≡ length ls → length ms ≡ length ss → rows_of (set ms k m) (set ls k l) (set ss k s) ≡ set (rows_of ms ls ss) k (row m l s)
rows_set [] ls ss k m l s e f = refl
rows_set (m' ∷ ms) [] ss k m l s e f = absurd (omega arith)
rows_set (m' ∷ ms) (l' ∷ ls) [] k m l s e f = absurd (omega arith)
rows_set (m' ∷ ms) (l' ∷ ls) (s' ∷ ss) zero m l s e f = refl
rows_set (m' ∷ ms) (l' ∷ ls) (s' ∷ ss) (suc k) m l s e f = ap (λ rows. row m' l' s' ∷ rows) (rows_set ms ls ss k m l s (omega arith) (omega arith))

pub level_set : (ms : List (List Marker)) (ls : List ℕ) (ss : List ℤ) (k l : ℕ) → length ms ≡ length ls → length ms ≡ length ss → rows_of ms (set ls k l) ss ≡ set (rows_of ms ls ss) k (record (row_at (rows_of ms ls ss) k) { level = l })
level_set ms ls ss k l e f =
    ap (λ m. rows_of m (set ls k l) ss) (sym (set-get_or ms k [])) ∙ ap (rows_of (set ms k (markers_of k ms)) (set ls k l)) (sym (set-get_or ss k (pos 0)))
    ∙ rows_set ms ls ss k (markers_of k ms) l (get_or ss k (pos 0)) e f
    ∙ ap (λ (r : Row). set (rows_of ms ls ss) k (record r { level = l })) (sym (rows_at ms ls ss k e f))

pub state_set : (ms : List (List Marker)) (ls : List ℕ) (ss : List ℤ) (k : ℕ) (s : ℤ) → length ms ≡ length ls → length ms ≡ length ss → rows_of ms ls (set ss k s) ≡ set (rows_of ms ls ss) k (record (row_at (rows_of ms ls ss) k) { state = s })
state_set ms ls ss k s e f =
    ap (λ m. rows_of m ls (set ss k s)) (sym (set-get_or ms k [])) ∙ ap (λ l. rows_of (set ms k (markers_of k ms)) l (set ss k s)) (sym (set-get_or ls k base_level))
    ∙ rows_set ms ls ss k (markers_of k ms) (get_or ls k base_level) s e f
    ∙ ap (λ (r : Row). set (rows_of ms ls ss) k (record r { state = s })) (sym (rows_at ms ls ss k e f))

pub markers_set : (ms : List (List Marker)) (ls : List ℕ) (ss : List ℤ) (k : ℕ) (m : List Marker) → length ms ≡ length ls → length ms ≡ length ss → rows_of (set ms k m) ls ss ≡ with_markers k m (rows_of ms ls ss)
markers_set ms ls ss k m e f =
    ap (λ l. rows_of (set ms k m) l ss) (sym (set-get_or ls k base_level)) ∙ ap (rows_of (set ms k m) (set ls k (get_or ls k base_level))) (sym (set-get_or ss k (pos 0)))
    ∙ rows_set ms ls ss k m (get_or ls k base_level) (get_or ss k (pos 0)) e f
    ∙ ap (λ (r : Row). set (rows_of ms ls ss) k (record r { markers = m })) (sym (rows_at ms ls ss k e f))

pub markers_at : (ms : List (List Marker)) (ls : List ℕ) (ss : List ℤ) (k : ℕ) → length ms ≡ length ls → length ms ≡ length ss → markers_of k ms ≡ (row_at (rows_of ms ls ss) k).markers
markers_at ms ls ss k e f = ap (λ (r : Row). r.markers) (sym (rows_at ms ls ss k e f))

pub rows_without : (drops : Marker → Bool) (ms : List (List Marker)) (ls : List ℕ) (ss : List ℤ) → rows_of (without drops ms) ls ss ≡ without_markers drops (rows_of ms ls ss)
rows_without drops [] ls ss = refl
rows_without drops (m ∷ ms) [] ss = refl
rows_without drops (m ∷ ms) (l ∷ ls) [] = refl
rows_without drops (m ∷ ms) (l ∷ ls) (s ∷ ss) = ap (λ rows. row (filter (λ x. not (drops x)) m) l s ∷ rows) (rows_without drops ms ls ss)

pub rows_levels : (ms : List (List Marker)) (ls : List ℕ) (ss : List ℤ) → length ms ≡ length ls → length ms ≡ length ss → ls ≡ levels_of (rows_of ms ls ss)
rows_levels [] [] ss e f = refl
rows_levels [] (l ∷ ls) ss e f = absurd (omega arith)
rows_levels (m ∷ ms) [] ss e f = absurd (omega arith)
rows_levels (m ∷ ms) (l ∷ ls) [] e f = absurd (omega arith)
rows_levels (m ∷ ms) (l ∷ ls) (s ∷ ss) e f = ap (λ rest. l ∷ rest) (rows_levels ms ls ss (omega arith) (omega arith))

pub find_same : (p q : ℕ → Bool) → ((k : ℕ) → p k ≡ q k) → (ks : List ℕ) → find p ks ≡ find q ks
find_same p q e [] = refl
find_same p q e (k ∷ ks) = rw (e k) (ap (λ rest. cond (q k) (Some k) rest) (find_same p q e ks))

-- how many markers there are
pub rows_count : (ms : List (List Marker)) (ls : List ℕ) (ss : List ℤ) → length ms ≡ length ls → length ms ≡ length ss → marker_total ms ≡ marker_count (rows_of ms ls ss)
rows_count [] ls ss e f = refl
rows_count (m ∷ ms) [] ss e f = absurd (omega arith)
rows_count (m ∷ ms) (l ∷ ls) [] e f = absurd (omega arith)
rows_count (m ∷ ms) (l ∷ ls) (s ∷ ss) e f =
    sum_by-cons length m ms ∙ ap (λ n. length m + n) (rows_count ms ls ss (omega arith) (omega arith)) ∙ sym (sum_by-cons (λ (r : Row). length r.markers) (row m l s) (rows_of ms ls ss))

-- one more marker behind those of a line
pub one_more : (lines : List (List Marker)) (k : ℕ) (m : Marker) → k < length lines → marker_total (set lines k (markers_of k lines ++ m ∷ [])) ≡ marker_total lines + 1
one_more lines k m inside =
    omega (arith, sum_by-set length lines k (markers_of k lines ++ m ∷ []) [] inside, length-append (markers_of k lines) (m ∷ []))

-- Of the parts of a `LineRows`.
module _ (markers : MarkedLines) (levels : Valued ℕ) (states : Valued ℤ) (parts : AreParts markers levels states) where
  -- other markers stand on as many lines
  pub same_parts : (new : MarkedLines) → length new.lines ≡ length markers.lines → AreParts new levels states
  same_parts new long = record { levelled = long ∙ parts.levelled; stated = long ∙ parts.stated; base = parts.base; zero_state = parts.zero_state }

  module _ (r : KeptRows) (view : kept_in markers levels states ≡ r) where
    pub parts_length : length markers.lines ≡ length r.rows
    parts_length = sym (rows_length markers.lines levels.values states.values parts.levelled parts.stated) ∙ ap (λ (v : KeptRows). length v.rows) view

    -- memory for the markers of more lines, which grew only if it had to
    pub line_memory : (new : MarkedLines) (count : ℕ) → (HasRoom 0 count markers → new ≡ markers) → marker_total markers.lines ≤ markers.capacity → new.line_capacity ≤ most_held markers.line_capacity (length markers.lines + count) →
        new.line_capacity ≤ most_held r.capacity.marker_lines (wanted_if r.capacity.markers (length r.rows + count))
    line_memory new count there fits most =
        rw (← ap (λ (v : KeptRows). v.capacity.marker_lines) view, ← ap (λ (v : KeptRows). v.capacity.markers) view, ← parts_length) (
        elim (cases_lt 0 markers.capacity) [
          | inl some ↦ grind arith
          | inr none ↦ rw (ap (λ (m : MarkedLines). m.line_capacity) (there (omega arith, λ some. absurd (omega arith)))) (grind arith)
        ])

    pub parts_count : marker_total markers.lines ≡ marker_count r.rows
    parts_count = rows_count markers.lines levels.values states.values parts.levelled parts.stated ∙ ap (λ (v : KeptRows). marker_count v.rows) view

    -- whether a marker went
    pub some_went : (went : Bool) (lines : List (List Marker)) → length lines ≡ length markers.lines → (IsTrue went ↔ (marker_total lines ≢ marker_total markers.lines)) → (IsTrue went ↔ (marker_count (rows_of lines levels.values states.values) ≢ marker_count r.rows))
    some_went went lines long h =
        let after = rows_count lines levels.values states.values (long ∙ parts.levelled) (long ∙ parts.stated) in
        (λ t k. h.0 t (after ∙ k ∙ sym parts_count), λ apart. h.1 (λ k. apart (sym after ∙ k ∙ parts_count)))

    pub parts_levels : levels.values ≡ levels_of r.rows
    parts_levels = rows_levels markers.lines levels.values states.values parts.levelled parts.stated ∙ ap (λ (v : KeptRows). levels_of v.rows) view

    pub parts_level : (k x : ℕ) → k < length levels.values → x ≡ get_or levels.values k x → x ≡ (row_at r.rows k).level
    parts_level k x inside read =
        get_or_read levels.values k x inside read base_level ∙ ap (λ (w : Row). w.level) (sym (rows_at markers.lines levels.values states.values k parts.levelled parts.stated))
        ∙ ap (λ (v : KeptRows). (row_at v.rows k).level) view

    pub parts_state : (k : ℕ) (x : ℤ) → k < length states.values → x ≡ get_or states.values k x → x ≡ (row_at r.rows k).state
    parts_state k x inside read =
        get_or_read states.values k x inside read (pos 0) ∙ ap (λ (w : Row). w.state) (sym (rows_at markers.lines levels.values states.values k parts.levelled parts.stated))
        ∙ ap (λ (v : KeptRows). (row_at v.rows k).state) view

    pub parts_markers : (k : ℕ) → markers_of k markers.lines ≡ (row_at r.rows k).markers
    parts_markers k = markers_at markers.lines levels.values states.values k parts.levelled parts.stated ∙ ap (λ (v : KeptRows). (row_at v.rows k).markers) view

    pub level_changed : (k l : ℕ) → kept_in markers (with_value levels k l) states ≡ with_level r k l
    level_changed k l =
        ap (λ rows. record (kept_in markers levels states) { rows = rows; stored_levels = max levels.stored (k + 1) }) (level_set markers.lines levels.values states.values k l parts.levelled parts.stated)
        ∙ ap (λ v. with_level v k l) view

    pub state_changed : (k : ℕ) (s : ℤ) → kept_in markers levels (with_value states k s) ≡ with_state r k s
    state_changed k s =
        ap (λ rows. record (kept_in markers levels states) { rows = rows; stored_states = max states.stored (k + 1) }) (state_set markers.lines levels.values states.values k s parts.levelled parts.stated)
        ∙ ap (λ v. with_state v k s) view

    pub marker_added : (k n : ℕ) → kept_in (record markers { lines = with_marker_on k n markers; next_handle = markers.next_handle + 1 }) levels states ≡ with_marker r k n
    marker_added k n =
        let new = new_markers markers.next_handle (n ∷ []) in
        ap (λ rows. record (kept_in markers levels states) { rows = rows; next_handle = markers.next_handle + 1 })
        (markers_set markers.lines levels.values states.values k (markers_of k markers.lines ++ new) parts.levelled parts.stated
        ∙ ap (λ mk. with_markers k (mk ++ new) (rows_of markers.lines levels.values states.values)) (markers_at markers.lines levels.values states.values k parts.levelled parts.stated))
        ∙ ap (λ v. with_marker v k n) view

    -- there is room for more markers behind it, if there was for it and these
    pub room_left : (k n more : ℕ) → k < length markers.lines → HasRoomForMarkers (1 + more) r → HasRoomForMarkers more (with_marker r k n)
    room_left k n more inside h =
        let new = with_marker_on k n markers in
        let long = length-set {A = List Marker} markers.lines k (markers_of k markers.lines ++ new_markers markers.next_handle (n ∷ [])) in
        let count = rows_count new levels.values states.values (long ∙ parts.levelled) (long ∙ parts.stated) ∙ ap (λ (v : KeptRows). marker_count v.rows) (marker_added k n) in
        omega (arith, h, parts_count, count, one_more markers.lines k (record { handle = markers.next_handle; number = n }) inside)

    pub marker_deleted : (k : ℕ) (number : Option ℕ) → kept_in (record markers { lines = store_without k number markers.lines }) levels states ≡ record r { rows = without_marker_on k number r.rows }
    marker_deleted k number =
        ap (λ rows. record (kept_in markers levels states) { rows = rows })
        (markers_set markers.lines levels.values states.values k (without_marker number (markers_of k markers.lines)) parts.levelled parts.stated
        ∙ ap (λ mk. with_markers k (without_marker number mk) (rows_of markers.lines levels.values states.values)) (markers_at markers.lines levels.values states.values k parts.levelled parts.stated))
        ∙ ap (λ (v : KeptRows). record v { rows = without_marker_on k number v.rows }) view

    pub markers_dropped : (drops : Marker → Bool) → kept_in (record markers { lines = without drops markers.lines }) levels states ≡ record r { rows = without_markers drops r.rows }
    markers_dropped drops =
        ap (λ rows. record (kept_in markers levels states) { rows = rows }) (rows_without drops markers.lines levels.values states.values)
        ∙ ap (λ (v : KeptRows). record v { rows = without_markers drops v.rows }) view

    -- a search among the lines, by their markers
    pub found_from : (P : List Marker → Bool) (from : ℕ) →
        find (λ k. P (markers_of k markers.lines)) (range_with_len from (length markers.lines - from)) ≡ find (λ k. P (row_at r.rows k).markers) (range_with_len from (length r.rows - from))
    found_from P from =
        ap (λ n. find (λ k. P (markers_of k markers.lines)) (range_with_len from (n - from))) parts_length
        ∙ find_same (λ k. P (markers_of k markers.lines)) (λ k. P (row_at r.rows k).markers) (λ k. ap P (parts_markers k)) (range_with_len from (length r.rows - from))

    pub found_up_to : (P : List Marker → Bool) (from : ℕ) →
        find (λ k. P (markers_of k markers.lines)) (reverse (range_with_len 0 (min (from + 1) (length markers.lines)))) ≡ find (λ k. P (row_at r.rows k).markers) (reverse (range_with_len 0 (min (from + 1) (length r.rows))))
    found_up_to P from =
        ap (λ n. find (λ k. P (markers_of k markers.lines)) (reverse (range_with_len 0 (min (from + 1) n)))) parts_length
        ∙ find_same (λ k. P (markers_of k markers.lines)) (λ k. P (row_at r.rows k).markers) (λ k. ap P (parts_markers k)) (reverse (range_with_len 0 (min (from + 1) (length r.rows))))
