-- The line that the markers with a handle left.
use Rattle.document.proofs.Names.{◌≡◌, ℕ, zero, suc, ◌+◌, ◌-◌, ◌==◌, not, Bool, true, false, cond, if◌then◌else◌, List, [], ◌∷◌, ◌++◌, length, filter, Option, Some, None, refl, ap, sym, subst, ◌∙◌, arith, append_assoc, length-append, range_with_len, list_any, find, ◌||◌, eq-eqb, ne_eqb, Marker, Row, marker_count, without_markers, line_with_handle, row_at, has_handle, first_from, line_it_left}
use Rattle.std.specs.Prelude.{sum_by}
use Rattle.std.proofs.lemmas.List.Sums.{sum_by-cons}
use Rattle.std.proofs.lemmas.List.Filters.{length-filter_both}
use Rattle.ed_model.specs.proved.Changes.{marker_count-cons}

row_behind : (front : List Row) (row : Row) (rest : List Row) → row_at (front ++ row ∷ rest) (length front) ≡ row
row_behind [] row rest = refl
row_behind (f ∷ front) row rest = row_behind front row rest

alike : (a b c : ℕ) → a ≡ b + c → (a == c) ≡ (b == 0)
alike a zero c e = eq-eqb a c (omega (arith, e))
alike a (suc b) c e = ne_eqb a c (λ f. omega (arith, e, f)) ∙ sym (ne_eqb (suc b) 0 (λ z. omega arith))

module _ (handle : ℕ) where
  abbrev is_it : Marker → Bool
  is_it m = m.handle == handle

  abbrev hits : Row → ℕ
  hits row = length (filter is_it row.markers)

  -- the first line of these with a hit, if there is one
  abbrev first : List Row → ℕ → Option ℕ
  first rows line = if sum_by hits rows == 0 then None else Some (line_with_handle handle line rows)

  any_step : (b : Bool) (m : Marker) (ms : List Marker) → list_any is_it ms ≡ not (length (filter is_it ms) == 0) → (b || list_any is_it ms) ≡ not (length (cond b (m ∷ filter is_it ms) (filter is_it ms)) == 0)
  any_step true m ms h = sym (ap not (ne_eqb (length (m ∷ filter is_it ms)) 0 (λ z. omega arith)))
  any_step false m ms h = h

  any_is : (markers : List Marker) → list_any is_it markers ≡ not (length (filter is_it markers) == 0)
  any_is [] = refl
  any_is (m ∷ ms) = any_step (is_it m) m ms (any_is ms)

  counted : (rows : List Row) → marker_count rows ≡ sum_by hits rows + marker_count (without_markers is_it rows)
  counted [] = refl
  counted (row ∷ rows) =
      let left : Row = record row { markers = filter (λ m. not (is_it m)) row.markers } in
      omega (arith, marker_count-cons row rows, sum_by-cons hits row rows, marker_count-cons left (without_markers is_it rows), length-filter_both is_it (λ m. not (is_it m)) (λ m. refl) row.markers, counted rows)

  step : (n line : ℕ) (row : Row) (rest : List Row) → hits row ≡ n → cond (not (n == 0)) (Some line) (first rest (line + 1)) ≡ first (row ∷ rest) line
  step zero line row rest none =
      let same : sum_by hits (row ∷ rest) ≡ sum_by hits rest = omega (arith, sum_by-cons hits row rest, none) in
      rw (same, none) refl
  step (suc n) line row rest some =
      let more : (sum_by hits (row ∷ rest) == 0) ≡ false = ne_eqb (sum_by hits (row ∷ rest)) 0 (λ z. omega (arith, z, sum_by-cons hits row rest, some)) in
      let one : (suc n == 0) ≡ false = ne_eqb (suc n) 0 (λ z. omega arith) in
      rw (more, some, one) refl

  found : (front rest : List Row) → find (has_handle handle (front ++ rest)) (range_with_len (length front) (length rest)) ≡ first rest (length front)
  found front [] = refl
  found front (row ∷ rest) =
      let longer : length (front ++ row ∷ []) ≡ length front + 1 = length-append front (row ∷ []) in
      let together : (front ++ row ∷ []) ++ rest ≡ front ++ row ∷ rest = append_assoc front (row ∷ []) rest in
      let later : find (has_handle handle (front ++ row ∷ rest)) (range_with_len (length front + 1) (length rest)) ≡ first rest (length front + 1) =
      subst (λ (rows : List Row). find (has_handle handle rows) (range_with_len (length front + 1) (length rest)) ≡ first rest (length front + 1)) together
      (subst (λ n. find (has_handle handle ((front ++ row ∷ []) ++ rest)) (range_with_len n (length rest)) ≡ first rest n) longer (found (front ++ row ∷ []) rest)) in
      let here : has_handle handle (front ++ row ∷ rest) (length front) ≡ not (hits row == 0) = ap (λ (r : Row). list_any is_it r.markers) (row_behind front row rest) ∙ any_is row.markers in
      rw (here, later) (step (hits row) (length front) row rest refl)

-- the first line with the handle is the one that the markers left, if there were some
pub first_is_left : (handle : ℕ) (rows new : List Row) → new ≡ without_markers (λ m. m.handle == handle) rows → first_from (has_handle handle rows) rows 0 ≡ line_it_left handle rows new
first_is_left handle rows new is =
    let all : length rows - 0 ≡ length rows = omega arith in
    let went : (marker_count rows == marker_count new) ≡ (sum_by (hits handle) rows == 0) = alike (marker_count rows) (sum_by (hits handle) rows) (marker_count new) (counted handle rows ∙ ap (λ (left : List Row). sum_by (hits handle) rows + marker_count left) (sym is)) in
    rw went (ap (λ n. find (has_handle handle rows) (range_with_len 0 n)) all ∙ found handle [] rows)
