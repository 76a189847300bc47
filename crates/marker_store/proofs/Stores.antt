-- The lines of a store, of which the first have chains.
use Rattle.marker_store.proofs.Names.{◌≡◌, ◌≢◌, ◌⊎◌, ℕ, ◌+◌, ◌-◌, ◌<◌, ◌≤◌, ◌==◌, inl, inr, zero, suc, Bool, true, false, not, List, [], ◌∷◌, ◌++◌, length, get_or, set, take, drop, replicate, filter, refl, sym, ap, ◌∙◌, arith, append_assoc, append-nil, length-set, length-append, length-map, length-take-le, length-drop, sum_by-take-drop, ap₂, length-replicate, set-get_or, nil_from_length, sum_by-cons, sum_by-append, min, Some, None, IsTrue, eqb, eq-eqb, ne_eqb, bit_and, mask_of, Marker, Chained, held, MarkedLines, marked_lines, without, with_fresh, with_joined, marker_total, first_from, last_up_to}
use Rattle.std.specs.Prelude.{Option, ◌↔◌}
use Rattle.std.proofs.lemmas.List.Sums.{length-filter, count_by-le-length}
use Rattle.std.specs.Int.Bits.{and_zero_l}
use Rattle.ed_model.specs.Changes.{without_first, without_marker, is_of_number}
use Rattle.split_vector.specs.Split.{inserted}
use Rattle.marker_store.specs.Dropping.{is_dropped, kept, kept_rows, of_number}
use Rattle.marker_store.specs.declared.drops.Drops.{Drops}
use Rattle.marker_store.specs.declared.drops.Drops.TheVariants.{Each}
use Rattle.marker_store.specs.Lines.{HasLineRoom}
use Rattle.marker_store.specs.Store.{all_lines, IsStore}
use Rattle.marker_store.proofs.Joins.{Lists, joined, joined_are, length-joined, total_joined}
use Rattle.marker_store.proofs.Finds.{find_none, last_none}

abbrev none : ℕ → Lists
none n = replicate n []

-- Lines without markers behind others.

length-none : (n : ℕ) → length (none n) ≡ n
length-none n = length-replicate n []

at_none : (n k : ℕ) → get_or (none n) k [] ≡ []
at_none zero k = refl
at_none (suc n) zero = refl
at_none (suc n) (suc k) = at_none n k

pub at_padded : (rows : Lists) (m k : ℕ) → get_or (rows ++ none m) k [] ≡ get_or rows k []
at_padded [] m k = at_none m k
at_padded (r ∷ rows) m zero = refl
at_padded (r ∷ rows) m (suc k) = at_padded rows m k

total_none : (n : ℕ) → marker_total (none n) ≡ 0
total_none zero = refl
total_none (suc n) = omega (arith, sum_by-cons length [] (none n), total_none n)

pub total_padded : (rows : Lists) (m : ℕ) → marker_total (rows ++ none m) ≡ marker_total rows
total_padded rows m = sum_by-append length rows (none m) ∙ omega (arith, total_none m)

without_none : (p : Marker → Bool) (n : ℕ) → without p (none n) ≡ none n
without_none p zero = refl
without_none p (suc n) = ap (λ l. [] ∷ l) (without_none p n)

without_padded : (p : Marker → Bool) (rows : Lists) (m : ℕ) → without p (rows ++ none m) ≡ without p rows ++ none m
without_padded p [] m = without_none p m
without_padded p (r ∷ rows) m = ap (λ l. filter (λ x. not (p x)) r ∷ l) (without_padded p rows m)

pub without_all : (p : Marker → Bool) (n : ℕ) (rows : Lists) → all_lines n (without p rows) ≡ without p (all_lines n rows)
without_all p n rows = ap (λ k. without p rows ++ none (n - k)) (length-map rows (λ (ms : List Marker). filter (λ x. not (p x)) ms)) ∙ sym (without_padded p rows (n - length rows))

-- lines that have no marker among them
all_bare : (n : ℕ) (rows : Lists) → length rows ≡ n → marker_total rows ≡ 0 → none n ≡ rows
all_bare n [] e z = ap none (sym e)
all_bare zero (r ∷ rows) e z = absurd (omega arith)
all_bare (suc n) (r ∷ rows) e z =
    let sum = sum_by-cons length r rows in
    ap₂ (λ (m : List Marker) (ms : Lists). m ∷ ms) (sym (nil_from_length r (omega arith))) (all_bare n rows (omega arith) (omega arith))

-- All lines have a chain, or none has.

pub full : (n : ℕ) (rows : Lists) → length rows ≡ n → all_lines n rows ≡ rows
full n rows e = let z : n - length rows ≡ 0 = omega arith in ap (λ k. rows ++ none k) z ∙ append-nil rows

pub bare : (n : ℕ) → all_lines n [] ≡ none n
bare n = let z : n - 0 ≡ n = omega arith in ap none z

pub lines_length : (n : ℕ) (rows : Lists) → (rows ≡ []) ⊎ (length rows ≡ n) → length (all_lines n rows) ≡ n
lines_length n rows (inl e) = omega (arith, length-append rows (none (n - length rows)), length-none (n - length rows), ap length e)
lines_length n rows (inr e) = omega (arith, length-append rows (none (n - length rows)), length-none (n - length rows), e)

pub set_all :
    (f : List Marker → List Marker) (n line : ℕ) (rows : Lists) → f [] ≡ [] → (rows ≡ []) ⊎ (length rows ≡ n)
    → all_lines n (set rows line (f (get_or rows line []))) ≡ set (all_lines n rows) line (f (get_or (all_lines n rows) line []))
set_all f n line rows z (inl e) = rw (e, bare n, at_none n line, z) (sym (ap (set (none n) line) (sym (at_none n line)) ∙ set-get_or (none n) line []))
set_all f n line rows z (inr e) = rw (full n rows e) (full n (set rows line (f (get_or rows line []))) (length-set rows line (f (get_or rows line [])) ∙ e))

-- Fewer markers.

kept_few : (drops : Drops) (ms : List Marker) → length (kept drops ms) ≤ length ms
kept_few drops ms = omega (arith, length-filter (λ m. not (is_dropped drops m)) ms, count_by-le-length (λ m. not (is_dropped drops m)) ms)

kept_fewer : (drops : Drops) (rows : Lists) → marker_total (kept_rows drops rows) ≤ marker_total rows
kept_fewer drops [] = omega arith
kept_fewer drops (r ∷ rows) = omega (arith, sum_by-cons length (kept drops r) (kept_rows drops rows), sum_by-cons length r rows, kept_few drops r, kept_fewer drops rows)

first_few : (number : ℕ) (ms : List Marker) → length (without_first number ms) ≤ length ms
first_few number [] = omega arith
first_few number (m ∷ ms) = go (m.number == number) refl (first_few number ms)
  where
    go : (b : Bool) → (m.number == number) ≡ b → length (without_first number ms) ≤ length ms → length (without_first number (m ∷ ms)) ≤ suc (length ms)
    go true e h = rw e (omega arith)
    go false e h = rw e (omega arith)

marker_few : (number : Option ℕ) (ms : List Marker) → length (without_marker number ms) ≤ length ms
marker_few None ms = omega arith
marker_few (Some number) ms = first_few number ms

pub marker_nil : (number : Option ℕ) → without_marker number [] ≡ []
marker_nil None = refl
marker_nil (Some number) = refl

marker_fewer : (number : Option ℕ) (line : ℕ) (rows : Lists) → marker_total (set rows line (without_marker number (get_or rows line []))) ≤ marker_total rows
marker_fewer number line [] = omega arith
marker_fewer number zero (r ∷ rows) = omega (arith, sum_by-cons length (without_marker number r) rows, sum_by-cons length r rows, marker_few number r)
marker_fewer number (suc line) (r ∷ rows) = omega (arith, sum_by-cons length r (set rows line (without_marker number (get_or rows line []))), sum_by-cons length r rows, marker_fewer number line rows)

pub kept_each : (ms : List Marker) → kept Each ms ≡ []
kept_each [] = refl
kept_each (m ∷ ms) = kept_each ms

pub number_rows : (number : Option ℕ) (rows : Lists) → kept_rows (of_number number) rows ≡ without (is_of_number number) rows
number_rows None rows = refl
number_rows (Some number) rows = refl

pub differs : (a b x y : ℕ) → a ≡ x → b ≡ y → (IsTrue (not (eqb a b)) → x ≡ y → ⊥) × (x ≢ y → IsTrue (not (eqb a b)))
differs a b x y ea eb = (
  (λ h q. let e : eqb a b ≡ true = eq-eqb a b (ea ∙ q ∙ sym eb) in let k = rw e at h in cc),
  (λ ne. let e : eqb a b ≡ false = ne_eqb a b (λ q. ne (sym ea ∙ q ∙ eb)) in rw e refl),
)

-- Lines come.

length-fresh : (line count : ℕ) (rows : Lists) → line ≤ length rows → length (with_fresh line count rows) ≡ length rows + count
length-fresh line count rows h = simp (length-append, length-drop) (omega (arith, length-take-le line rows h, length-none count))

total_fresh : (line count : ℕ) (rows : Lists) → marker_total (with_fresh line count rows) ≡ marker_total rows
total_fresh line count rows =
    omega
    (arith, sum_by-append length (take line rows) (none count ++ drop line rows), sum_by-append length (none count) (drop line rows), total_none count, sum_by-take-drop length rows line)

pub fresh_none : (n line count : ℕ) → line ≤ n → all_lines (n + count) [] ≡ with_fresh line count (all_lines n [])
fresh_none n line count h =
    bare (n + count)
    ∙ all_bare (n + count) (with_fresh line count (none n)) (omega (arith, length-fresh line count (none n) (omega (arith, length-none n)), length-none n)) (total_fresh line count (none n) ∙ total_none n)
    ∙ ap (with_fresh line count) (sym (bare n))

-- lines with chains
wider_is : (line count : ℕ) (rows : Lists) → inserted rows line (none count) ≡ with_fresh line count rows
wider_is line count rows = append_assoc (take line rows) (none count) (drop line rows)

pub length-wider : (line count : ℕ) (rows : Lists) → line ≤ length rows → length (inserted rows line (none count)) ≡ length rows + count
length-wider line count rows h = ap length (wider_is line count rows) ∙ length-fresh line count rows h

pub fresh_full : (n line count : ℕ) (rows : Lists) → line ≤ n → length rows ≡ n → all_lines (n + count) (inserted rows line (none count)) ≡ with_fresh line count (all_lines n rows)
fresh_full n line count rows h e =
    full (n + count) (inserted rows line (none count)) (length-wider line count rows (omega arith) ∙ ap (λ k. k + count) e)
    ∙ wider_is line count rows ∙ ap (with_fresh line count) (sym (full n rows e))

pub total_wider : (line count : ℕ) (rows : Lists) → marker_total (inserted rows line (none count)) ≡ marker_total rows
total_wider line count rows = ap marker_total (wider_is line count rows) ∙ total_fresh line count rows

-- Lines are joined.

pub joined_bare : (n line count : ℕ) → line + count < n → all_lines (n - count) [] ≡ with_joined line count (all_lines n [])
joined_bare n line count h =
    bare (n - count)
    ∙ all_bare (n - count) (joined line (count + 1) (none n)) (omega (arith, length-joined line (count + 1) (none n) (omega (arith, length-none n)), length-none n))
    (total_joined line (count + 1) (none n) (omega (arith, length-none n)) ∙ total_none n)
    ∙ sym (ap (with_joined line count) (bare n) ∙ joined_are line count (none n))

-- Searches.

pub met_bare : (mask : ℕ) (ms : List Marker) → ms ≡ [] → not (bit_and (mask_of ms) mask == 0) ≡ false
met_bare mask ms e = ap (λ (x : List Marker). not (bit_and (mask_of x) mask == 0)) e ∙ ap not (eq-eqb (bit_and 0 mask) 0 (and_zero_l mask))

module _ (q : List Marker → Bool) (z : q [] ≡ false) (n : ℕ) (rows : Lists) where
  abbrev test : Lists → ℕ → Bool
  test l k = q (get_or l k [])

  bare_test : (k : ℕ) → test (none n) k ≡ false
  bare_test k = ap q (at_none n k) ∙ z

  pub first_all : (from : ℕ) → (rows ≡ []) ⊎ (length rows ≡ n) → first_from (test rows) rows from ≡ first_from (test (all_lines n rows)) (all_lines n rows) from
  first_all from (inl e) =
      let no : 0 - from ≡ 0 = omega arith in
      rw (e, no, bare n) (sym (find_none (test (none n)) from (length (none n) - from) (λ k a b. bare_test k)))
  first_all from (inr e) = rw (full n rows e) refl

  pub last_all : (from : ℕ) → (rows ≡ []) ⊎ (length rows ≡ n) → last_up_to (test rows) rows from ≡ last_up_to (test (all_lines n rows)) (all_lines n rows) from
  last_all from (inl e) =
      let no : min (from + 1) 0 ≡ 0 = omega arith in
      rw (e, no, bare n) (sym (last_none (test (none n)) (min (from + 1) (length (none n))) (λ k a. bare_test k)))
  last_all from (inr e) = rw (full n rows e) refl

-- Which of the two it is.

pub is_full : (n : ℕ) (rows : Lists) → (rows ≡ []) ⊎ (length rows ≡ n) → 0 < length rows → length rows ≡ n
is_full n rows (inl e) h = absurd (omega (arith, ap length e))
is_full n rows (inr e) h = e

pub same_shape : (n : ℕ) (rows rows' : Lists) → (rows ≡ []) ⊎ (length rows ≡ n) → length rows' ≡ length rows → (rows' ≡ []) ⊎ (length rows' ≡ n)
same_shape n rows rows' (inl e) s = inl (nil_from_length rows' (s ∙ ap length e))
same_shape n rows rows' (inr e) s = inr (s ∙ e)

total_of : (n : ℕ) (c : Chained) → c.aside ≡ [] → marker_total (all_lines n c.rows) ≡ held c
total_of n c none = total_padded c.rows (n - length c.rows) ∙ omega (arith, ap length none)

-- other markers stand on the same lines, no more than before
pub record IsLess (chains new : Chained) : Type 0 where
  pub rows : Lists
  pub is : new ≡ record chains { rows = rows }
  pub size : length rows ≡ length chains.rows
  pub fewer : marker_total rows ≤ marker_total chains.rows

pub less_kept : (chains new : Chained) (drops : Drops) → new ≡ record chains { rows = kept_rows drops chains.rows } → IsLess chains new
less_kept chains new drops is = record { rows = kept_rows drops chains.rows; is = is; size = length-map chains.rows (kept drops); fewer = kept_fewer drops chains.rows }

pub less_on : (chains new : Chained) (number : Option ℕ) (line : ℕ) → new ≡ record chains { rows = set chains.rows line (without_marker number (get_or chains.rows line [])) } → IsLess chains new
less_on chains new number line is = record { rows = _; is = is; size = length-set chains.rows line _; fewer = marker_fewer number line chains.rows }

abbrev store_in : Chained → (lines next_handle : ℕ) → MarkedLines
store_in c lines next_handle = marked_lines (all_lines lines c.rows) next_handle c.capacity c.line_capacity

module _ (chains : Chained) (lines next_handle : ℕ) (s : IsStore chains lines next_handle) (v : MarkedLines) (view : store_in chains lines next_handle ≡ v) where
  pub lines_are : length v.lines ≡ lines
  lines_are = ap (λ (v : MarkedLines). length v.lines) (sym view) ∙ lines_length lines chains.rows s.headed

  pub total_is : marker_total v.lines ≡ held chains
  total_is = ap (λ (v : MarkedLines). marker_total v.lines) (sym view) ∙ total_of lines chains s.none_aside

  pub room_is : (count : ℕ) → HasLineRoom count v → 0 < chains.capacity → lines + count ≤ chains.line_capacity
  room_is count room some = omega (arith, room (omega (arith, some, ap (λ (v : MarkedLines). v.capacity) view)), lines_are, ap (λ (v : MarkedLines). v.line_capacity) view)

  module _ (new : Chained) (l : IsLess chains new) where
    pub less_sound : IsStore new lines next_handle
    less_sound = rw l.is (record {
      some = s.some;
      few = s.few;
      headed = same_shape lines chains.rows l.rows s.headed l.size;
      held = λ h. s.held (omega (arith, h, l.size));
      fits = s.fits;
      fewer = omega (arith, s.fewer, l.fewer);
      none_aside = s.none_aside;
    })

    less_total : marker_total (all_lines lines new.rows) ≡ held new
    less_total = total_of lines new (ap (λ (c : Chained). c.aside) l.is ∙ s.none_aside)

    pub less_fewer : marker_total (all_lines lines new.rows) ≤ marker_total v.lines
    less_fewer = omega (arith, less_total, total_is, ap held l.is, l.fewer)

    pub less_went : (a b : ℕ) → a ≡ held new → b ≡ held chains → (IsTrue (not (eqb a b)) ↔ (marker_total (all_lines lines new.rows) ≢ marker_total v.lines))
    less_went a b ea eb = differs a b _ _ (ea ∙ sym less_total) (eb ∙ sym total_is)

    pub less_lines : (F : Lists → Lists) → all_lines lines new.rows ≡ F (all_lines lines chains.rows) → store_in new lines next_handle ≡ record v { lines = F v.lines }
    less_lines F same =
        ap₂ (λ (ls : Lists) (c : Chained). marked_lines ls next_handle c.capacity c.line_capacity) same l.is ∙ ap (λ (v : MarkedLines). record v { lines = F v.lines }) view
