-- Carry is the walk over the old lines and the new ones: the rows that go to a line are consecutive old rows.
use Rattle.ed_model.proofs.Names.{ℕ, zero, suc, ◌≡◌, ◌+◌, ◌<◌, ◌≤◌, Bool, true, cond, ◌&&◌, List, [], ◌∷◌, map, length, take, drop, filter, zip, count_by, eqb, leb, ltb, sym, refl, ap, ap₂, ◌∙◌, inl, inr, arith, one-add, le_refl, range_with_len, cond_both, cases_lt, cases_eq, eq-eqb, ne_eqb, lt-ltb, le-ltb, le-leb, lt-leb, drop-map, filter_agree, line_of, rows_on, carried, lines_before, merged, Rises, Climbs, Climbs_weaker, Climbs_from_rises, count-cons, count_none}
use Rattle.std.proofs.lemmas.List.{length-drop}

-- lists

filter_twice : {X : Type 0} (p q both : X → Bool) → ((x : X) → both x ≡ (q x && p x)) → (xs : List X) → filter both xs ≡ filter p (filter q xs)
filter_twice p q both h [] = refl
filter_twice p q both h (x ∷ xs) =
    rw (h x, filter_twice p q both h xs)
    (cond_both (q x) (x ∷ filter q xs) (filter q xs) (λ l. cond (q x && p x) (x ∷ filter p (filter q xs)) (filter p (filter q xs)) ≡ filter p l) (λ e. rw e refl) (λ e. rw e refl))

filter_all : {X : Type 0} (p : X → Bool) → ((x : X) → p x ≡ true) → (xs : List X) → filter p xs ≡ xs
filter_all p h [] = refl
filter_all p h (x ∷ xs) = rw (h x) (ap (λ l. x ∷ l) (filter_all p h xs))

map_same : {X Y : Type 0} (f g : X → Y) → ((x : X) → f x ≡ g x) → (xs : List X) → map f xs ≡ map g xs
map_same f g h [] = refl
map_same f g h (x ∷ xs) = ap₂ (λ y l. y ∷ l) (h x) (map_same f g h xs)

map_shift : {Y : Type 0} (g : ℕ → Y) (a n : ℕ) → map g (range_with_len (a + 1) n) ≡ map (λ j. g (j + 1)) (range_with_len a n)
map_shift g a zero = refl
map_shift g a (suc n) = ap (λ l. g (a + 1) ∷ l) (map_shift g (a + 1) n)

second_of_zip : {R : Type 0} (old : List ℕ) (rows : List R) → length old ≡ length rows → map (λ (e : ℕ × R). e.1) (zip old rows) ≡ rows
second_of_zip [] [] h = refl
second_of_zip [] (r ∷ rows) h = absurd (omega arith)
second_of_zip (o ∷ old) [] h = absurd (omega arith)
second_of_zip (o ∷ old) (r ∷ rows) h = ap (λ l. r ∷ l) (second_of_zip old rows (omega arith))

-- the rest of a list that does not fall does not fall
pub Climbs-drop : (low k : ℕ) (xs : List ℕ) → Climbs low xs → Climbs low (drop k xs)
Climbs-drop low zero xs r = r
Climbs-drop low (suc k) [] r = tt
Climbs-drop low (suc k) (x ∷ xs) r = Climbs-drop low k xs (Climbs_weaker x low xs r.0 r.1)

-- rows before a place, and those from it on

none_in_front : {R : Type 0} (moved : ℕ → ℕ) (low next : ℕ) (old : List ℕ) (rows : List R) → Climbs low (map moved old) → next ≤ low → filter (λ (e : ℕ × R). ltb (moved e.0) next) (zip old rows) ≡ []
none_in_front moved low next [] rows c h = refl
none_in_front moved low next (o ∷ old) [] c h = refl
none_in_front moved low next (o ∷ old) (r ∷ rows) c h = rw (le-ltb (moved o) next (omega (arith, c.0))) (none_in_front moved (moved o) next old rows c.1 (omega (arith, c.0)))

all_from : {R : Type 0} (moved : ℕ → ℕ) (low next : ℕ) (old : List ℕ) (rows : List R) → Climbs low (map moved old) → next ≤ low → filter (λ (e : ℕ × R). leb next (moved e.0)) (zip old rows) ≡ zip old rows
all_from moved low next [] rows c h = refl
all_from moved low next (o ∷ old) [] c h = refl
all_from moved low next (o ∷ old) (r ∷ rows) c h =
    rw (le-leb next (moved o) (omega (arith, c.0))) (ap (λ l. (o, r) ∷ l) (all_from moved (moved o) next old rows c.1 (omega (arith, c.0))))

front_rows : {R : Type 0} (moved : ℕ → ℕ) (low next : ℕ) (old : List ℕ) (rows : List R) → Climbs low (map moved old) → length old ≡ length rows → map (λ (e : ℕ × R). e.1) (filter (λ (e : ℕ × R). ltb (moved e.0) next) (zip old rows)) ≡ take (lines_before moved next old) rows
front_rows moved low next [] [] c h = refl
front_rows moved low next [] (r ∷ rows) c h = absurd (omega arith)
front_rows moved low next (o ∷ old) [] c h = absurd (omega arith)
front_rows {R} moved low next (o ∷ old) (r ∷ rows) c h =
    elim (cases_lt (moved o) next) [
      | inl below ↦ rw (lt-ltb (moved o) next below, one-add (lines_before moved next old)) (ap (λ l. r ∷ l) (front_rows moved (moved o) next old rows c.1 (omega arith)))
      | inr above ↦ rw (le-ltb (moved o) next above) (ap (map (λ (e : ℕ × R). e.1)) (none_in_front moved (moved o) next old rows c.1 above))
    ]

rest_rows : {R : Type 0} (moved : ℕ → ℕ) (low next : ℕ) (old : List ℕ) (rows : List R) → Climbs low (map moved old) → length old ≡ length rows → filter (λ (e : ℕ × R). leb next (moved e.0)) (zip old rows) ≡ zip (drop (lines_before moved next old) old) (drop (lines_before moved next old) rows)
rest_rows moved low next [] [] c h = refl
rest_rows moved low next [] (r ∷ rows) c h = absurd (omega arith)
rest_rows moved low next (o ∷ old) [] c h = absurd (omega arith)
rest_rows moved low next (o ∷ old) (r ∷ rows) c h =
    elim (cases_lt (moved o) next) [
      | inl below ↦ rw (lt-ltb (moved o) next below, one-add (lines_before moved next old), lt-leb next (moved o) below) (rest_rows moved (moved o) next old rows c.1 (omega arith))
      | inr above ↦ rw (le-ltb (moved o) next above, le-leb next (moved o) above) (ap (λ l. (o, r) ∷ l) (all_from moved (moved o) next old rows c.1 above))
    ]

-- the line of a position, among the lines from the second on

count_le_one : (s x : ℕ) → count_by (λ y. leb y x) (s ∷ []) ≤ 1
count_le_one s x = rw (count-cons (λ y. leb y x) s []) (cond_both (leb s x) 1 0 (λ n. n + 0 ≤ 1) (λ _. omega arith) (λ _. omega arith))

only_line : (s x : ℕ) → eqb (line_of (s ∷ []) x) 0 ≡ true
only_line s x = eq-eqb (line_of (s ∷ []) x) 0 (omega (arith, count_le_one s x))

line_below_next : (low s t : ℕ) (rest : List ℕ) (x : ℕ) → Rises low (s ∷ t ∷ rest) → x < t → line_of (s ∷ t ∷ rest) x ≡ 0
line_below_next low s t rest x r h =
    let none : count_by (λ y. leb y x) (t ∷ rest) ≡ 0 = count_none t x (t ∷ rest) (Climbs_from_rises t (t ∷ rest) (le_refl t, r.1.1)) h in
    let one : cond (leb s x) 1 0 ≤ 1 = cond_both (leb s x) 1 0 (λ n. n ≤ 1) (λ _. omega arith) (λ _. omega arith) in
    omega (arith, count-cons (λ y. leb y x) s (t ∷ rest))

line_from_next : (low s t : ℕ) (rest : List ℕ) (x : ℕ) → Rises low (s ∷ t ∷ rest) → t ≤ x → line_of (s ∷ t ∷ rest) x ≡ line_of (t ∷ rest) x + 1
line_from_next low s t rest x r h =
    let first : count_by (λ y. leb y x) (s ∷ t ∷ rest) ≡ 1 + count_by (λ y. leb y x) (t ∷ rest) = rw (count-cons (λ y. leb y x) s (t ∷ rest), le-leb s x (omega (arith, r.1.0))) refl in
    let second : count_by (λ y. leb y x) (t ∷ rest) ≡ 1 + count_by (λ y. leb y x) rest = rw (count-cons (λ y. leb y x) t rest, le-leb t x h) refl in
    omega arith

on_first : (low s t : ℕ) (rest : List ℕ) (x : ℕ) → Rises low (s ∷ t ∷ rest) → eqb (line_of (s ∷ t ∷ rest) x) 0 ≡ ltb x t
on_first low s t rest x r =
    elim (cases_lt x t) [
      | inl below ↦ eq-eqb (line_of (s ∷ t ∷ rest) x) 0 (line_below_next low s t rest x r below) ∙ sym (lt-ltb x t below)
      | inr above ↦ ne_eqb (line_of (s ∷ t ∷ rest) x) 0 (λ e. omega (arith, line_from_next low s t rest x r above)) ∙ sym (le-ltb x t above)
    ]

same_test : (a b c d : ℕ) → a + d ≡ b + c → eqb a c ≡ eqb b d
same_test a b c d e =
    elim (cases_eq a c) [
      | inl same ↦ eq-eqb a c same ∙ sym (eq-eqb b d (omega arith))
      | inr other ↦ ne_eqb a c other ∙ sym (ne_eqb b d (λ f. other (omega arith)))
    ]

on_later : (low s t : ℕ) (rest : List ℕ) (x j : ℕ) → Rises low (s ∷ t ∷ rest) → eqb (line_of (s ∷ t ∷ rest) x) (j + 1) ≡ (leb t x && eqb (line_of (t ∷ rest) x) j)
on_later low s t rest x j r =
    elim (cases_lt x t) [
      | inl below ↦ ne_eqb (line_of (s ∷ t ∷ rest) x) (j + 1) (λ e. omega (arith, line_below_next low s t rest x r below)) ∙ sym (ap (λ b. b && eqb (line_of (t ∷ rest) x) j) (lt-leb t x below))
      | inr above ↦ same_test (line_of (s ∷ t ∷ rest) x) (line_of (t ∷ rest) x) (j + 1) j (omega (arith, line_from_next low s t rest x r above)) ∙ sym (ap (λ b. b && eqb (line_of (t ∷ rest) x) j) (le-leb t x above))
    ]

-- the walk

rows_on_first : {R : Type 0} (moved : ℕ → ℕ) (low s t : ℕ) (old rest : List ℕ) (rows : List R) → Climbs 0 (map moved old) → Rises low (s ∷ t ∷ rest) → length old ≡ length rows → rows_on moved old (s ∷ t ∷ rest) rows 0 ≡ take (lines_before moved t old) rows
rows_on_first {R} moved low s t old rest rows c r h =
    ap (map (λ (e : ℕ × R). e.1)) (filter_agree (λ (e : ℕ × R). eqb (line_of (s ∷ t ∷ rest) (moved e.0)) 0) (λ (e : ℕ × R). ltb (moved e.0) t) (λ e. on_first low s t rest (moved e.0) r) (zip old rows))
    ∙ front_rows moved 0 t old rows c h

rows_on_later : {R : Type 0} (moved : ℕ → ℕ) (low s t : ℕ) (old rest : List ℕ) (rows : List R) (j : ℕ) → Climbs 0 (map moved old) → Rises low (s ∷ t ∷ rest) → length old ≡ length rows → rows_on moved old (s ∷ t ∷ rest) rows (j + 1) ≡ rows_on moved (drop (lines_before moved t old) old) (t ∷ rest) (drop (lines_before moved t old) rows) j
rows_on_later {R} moved low s t old rest rows j c r h =
    let here : ℕ × R → Bool = λ e. eqb (line_of (t ∷ rest) (moved e.0)) j in
    ap (map (λ (e : ℕ × R). e.1))
    (filter_twice here (λ (e : ℕ × R). leb t (moved e.0)) (λ (e : ℕ × R). eqb (line_of (s ∷ t ∷ rest) (moved e.0)) (j + 1)) (λ e. on_later low s t rest (moved e.0) j r) (zip old rows)
    ∙ ap (filter here) (rest_rows moved 0 t old rows c h))

carried_walk : {R : Type 0} (together : List R → R) (moved : ℕ → ℕ) (low s t : ℕ) (old rest : List ℕ) (rows : List R) → Climbs 0 (map moved old) → Rises low (s ∷ t ∷ rest) → length old ≡ length rows → carried together moved old (s ∷ t ∷ rest) rows ≡ together (take (lines_before moved t old) rows) ∷ carried together moved (drop (lines_before moved t old) old) (t ∷ rest) (drop (lines_before moved t old) rows)
carried_walk {R} together moved low s t old rest rows c r h =
    let row : ℕ → R = λ line. together (rows_on moved old (s ∷ t ∷ rest) rows line) in
    let other : ℕ → R = λ line. together (rows_on moved (drop (lines_before moved t old) old) (t ∷ rest) (drop (lines_before moved t old) rows) line) in
    ap₂ (λ y l. y ∷ l)
    (ap together (rows_on_first moved low s t old rest rows c r h))
    (map_shift row 0 (suc (length rest)) ∙ map_same (λ j. row (j + 1)) other (λ j. ap together (rows_on_later moved low s t old rest rows j c r h)) (range_with_len 0 (suc (length rest))))

-- carry is the walk
pub carried_is_merged : {R : Type 0} (together : List R → R) (moved : ℕ → ℕ) (low : ℕ) (old new : List ℕ) (rows : List R) → Climbs 0 (map moved old) → Rises low new → length old ≡ length rows → carried together moved old new rows ≡ merged together moved old new rows
carried_is_merged together moved low old [] rows c r h = refl
carried_is_merged {R} together moved low old (s ∷ []) rows c r h =
    ap (λ l. together l ∷ [])
    (ap (map (λ (e : ℕ × R). e.1)) (filter_all (λ (e : ℕ × R). eqb (line_of (s ∷ []) (moved e.0)) 0) (λ e. only_line s (moved e.0)) (zip old rows))
    ∙ second_of_zip old rows h)
carried_is_merged together moved low old (s ∷ t ∷ rest) rows c r h =
    let climbs : Climbs 0 (map moved (drop (lines_before moved t old) old)) = rw (drop-map moved (lines_before moved t old) old) at (Climbs-drop 0 (lines_before moved t old) (map moved old) c) in
    carried_walk together moved low s t old rest rows c r h
    ∙ ap (λ l. together (take (lines_before moved t old) rows) ∷ l)
    (carried_is_merged together moved (s + 1) (drop (lines_before moved t old) old) (t ∷ rest) (drop (lines_before moved t old) rows) climbs r.1
    (omega (arith, length-drop (lines_before moved t old) old, length-drop (lines_before moved t old) rows)))
