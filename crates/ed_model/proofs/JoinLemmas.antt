-- The walk over old lines and new ones can be split into parts: rows of lines that stay do not change, a new line gets a fresh
-- row, and a line that is joined to another joins their rows.
use Rattle.ed_model.proofs.Names.{ℕ, zero, suc, ◌≡◌, ◌+◌, ◌-◌, ◌<◌, ◌≤◌, Bool, true, false, cond, List, [], ◌∷◌, ◌++◌, map, length, take, drop, get_or, ltb, sym, refl, ap, ap₂, ◌∙◌, arith, one-add, le_refl, prefix_len, AllByRecursion, IsNonDecreasing, lt-ltb, le-ltb, take_at, drop_at, take-append-le, drop-append-le, lines_before, merged, Rises, Climbs, Climbs_weaker, Rises_weaker, all_weaker}
use Rattle.std.proofs.lemmas.List.{length-drop}
use Rattle.std.proofs.lemmas.List.Sums.{prefix_len-le-length}

-- facts on each element

-- if P holds for each element of a list, it holds for each element of the rest
pub each_drop : {X : Type 0} (P : X → Type 0) (k : ℕ) (xs : List X) → AllByRecursion P xs → AllByRecursion P (drop k xs)
each_drop P zero xs h = h
each_drop P (suc k) [] h = h
each_drop P (suc k) (x ∷ xs) h = each_drop P k xs h.1

-- the elements before t in a rising list are below t
pub rises_before : (low t : ℕ) (xs ys : List ℕ) → Rises low (xs ++ t ∷ ys) → AllByRecursion (λ x. x < t) xs × (low ≤ t)
rises_before low t [] ys r = (tt, r.0)
rises_before low t (x ∷ xs) ys r =
    let rest : AllByRecursion (λ y. y < t) xs × (x + 1 ≤ t) = rises_before (x + 1) t xs ys r.1 in
    ((omega arith, rest.0), omega (arith, r.0, rest.1))

-- the rest of a rising list rises
pub rises_rest : (low : ℕ) (xs ys : List ℕ) → Rises low (xs ++ ys) → Rises low ys
rises_rest low [] ys r = r
rises_rest low (x ∷ xs) ys r = Rises_weaker (x + 1) low ys (omega (arith, r.0)) (rises_rest (x + 1) xs ys r.1)

-- .. and so does its front
pub rises_front : (low : ℕ) (xs ys : List ℕ) → Rises low (xs ++ ys) → Rises low xs
rises_front low [] ys r = tt
rises_front low (x ∷ xs) ys r = (r.0, rises_front (x + 1) xs ys r.1)

-- no element is below the bound
pub climbs_each : (low : ℕ) (moved : ℕ → ℕ) (xs : List ℕ) → Climbs low (map moved xs) → AllByRecursion (λ x. low ≤ moved x) xs
climbs_each low moved [] c = tt
climbs_each low moved (x ∷ xs) c = (c.0, climbs_each low moved xs (Climbs_weaker (moved x) low (map moved xs) c.0 c.1))

-- the length of a front

prefix_append : (p : ℕ → Bool) (xs ys : List ℕ) → AllByRecursion (λ y. p y ≡ false) ys → prefix_len p (xs ++ ys) ≡ prefix_len p xs
prefix_append p [] [] h = refl
prefix_append p [] (y ∷ ys) h = rw h.0 refl
prefix_append p (x ∷ xs) ys h = ap (λ n. cond (p x) (1 + n) 0) (prefix_append p xs ys h)

prefix_all : (p : ℕ → Bool) (xs : List ℕ) → AllByRecursion (λ y. p y ≡ true) xs → prefix_len p xs ≡ length xs
prefix_all p [] h = refl
prefix_all p (x ∷ xs) h = rw (h.0, prefix_all p xs h.1) (one-add (length xs))

-- the walk over two parts, if the lines of the first are before the start of the second
pub merged-append : {R : Type 0} (together : List R → R) (moved : ℕ → ℕ) (old other : List ℕ) (s : ℕ) (new : List ℕ) (t : ℕ) (news : List ℕ) (rows others : List R) → length old ≡ length rows → AllByRecursion (λ u. u < t) new → AllByRecursion (λ o. moved o < t) old → AllByRecursion (λ o. t ≤ moved o) other → merged together moved (old ++ other) (s ∷ new ++ (t ∷ news)) (rows ++ others) ≡ merged together moved old (s ∷ new) rows ++ merged together moved other (t ∷ news) others
merged-append together moved old other s [] t news rows others h b f l =
    let k : lines_before moved t (old ++ other) ≡ length old =
    prefix_append (λ o. ltb (moved o) t) old other (all_weaker (λ o. t ≤ moved o) (λ o. ltb (moved o) t ≡ false) (λ o m. le-ltb (moved o) t m) other l)
    ∙ prefix_all (λ o. ltb (moved o) t) old (all_weaker (λ o. moved o < t) (λ o. ltb (moved o) t ≡ true) (λ o m. lt-ltb (moved o) t m) old f) in
    rw (k, take_at rows others (length old) (sym h), drop_at old other (length old) refl, drop_at rows others (length old) (sym h)) refl
merged-append {R} together moved old other s (u ∷ new) t news rows others h b f l =
    let count : ℕ = lines_before moved u old in
    let k : lines_before moved u (old ++ other) ≡ count =
    prefix_append (λ o. ltb (moved o) u) old other (all_weaker (λ o. t ≤ moved o) (λ o. ltb (moved o) u ≡ false) (λ o m. le-ltb (moved o) u (omega (arith, b.0))) other l) in
    let within : count ≤ length old = prefix_len-le-length (λ o. ltb (moved o) u) old in
    let within_rows : count ≤ length rows = omega arith in
    rw (k, take-append-le count rows others within_rows, drop-append-le count old other within, drop-append-le count rows others within_rows)
    (ap (λ (rest : List R). together (take count rows) ∷ rest)
    (merged-append together moved (drop count old) other u new t news (drop count rows) others (omega (arith, length-drop count old, length-drop count rows)) b.1 (each_drop (λ o. moved o < t) count old f) l))

-- if each line keeps its start, the rows stay
pub merged_same : {R : Type 0} (together : List R → R) → ((row : R) → together (row ∷ []) ≡ row) → (moved : ℕ → ℕ) (low : ℕ) (old : List ℕ) (rows : List R) → Rises low (map moved old) → length old ≡ length rows → merged together moved old (map moved old) rows ≡ rows
merged_same together alone moved low [] [] r h = refl
merged_same together alone moved low [] (x ∷ rows) r h = absurd (omega arith)
merged_same together alone moved low (o ∷ old) [] r h = absurd (omega arith)
merged_same together alone moved low (o ∷ []) (x ∷ []) r h = ap (λ y. y ∷ []) (alone x)
merged_same together alone moved low (o ∷ []) (x ∷ y ∷ rows) r h = absurd (omega arith)
merged_same together alone moved low (o ∷ p ∷ old) (x ∷ []) r h = absurd (omega arith)
merged_same together alone moved low (o ∷ p ∷ old) (x ∷ y ∷ rows) r h =
    rw (lt-ltb (moved o) (moved p) (omega (arith, r.1.0)), le-ltb (moved p) (moved p) (le_refl (moved p)))
    (ap₂ (λ a l. a ∷ l) (alone x) (merged_same together alone moved (moved o + 1) (p ∷ old) (y ∷ rows) r.1 (omega arith)))

-- a new line before the others gets a fresh row
pub merged_fresh : {R : Type 0} (together : List R → R) → ((row : R) → together (row ∷ []) ≡ row) → (moved : ℕ → ℕ) (low s : ℕ) (old : List ℕ) (rows : List R) → Rises low (map moved old) → length old ≡ length rows → merged together moved old (s ∷ map moved old) rows ≡ together [] ∷ rows
merged_fresh together alone moved low s [] [] r h = refl
merged_fresh together alone moved low s [] (x ∷ rows) r h = absurd (omega arith)
merged_fresh together alone moved low s (o ∷ old) rows r h =
    rw (le-ltb (moved o) (moved o) (le_refl (moved o))) (ap (λ l. together [] ∷ l) (merged_same together alone moved low (o ∷ old) rows r h))

-- two old lines on one new line join their rows
pub merged_joined : {R : Type 0} (together : List R → R) → ((row : R) → together (row ∷ []) ≡ row) → (moved : ℕ → ℕ) (low s a b : ℕ) (old : List ℕ) (x y : R) (rows : List R) → Rises low (map moved old) → moved a < low → moved b < low → length old ≡ length rows → merged together moved (a ∷ b ∷ old) (s ∷ map moved old) (x ∷ y ∷ rows) ≡ together (x ∷ y ∷ []) ∷ rows
merged_joined together alone moved low s a b [] x y [] r f g h = refl
merged_joined together alone moved low s a b [] x y (z ∷ rows) r f g h = absurd (omega arith)
merged_joined together alone moved low s a b (o ∷ old) x y rows r f g h =
    rw (lt-ltb (moved a) (moved o) (omega (arith, r.0)), lt-ltb (moved b) (moved o) (omega (arith, r.0)), le-ltb (moved o) (moved o) (le_refl (moved o)))
    (ap (λ l. together (x ∷ y ∷ []) ∷ l) (merged_same together alone moved low (o ∷ old) rows r h))

-- lists in order, as std states it

-- a list that does not fall, as std states it, climbs
pub climbs_from_non_decreasing : (low : ℕ) (xs : List ℕ) → (0 < length xs → low ≤ get_or xs 0 0) → IsNonDecreasing xs → Climbs low xs
climbs_from_non_decreasing low [] h r = tt
climbs_from_non_decreasing low (x ∷ []) h r = (h (omega arith), tt)
climbs_from_non_decreasing low (x ∷ y ∷ xs) h r = (
  h (omega arith),
  climbs_from_non_decreasing x (y ∷ xs) (λ _. r 0 1 0 (omega arith) (omega arith)) (λ i j d m l. r (suc i) (suc j) d (omega arith) (omega arith)),
)
