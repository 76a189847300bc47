-- Lists of rising numbers, such as a filter of a range gives, and how many of them are at most a given number.
use Rattle.std.proofs.Common.{ℕ, zero, suc, ◌≡◌, ◌+◌, ◌-◌, ◌<◌, ◌≤◌, Bool, true, false, cond, List, [], ◌∷◌, ◌++◌, map, length, get_or, filter, count_by, leb, refl, ap, ap₂, ◌∙◌, inl, inr, arith, le_refl, add-one, add_assoc, map-id, add-zero, zero-add}
use Rattle.std.specs.Prelude.{reverse}
use Rattle.std.specs.List.{range_with_len}
use Rattle.std.specs.List.Sorted.{IsStrictlyIncreasing}
use Rattle.std.proofs.lemmas.Bool.{cond_both, le-leb, lt-leb, cases_lt, cases_order}
use Rattle.std.proofs.lemmas.List.{reverse-append}
use Rattle.std.proofs.lemmas.List.Sums.{sum_by-cons, sum_by-le-sum_by, count_by-le-length}
use Rattle.std.proofs.lemmas.Bool.Decides.{nat_tests}

-- each number is at least `low`, and greater than the one before it
abbrev pub Rises : ℕ → List ℕ → Type 0
Rises low [] = Unit {0}
Rises low (x ∷ xs) = (low ≤ x) × Rises (x + 1) xs

-- each number is at least `low`, and at least the one before it
abbrev pub Climbs : ℕ → List ℕ → Type 0
Climbs low [] = Unit {0}
Climbs low (x ∷ xs) = (low ≤ x) × Climbs x xs

-- a list that rises from a number rises from any lower one
pub Rises_weaker : (low lower : ℕ) (xs : List ℕ) → lower ≤ low → Rises low xs → Rises lower xs
Rises_weaker low lower [] h r = tt
Rises_weaker low lower (x ∷ xs) h r = (omega arith, r.1)

-- a list that climbs from a number climbs from any lower one
pub Climbs_weaker : (low lower : ℕ) (xs : List ℕ) → lower ≤ low → Climbs low xs → Climbs lower xs
Climbs_weaker low lower [] h r = tt
Climbs_weaker low lower (x ∷ xs) h r = (omega arith, r.1)

-- a list that rises climbs
pub Climbs_from_rises : (low : ℕ) (xs : List ℕ) → Rises low xs → Climbs low xs
Climbs_from_rises low [] r = tt
Climbs_from_rises low (x ∷ xs) r = (r.0, Climbs_weaker (x + 1) x xs (omega arith) (Climbs_from_rises (x + 1) xs r.1))

-- the numbers of a range that pass a test rise
pub Rises-filter_range : (p : ℕ → Bool) (low n : ℕ) → Rises low (filter p (range_with_len low n))
Rises-filter_range p low zero = tt
Rises-filter_range p low (suc n) =
    let rest : Rises (low + 1) (filter p (range_with_len (low + 1) n)) = Rises-filter_range p (low + 1) n in
    cond_both (p low) (low ∷ filter p (range_with_len (low + 1) n)) (filter p (range_with_len (low + 1) n)) (Rises low)
    (λ _. (omega arith, rest))
    (λ _. Rises_weaker (low + 1) low (filter p (range_with_len (low + 1) n)) (omega arith) rest)

-- an element of a rising list is below the next one
pub increasing_at : (low : ℕ) (xs : List ℕ) (k : ℕ) → Rises low xs → k + 1 < length xs → get_or xs k 0 < get_or xs (k + 1) 0
increasing_at low [] k r h = absurd (omega arith)
increasing_at low (x ∷ []) k r h = absurd (omega arith)
increasing_at low (x ∷ y ∷ xs) zero r h = omega (arith, r.1.0)
increasing_at low (x ∷ y ∷ xs) (suc k) r h = rw add-one (rw add-one at (increasing_at (x + 1) (y ∷ xs) k r.1 (omega arith)))

-- a list that rises does so as std states it
pub increasing_from_rises : (low : ℕ) (xs : List ℕ) → Rises low xs → IsStrictlyIncreasing xs
increasing_from_rises low xs r = λ k h. increasing_at low xs k r h

-- a list that rises as std states it does so here
pub rises_from_increasing : (low : ℕ) (xs : List ℕ) → (0 < length xs → low ≤ get_or xs 0 0) → IsStrictlyIncreasing xs → Rises low xs
rises_from_increasing low [] h r = tt
rises_from_increasing low (x ∷ []) h r = (h (omega arith), tt)
rises_from_increasing low (x ∷ y ∷ xs) h r = (
  h (omega arith),
  rises_from_increasing (x + 1) (y ∷ xs) (λ _. omega (arith, r 0 (omega arith))) (λ k l. rw (add-one k) (rw (add-one (k + 1), add-one k) at (r (k + 1) (omega arith)))),
)

-- ranges

-- a range is its front followed by its rest
pub range-append : (a m n : ℕ) → range_with_len a (m + n) ≡ range_with_len a m ++ range_with_len (a + m) n
range-append a zero n = rw (zero-add, add-zero)
range-append a (suc m) n =
    let e : suc m + n ≡ suc (m + n) = omega arith in
    let f : a + suc m ≡ (a + 1) + m = omega arith in
    rw (e, f) (ap (λ l. a ∷ l) (range-append (a + 1) m n))

-- the numbers below `n + 1`, the greatest first
pub reverse_next : (n : ℕ) → reverse (range_with_len 0 (suc n)) ≡ n ∷ reverse (range_with_len 0 n)
reverse_next n =
    let next : suc n ≡ n + 1 = omega arith in
    ap (λ k. reverse (range_with_len 0 k)) next ∙ ap reverse (range-append 0 n 1) ∙ reverse-append (range_with_len 0 n) (range_with_len (0 + n) 1) ∙ rw (zero-add n) refl

-- functions that agree on the numbers of a range
pub map_range_agree : {Y : Type 0} (f g : ℕ → Y) (a n : ℕ) → ((k : ℕ) → a ≤ k → k < a + n → f k ≡ g k) → map f (range_with_len a n) ≡ map g (range_with_len a n)
map_range_agree f g a zero h = refl
map_range_agree f g a (suc n) h = ap₂ (λ y l. y ∷ l) (h a (omega arith) (omega arith)) (map_range_agree f g (a + 1) n (λ k l m. h k (omega arith) (omega arith)))

-- if a test passes no number of a range, the filter is empty
pub filter_range_none : (p : ℕ → Bool) (a n : ℕ) → ((k : ℕ) → a ≤ k → k < a + n → p k ≡ false) → filter p (range_with_len a n) ≡ []
filter_range_none p a zero h = refl
filter_range_none p a (suc n) h =
    rw (h a (omega arith) (omega arith)) (filter_range_none p (a + 1) n (λ k l m. h k (omega arith) (omega arith)))

-- if a test passes each number of a range, filtering by it changes nothing
pub filter_range_both : (p q : ℕ → Bool) (a n : ℕ) → ((k : ℕ) → a ≤ k → k < a + n → q k ≡ true) → filter q (filter p (range_with_len a n)) ≡ filter p (range_with_len a n)
filter_range_both p q a zero h = refl
filter_range_both p q a (suc n) h =
    let rest : filter q (filter p (range_with_len (a + 1) n)) ≡ filter p (range_with_len (a + 1) n) = filter_range_both p q (a + 1) n (λ k l m. h k (omega arith) (omega arith)) in
    let here : q a ≡ true = h a (omega arith) (omega arith) in
    cond_both (p a) (a ∷ filter p (range_with_len (a + 1) n)) (filter p (range_with_len (a + 1) n)) (λ l. filter q l ≡ l)
    (λ _. rw here (ap (λ l. a ∷ l) rest)) (λ _. rest)

-- a test that passes none of those numbers
pub filter_range_neither : (p q : ℕ → Bool) (a n : ℕ) → ((k : ℕ) → a ≤ k → k < a + n → q k ≡ false) → filter q (filter p (range_with_len a n)) ≡ []
filter_range_neither p q a zero h = refl
filter_range_neither p q a (suc n) h =
    let rest : filter q (filter p (range_with_len (a + 1) n)) ≡ [] = filter_range_neither p q (a + 1) n (λ k l m. h k (omega arith) (omega arith)) in
    let here : q a ≡ false = h a (omega arith) (omega arith) in
    cond_both (p a) (a ∷ filter p (range_with_len (a + 1) n)) (filter p (range_with_len (a + 1) n)) (λ l. filter q l ≡ [])
    (λ _. rw here rest) (λ _. rest)

-- what passes one test in one range is what passes another in another range, moved
pub filter_range_moved : (p q : ℕ → Bool) (f : ℕ → ℕ) (a b n : ℕ) → ((k : ℕ) → k < n → (p (a + k) ≡ q (b + k)) × (f (a + k) ≡ b + k)) → filter q (range_with_len b n) ≡ map f (filter p (range_with_len a n))
filter_range_moved p q f a b zero h = refl
filter_range_moved p q f a b (suc n) h =
    let rest : filter q (range_with_len (b + 1) n) ≡ map f (filter p (range_with_len (a + 1) n)) =
    filter_range_moved p q f (a + 1) (b + 1) n (λ k l. rw (add_assoc a 1 k, add_assoc b 1 k) (h (1 + k) (omega arith))) in
    let here : p a ≡ q b = rw (add-zero a, add-zero b) at (h 0 (omega arith)).0 in
    let there : f a ≡ b = rw (add-zero a, add-zero b) at (h 0 (omega arith)).1 in
    rw (← here, rest) (cond_both (p a) (a ∷ filter p (range_with_len (a + 1) n)) (filter p (range_with_len (a + 1) n)) (λ l. cond (p a) (b ∷ map f (filter p (range_with_len (a + 1) n))) (map f (filter p (range_with_len (a + 1) n))) ≡ map f l)
    (λ e. rw (e, there)) (λ e. rw e))

-- two tests that agree in a range keep the same
pub filter_range_agree : (p q : ℕ → Bool) (a n : ℕ) → ((k : ℕ) → a ≤ k → k < a + n → p k ≡ q k) → filter q (range_with_len a n) ≡ filter p (range_with_len a n)
filter_range_agree p q a n h =
    filter_range_moved p q (λ k. k) a a n (λ k l. (h (a + k) (omega arith) (omega arith), refl)) ∙ map-id (filter p (range_with_len a n))

-- how many numbers are at most x

-- the count of a list is that of its first element and that of the rest
pub count-cons : (p : ℕ → Bool) (x : ℕ) (xs : List ℕ) → count_by p (x ∷ xs) ≡ cond (p x) 1 0 + count_by p xs
count-cons p x xs = sum_by-cons (λ y. cond (p y) 1 0) x xs

-- if all elements are greater than x, none is at most x
pub count_none : (low x : ℕ) (xs : List ℕ) → Climbs low xs → x < low → count_by (λ s. leb s x) xs ≡ 0
count_none low x [] r h = refl
count_none low x (y ∷ ys) r h =
    let rest : count_by (λ s. leb s x) ys ≡ 0 = count_none y x ys r.1 (omega (arith, r.0)) in
    let no : leb y x ≡ false = lt-leb y x (omega (arith, r.0)) in
    rw (count-cons (λ s. leb s x) y ys, no, rest) refl

count_cons_le : (p : ℕ → Bool) (x : ℕ) (xs : List ℕ) → count_by p (x ∷ xs) ≤ 1 + count_by p xs
count_cons_le p x xs = rw (count-cons p x xs) (cond_both (p x) 1 0 (λ n. n + count_by p xs ≤ 1 + count_by p xs) (λ _. omega arith) (λ _. omega arith))

count_cons_yes : (p : ℕ → Bool) (x : ℕ) (xs : List ℕ) → p x ≡ true → count_by p (x ∷ xs) ≡ 1 + count_by p xs
count_cons_yes p x xs e = rw (count-cons p x xs, e) refl

-- each element is at least the bound
pub Climbs_at : (low : ℕ) (xs : List ℕ) (k : ℕ) → Climbs low xs → k < length xs → low ≤ get_or xs k 0
Climbs_at low [] k r h = absurd (omega arith)
Climbs_at low (x ∷ xs) zero r h = r.0
Climbs_at low (x ∷ xs) (suc k) r h = omega (arith, r.0, Climbs_at x xs k r.1 (omega arith))

-- in a climbing list, the elements before the count are at most x
pub count_front : (low x : ℕ) (xs : List ℕ) (k : ℕ) → Climbs low xs → k < count_by (λ s. leb s x) xs → get_or xs k 0 ≤ x
count_front low x [] k r h = absurd (omega arith)
count_front low x (y ∷ ys) zero r h =
    elim (cases_lt x y) [ inl above ↦ absurd (omega (arith, count_none y x (y ∷ ys) (omega arith, r.1) above)) | inr below ↦ below ]
count_front low x (y ∷ ys) (suc k) r h = count_front y x ys k r.1 (omega (arith, count_cons_le (λ s. leb s x) y ys))

-- .. and the others are greater than x
pub count_back : (low x : ℕ) (xs : List ℕ) (k : ℕ) → Climbs low xs → count_by (λ s. leb s x) xs ≤ k → k < length xs → x < get_or xs k 0
count_back low x [] k r h l = absurd (omega arith)
count_back low x (y ∷ ys) zero r h l =
    elim (cases_lt x y) [ inl above ↦ above | inr below ↦ absurd (omega (arith, count_cons_yes (λ s. leb s x) y ys (le-leb y x below))) ]
count_back low x (y ∷ ys) (suc k) r h l =
    elim (cases_lt x y) [
      | inl above ↦ omega (arith, Climbs_at y ys k r.1 (omega arith))
      | inr below ↦ count_back y x ys k r.1 (omega (arith, count_cons_yes (λ s. leb s x) y ys (le-leb y x below))) (omega arith)
    ]

-- .. and this determines the count
pub count_is : (low x : ℕ) (xs : List ℕ) (n : ℕ) → Climbs low xs → n ≤ length xs → (0 < n → get_or xs (n - 1) 0 ≤ x) → (n < length xs → x < get_or xs n 0) → count_by (λ s. leb s x) xs ≡ n
count_is low x xs n r l front back =
    elim (cases_order (count_by (λ s. leb s x) xs) n) [
      | inl e ↦ e
      | inr (inl less) ↦ absurd (omega (arith, front (omega arith), count_back low x xs (n - 1) r (omega arith) (omega arith)))
      | inr (inr more) ↦ absurd (omega (arith, back (omega (arith, count_by-le-length (λ s. leb s x) xs)), count_front low x xs n r more))
    ]

-- in a rising list, k + 1 elements are at most the element at k
pub count_at : (low : ℕ) (xs : List ℕ) (k : ℕ) → Rises low xs → k < length xs → count_by (λ s. leb s (get_or xs k 0)) xs ≡ k + 1
count_at low xs k r h =
    let e : k + 1 - 1 ≡ k = omega arith in
    count_is low (get_or xs k 0) xs (k + 1) (Climbs_from_rises low xs r) (omega arith) (λ _. rw e (le_refl (get_or xs k 0))) (λ l. increasing_at low xs k r l)

-- the count does not fall as x grows
pub count_monotone : (xs : List ℕ) (x y : ℕ) → x ≤ y → count_by (λ s. leb s x) xs ≤ count_by (λ s. leb s y) xs
count_monotone xs x y h = sum_by-le-sum_by (λ s. cond (leb s x) 1 0) (λ s. cond (leb s y) 1 0) xs (λ s. grind (arith, nat_tests))
