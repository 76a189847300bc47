-- Line starts after a change: those before it stay, those three bytes after it
-- or more move, and those between depend only on the bytes near it.
use Rattle.std.proofs.Common.{ℕ, ◌≡◌, ◌+◌, ◌-◌, ◌<◌, ◌≤◌, min, Bool, cond, List, [], ◌∷◌, ◌++◌, map, length, take, drop, filter, count_by, get_or, eqb, leb, ltb, slice_get, slice_range, sym, refl, ap, subst, ◌∙◌, inl, inr, arith, append-nil, append_assoc, zero-add, one-add}
use Rattle.std.specs.List.{range_with_len}
use Rattle.std.proofs.lemmas.Bool.{cases_lt, cases_eq, eq-eqb, ne_eqb, lt-ltb, le-ltb, le-leb, lt-leb}
use Rattle.std.proofs.lemmas.Bool.Decides.{nat_tests}
use Rattle.std.proofs.lemmas.List.{length-append, length-take-le, length-drop}
use Rattle.std.proofs.lemmas.List.Elements.{filter-append}
use Rattle.std.proofs.lemmas.List.Sums.{sum_by-le-sum_by}
use Rattle.ed_model.specs.declared.plan.LineEndTypes.{LineEndTypes}
use Rattle.ed_model.specs.Lines.{is_line_start, line_starts, line_of}
use Rattle.ed_model.specs.Steps.{Step, Insert, Delete, place_of, edited}
use Rattle.ed_model.specs.NeighbourLaws.{count_before, bytes_about, starts_about, starts_before, starts_from}
use Rattle.ed_model.specs.MergeLaws.{end_of, first_line_about, first_line_behind}
use Rattle.ed_model.specs.proved.Lists.{slice_get_append_left, slice_get_append_right, slice_get_take, slice_get_drop}
use Rattle.ed_model.specs.proved.Rising.{Climbs, Climbs_from_rises, count-cons, range-append, filter_range_both, filter_range_neither, filter_range_moved, filter_range_agree, count_at}
use Rattle.ed_model.specs.proved.Lines.{line_starts_rise, starts_in_range, same_start, local_start, moved_start_test, first_line_start, some_line}

-- the text in which `bytes` replace the range from `start` to `end`
abbrev pub replaced : ℕ → ℕ → List ℕ → List ℕ → List ℕ
replaced start end bytes text = take start text ++ bytes ++ drop end text

-- the bytes before the change stay
replaced_front : (start end : ℕ) (bytes text : List ℕ) (i : ℕ) → start ≤ length text → i < start → slice_get (replaced start end bytes text) i ≡ slice_get text i
replaced_front start end bytes text i h l =
    let size : length (take start text) ≡ start = length-take-le start text h in
    rw (append_assoc (take start text) bytes (drop end text)) (slice_get_append_left (take start text) (bytes ++ drop end text) i (omega arith) ∙ slice_get_take start text i l)

-- the inserted bytes are from `start` on
replaced_middle : (start end : ℕ) (bytes text : List ℕ) (i j : ℕ) → start ≤ length text → j ≡ start + i → i < length bytes → slice_get (replaced start end bytes text) j ≡ slice_get bytes i
replaced_middle start end bytes text i j h e l =
    let size : length (take start text) ≡ start = length-take-le start text h in
    rw (append_assoc (take start text) bytes (drop end text)) (slice_get_append_right (take start text) (bytes ++ drop end text) i j (omega arith) ∙ slice_get_append_left bytes (drop end text) i l)

-- after the inserted bytes come the bytes from `end` on
replaced_back : (start end : ℕ) (bytes text : List ℕ) (i j k : ℕ) → start ≤ length text → j ≡ start + length bytes + i → k ≡ end + i → slice_get (replaced start end bytes text) j ≡ slice_get text k
replaced_back start end bytes text i j k h e f =
    let size : length (take start text) ≡ start = length-take-le start text h in
    slice_get_append_right (take start text ++ bytes) (drop end text) i j (omega (arith, length-append (take start text) bytes)) ∙ slice_get_drop end text i k f

length_before : (start : ℕ) (text : List ℕ) → start ≤ length text → length (slice_range text (start - min start 3) start) ≡ min start 3
length_before start text h =
    length-take-le (start - (start - min start 3)) (drop (start - min start 3) text) (omega (arith, length-drop (start - min start 3) text)) ∙ omega arith

-- the bytes near the change are in the new text from three bytes before it on
about_is : (start end : ℕ) (bytes text : List ℕ) (i j : ℕ) → start ≤ length text → j ≡ (start - min start 3) + i → i < min start 3 + (length bytes + 3) → slice_get (bytes_about start end bytes text) i ≡ slice_get (replaced start end bytes text) j
about_is start end bytes text i j h e l =
    let before : List ℕ = slice_range text (start - min start 3) start in
    let behind : List ℕ = slice_range text end (end + 3) in
    let size : length before ≡ min start 3 = length_before start text h in
    elim (cases_lt i (min start 3)) [
      | inl front ↦
          rw (append_assoc before bytes behind)
          (slice_get_append_left before (bytes ++ behind) i (omega arith)
          ∙ slice_get_take (start - (start - min start 3)) (drop (start - min start 3) text) i (omega arith)
          ∙ slice_get_drop (start - min start 3) text i j e
          ∙ sym (replaced_front start end bytes text j h (omega arith)))
      | inr rest ↦ elim (cases_lt (i - min start 3) (length bytes)) [
        | inl middle ↦
            rw (append_assoc before bytes behind)
            (slice_get_append_right before (bytes ++ behind) (i - min start 3) i (omega arith)
            ∙ slice_get_append_left bytes behind (i - min start 3) middle
            ∙ sym (replaced_middle start end bytes text (i - min start 3) j h (omega arith) middle))
        | inr back ↦
            slice_get_append_right (before ++ bytes) behind (i - (min start 3 + length bytes)) i (omega (arith, length-append before bytes))
            ∙ slice_get_take (end + 3 - end) (drop end text) (i - (min start 3 + length bytes)) (omega arith)
            ∙ slice_get_drop end text (i - (min start 3 + length bytes)) (end + (i - (min start 3 + length bytes))) refl
            ∙ sym (replaced_back start end bytes text (i - (min start 3 + length bytes)) j (end + (i - (min start 3 + length bytes))) h (omega arith) refl)
      ]
    ]

-- line starts

-- the line starts are the places that pass the test, in any range that goes past the end of the text
starts_in : (types : LineEndTypes) (text : List ℕ) (m : ℕ) → length text + 1 ≤ m → filter (is_line_start types text) (range_with_len 0 m) ≡ line_starts types text
starts_in types text m h =
    let e : m ≡ length text + 1 + (m - (length text + 1)) = omega arith in
    rw e (starts_in_range types text (m - (length text + 1)))

-- the line starts before a place are the places before it that pass the test
pub starts_before_is : (types : LineEndTypes) (text : List ℕ) (p : ℕ) → starts_before p (line_starts types text) ≡ filter (is_line_start types text) (range_with_len 0 p)
starts_before_is types text p =
    let test : ℕ → Bool = is_line_start types text in
    rw (
      ← (starts_in types text (p + (length text + 1)) (omega arith)),
      range-append 0 p (length text + 1),
      zero-add p,
      filter-append test (range_with_len 0 p) (range_with_len p (length text + 1)),
      filter-append (λ s. ltb s p) (filter test (range_with_len 0 p)) (filter test (range_with_len p (length text + 1))),
      filter_range_both test (λ s. ltb s p) 0 p (λ k l m. lt-ltb k p (omega arith)),
      filter_range_neither test (λ s. ltb s p) p (length text + 1) (λ k l m. le-ltb k p l),
    )
    (append-nil (filter test (range_with_len 0 p)))

-- the line starts from a place on are the places from it on that pass the test, in any range that goes past the end of the text
pub starts_from_is : (types : LineEndTypes) (text : List ℕ) (p n : ℕ) → length text + 1 ≤ p + n → starts_from p (line_starts types text) ≡ filter (is_line_start types text) (range_with_len p n)
starts_from_is types text p n h =
    let test : ℕ → Bool = is_line_start types text in
    rw (
      ← (starts_in types text (p + n) h),
      range-append 0 p n,
      zero-add p,
      filter-append test (range_with_len 0 p) (range_with_len p n),
      filter-append (λ s. leb p s) (filter test (range_with_len 0 p)) (filter test (range_with_len p n)),
      filter_range_neither test (λ s. leb p s) 0 p (λ k l m. lt-leb p k (omega arith)),
      filter_range_both test (λ s. leb p s) p n (λ k l m. le-leb p k l),
    ) refl

-- a sum with min n 3 is zero exactly if the sum with n is
same_zero : (m n k : ℕ) → m ≡ min n 3 → eqb (m + k) 0 ≡ eqb (n + k) 0
same_zero m n k e =
    elim (cases_eq (n + k) 0) [
      | inl none ↦ eq-eqb (m + k) 0 (omega arith) ∙ sym (eq-eqb (n + k) 0 none)
      | inr some ↦ ne_eqb (m + k) 0 (λ z. some (omega arith)) ∙ sym (ne_eqb (n + k) 0 some)
    ]

-- the line starts near a change are the places from it to three bytes after it at which a line of the new text starts
pub starts_about_is : (types : LineEndTypes) (start end : ℕ) (bytes text : List ℕ) → start ≤ length text → starts_about types start end bytes text ≡ filter (is_line_start types (replaced start end bytes text)) (range_with_len start (length bytes + 3))
starts_about_is types start end bytes text h =
    let about : List ℕ = bytes_about start end bytes text in
    let new : List ℕ = replaced start end bytes text in
    sym (filter_range_moved (is_line_start types about) (is_line_start types new) (λ place. (start - min start 3) + place) (min start 3) start (length bytes + 3)
    (λ k l. (
      same_start types about new (min start 3 + k) (start + k) (same_zero (min start 3) start k refl)
          (about_is start end bytes text (min start 3 + k - 3) (start + k - 3) h (omega arith) (omega arith))
          (about_is start end bytes text (min start 3 + k - 2) (start + k - 2) h (omega arith) (omega arith))
          (about_is start end bytes text (min start 3 + k - 1) (start + k - 1) h (omega arith) (omega arith))
          (about_is start end bytes text (min start 3 + k) (start + k) h (omega arith) (omega arith)),
      omega arith,
    )))

three_parts : (t : ℕ → Bool) (a b c : ℕ) → filter t (range_with_len 0 (a + (b + c))) ≡ filter t (range_with_len 0 a) ++ filter t (range_with_len a b) ++ filter t (range_with_len (a + b) c)
three_parts t a b c =
    rw (range-append 0 a (b + c), zero-add a, range-append a b c, filter-append t (range_with_len 0 a) (range_with_len a b ++ range_with_len (a + b) c), filter-append t (range_with_len a b) (range_with_len (a + b) c))
    (sym (append_assoc (filter t (range_with_len 0 a)) (filter t (range_with_len a b)) (filter t (range_with_len (a + b) c))))

-- three bytes after the change and later, a line starts exactly where one started before
start_behind : (types : LineEndTypes) (start end : ℕ) (bytes text : List ℕ) (k i j : ℕ) → start ≤ length text → i ≡ end + k + 3 → j ≡ start + length bytes + k + 3 → is_line_start types text i ≡ is_line_start types (replaced start end bytes text) j
start_behind types start end bytes text k i j h e f =
    rw (e, f) (moved_start_test types text (replaced start end bytes text) (end + k) (start + length bytes + k)
    (λ m l. sym (replaced_back start end bytes text (k + m) (start + length bytes + k + m) (end + k + m) h (omega arith) (omega arith))))

-- the line starts after a change
pub starts_after : (types : LineEndTypes) (start end : ℕ) (bytes text : List ℕ) (f : ℕ → ℕ) → start ≤ length text → ((k : ℕ) → f (end + 3 + k) ≡ start + (length bytes + 3) + k) → line_starts types (replaced start end bytes text) ≡ starts_before start (line_starts types text) ++ starts_about types start end bytes text ++ map f (starts_from (end + 3) (line_starts types text))
starts_after types start end bytes text f h moves =
    let new : List ℕ = replaced start end bytes text in
    let many : ℕ = length text + length new + 1 in
    let before : filter (is_line_start types new) (range_with_len 0 start) ≡ starts_before start (line_starts types text) =
    filter_range_agree (is_line_start types text) (is_line_start types new) 0 start
    (λ k l m. local_start types text new k (λ j u v. sym (replaced_front start end bytes text j h (omega arith))))
    ∙ sym (starts_before_is types text start) in
    let behind : filter (is_line_start types new) (range_with_len (start + (length bytes + 3)) many) ≡ map f (starts_from (end + 3) (line_starts types text)) =
    filter_range_moved (is_line_start types text) (is_line_start types new) f (end + 3) (start + (length bytes + 3)) many
    (λ k l. (start_behind types start end bytes text k (end + 3 + k) (start + (length bytes + 3) + k) h (omega arith) (omega arith), moves k))
    ∙ ap (map f) (sym (starts_from_is types text (end + 3) many (omega arith))) in
    sym (starts_in types new (start + ((length bytes + 3) + many)) (omega arith))
    ∙ three_parts (is_line_start types new) start (length bytes + 3) many
    ∙ rw (before, behind, starts_about_is types start end bytes text h) refl

-- .. after an insertion
pub starts_after_insertion : (types : LineEndTypes) (p : ℕ) (bytes text : List ℕ) → p ≤ length text → line_starts types (edited (Insert p bytes) text) ≡ starts_before p (line_starts types text) ++ starts_about types p p bytes text ++ map (λ s. s + length bytes) (starts_from (p + 3) (line_starts types text))
starts_after_insertion types p bytes text h = starts_after types p p bytes text (λ s. s + length bytes) h (λ k. omega arith)

-- .. and after a deletion
pub starts_after_deletion : (types : LineEndTypes) (p : ℕ) (bytes text : List ℕ) → p ≤ length text → line_starts types (edited (Delete p bytes) text) ≡ starts_before p (line_starts types text) ++ starts_about types p (p + length bytes) [] text ++ map (λ s. s - length bytes) (starts_from (p + length bytes + 3) (line_starts types text))
starts_after_deletion types p bytes text h =
    rw (append-nil (take p text)) at (starts_after types p (p + length bytes) [] text (λ s. s - length bytes) h (λ k. omega arith))

-- the line starts near an insertion, by the test on the new text
pub starts_about_insertion : (types : LineEndTypes) (p : ℕ) (bytes text : List ℕ) → p ≤ length text → starts_about types p p bytes text ≡ filter (is_line_start types (edited (Insert p bytes) text)) (range_with_len p (length bytes + 3))
starts_about_insertion types p bytes text h = starts_about_is types p p bytes text h

-- the line starts near a deletion, by the test on the new text
pub starts_about_deletion : (types : LineEndTypes) (p : ℕ) (bytes text : List ℕ) → p ≤ length text → starts_about types p (p + length bytes) [] text ≡ filter (is_line_start types (edited (Delete p bytes) text)) (range_with_len p 3)
starts_about_deletion types p bytes text h = rw (append-nil (take p text)) at (starts_about_is types p (p + length bytes) [] text h)

-- if numbers climb from a place on, none is before it, and all are kept
none_before : (low place : ℕ) (xs : List ℕ) → Climbs low xs → place ≤ low → count_before place xs ≡ 0
none_before low place [] r h = refl
none_before low place (x ∷ xs) r h = rw (count-cons (λ s. ltb s place) x xs, le-ltb x place (omega (arith, r.0)), none_before x place xs r.1 (omega (arith, r.0))) refl

none_kept_before : (low place : ℕ) (xs : List ℕ) → Climbs low xs → place ≤ low → starts_before place xs ≡ []
none_kept_before low place [] r h = refl
none_kept_before low place (x ∷ xs) r h = rw (le-ltb x place (omega (arith, r.0))) (none_kept_before x place xs r.1 (omega (arith, r.0)))

all_kept_from : (low place : ℕ) (xs : List ℕ) → Climbs low xs → place ≤ low → starts_from place xs ≡ xs
all_kept_from low place [] r h = refl
all_kept_from low place (x ∷ xs) r h = rw (le-leb place x (omega (arith, r.0))) (ap (λ l. x ∷ l) (all_kept_from x place xs r.1 (omega (arith, r.0))))

-- if numbers climb, those below a place are the first ones
pub before_is_front : (low place : ℕ) (xs : List ℕ) → Climbs low xs → starts_before place xs ≡ take (count_before place xs) xs
before_is_front low place [] r = refl
before_is_front low place (x ∷ xs) r =
    elim (cases_lt x place) [
      | inl below ↦
          rw (count-cons (λ s. ltb s place) x xs, lt-ltb x place below, one-add (count_before place xs)) (ap (λ l. x ∷ l) (before_is_front x place xs r.1))
      | inr above ↦
          rw (count-cons (λ s. ltb s place) x xs, le-ltb x place above, none_before x place xs r.1 above) (none_kept_before x place xs r.1 above)
    ]

-- .. and those at or after it are the others
pub from_is_rest : (low place : ℕ) (xs : List ℕ) → Climbs low xs → starts_from place xs ≡ drop (count_before place xs) xs
from_is_rest low place [] r = refl
from_is_rest low place (x ∷ xs) r =
    elim (cases_lt x place) [
      | inl below ↦
          rw (count-cons (λ s. ltb s place) x xs, lt-ltb x place below, one-add (count_before place xs), lt-leb place x below) (from_is_rest x place xs r.1)
      | inr above ↦
          rw (count-cons (λ s. ltb s place) x xs, le-ltb x place above, none_before x place xs r.1 above, le-leb place x above) (ap (λ l. x ∷ l) (all_kept_from x place xs r.1 above))
    ]

-- this, for the line starts of a text before a place
pub starts_before_first : (types : LineEndTypes) (place : ℕ) (text : List ℕ) → starts_before place (line_starts types text) ≡ take (count_before place (line_starts types text)) (line_starts types text)
starts_before_first types place text = before_is_front 0 place (line_starts types text) (Climbs_from_rises 0 (line_starts types text) (line_starts_rise types text))

-- this, for the line starts of a text from a place on
pub starts_from_others : (types : LineEndTypes) (place : ℕ) (text : List ℕ) → starts_from place (line_starts types text) ≡ drop (count_before place (line_starts types text)) (line_starts types text)
starts_from_others types place text = from_is_rest 0 place (line_starts types text) (Climbs_from_rises 0 (line_starts types text) (line_starts_rise types text))

-- how many line starts are before a place, by the line of that place

-- a later place has at least as many line starts before it
pub count_before_monotone : (p q : ℕ) (xs : List ℕ) → p ≤ q → count_before p xs ≤ count_before q xs
count_before_monotone p q xs h = sum_by-le-sum_by (λ s. cond (ltb s p) 1 0) (λ s. cond (ltb s q) 1 0) xs (λ s. grind (arith, nat_tests))

-- each place but 0 has a line start before it
pub some_before : (p : ℕ) (xs : List ℕ) → 0 < length xs → get_or xs 0 0 ≡ 0 → 0 < p → 0 < count_before p xs
some_before p [] h e l = absurd (omega arith)
some_before p (x ∷ xs) h e l = rw (count-cons (λ s. ltb s p) x xs, lt-ltb x p (omega arith)) (omega arith)

-- tests that agree give the same count
pub count_agree : (p q : ℕ → Bool) (xs : List ℕ) → ((x : ℕ) → p x ≡ q x) → count_by p xs ≡ count_by q xs
count_agree p q [] h = refl
count_agree p q (x ∷ xs) h = rw (count-cons p x xs, count-cons q x xs, h x, count_agree p q xs h) refl

below_next : (s p q : ℕ) → q ≡ p + 1 → ltb s q ≡ leb s p
below_next s p q e = grind (arith, nat_tests)

count_before_next : (p q : ℕ) (xs : List ℕ) → q ≡ p + 1 → count_before q xs ≡ count_by (λ s. leb s p) xs
count_before_next p q xs e = count_agree (λ s. ltb s q) (λ s. leb s p) xs (λ s. below_next s p q e)

some_upto : (p : ℕ) (xs : List ℕ) → 0 < length xs → get_or xs 0 0 ≡ 0 → 0 < count_by (λ s. leb s p) xs
some_upto p [] h e = absurd (omega arith)
some_upto p (x ∷ xs) h e = rw (count-cons (λ s. leb s p) x xs, le-leb x p (omega arith)) (omega arith)

one_at_zero : (types : LineEndTypes) (text : List ℕ) → (count_before 1 (line_starts types text) ≡ 1) × (line_of (line_starts types text) 0 ≡ 0)
one_at_zero types text =
    let starts : List ℕ = line_starts types text in
    let one : count_by (λ s. leb s 0) starts ≡ 1 = subst (λ m. count_by (λ s. leb s m) starts ≡ 1) (first_line_start types text) (count_at 0 starts 0 (line_starts_rise types text) (some_line types text)) in
    (count_before_next 0 1 starts refl ∙ one, omega arith)

-- the first line near a step is that of the byte before it
pub first_line_about_is : (types : LineEndTypes) (step : Step) (text : List ℕ) → first_line_about step (line_starts types text) ≡ line_of (line_starts types text) (place_of step - 1)
first_line_about_is types step text =
    let starts : List ℕ = line_starts types text in
    elim (cases_lt 0 (place_of step)) [
      | inl some ↦ omega (arith, count_before_next (place_of step - 1) (place_of step) starts (omega arith))
      | inr least ↦
          let upto_one : count_before (place_of step) starts ≤ count_before 1 starts = count_before_monotone (place_of step) 1 starts (omega arith) in
          let zero_place : place_of step - 1 ≡ 0 = omega arith in
          rw zero_place (omega (arith, one_at_zero types text))
    ]

-- the first line after a step is the one after the line of the third byte after it
pub first_line_behind_is : (types : LineEndTypes) (step : Step) (text : List ℕ) → first_line_behind step (line_starts types text) ≡ line_of (line_starts types text) (end_of step + 2) + 1
first_line_behind_is types step text =
    omega (arith, count_before_next (end_of step + 2) (end_of step + 3) (line_starts types text) (omega arith), some_upto (end_of step + 2) (line_starts types text) (some_line types text) (first_line_start types text))
