-- Lists of line starts: those from one place up to another, and how many these are.
use Rattle.line_index.proofs.Names.{◌≡◌, ℕ, zero, suc, ◌+◌, ◌-◌, ◌<◌, ◌≤◌, Bool, true, false, cond, List, [], ◌∷◌, ◌++◌, length, get_or, filter, refl, sym, ap, ◌∙◌, arith, range_with_len, LineEndTypes, is_line_start, line_starts, line_count, line_of, count_before, count_agree, some_before, some_line, first_line_start, leb, ltb, nat_tests, length-append, range-append, filter_range_none, starts_within}
use Rattle.std.proofs.lemmas.List.Elements.{filter-append}
use Rattle.std.proofs.lemmas.List.Sums.{length-filter}
use Rattle.ed_model.specs.proved.Lines.{starts_in_range}
use Rattle.ed_model.specs.proved.Neighbours.{starts_before_is}

-- the places from one up to another that pass a test
abbrev pub passing : (ℕ → Bool) → ℕ → ℕ → List ℕ
passing t from to = filter t (range_with_len from (to - from))

lie_more :
    (b : Bool) (a n k : ℕ) (rest : List ℕ) → ((j : ℕ) → j < length rest → (a + 1 ≤ get_or rest j 0) × (get_or rest j 0 < a + 1 + n))
    → k < length (cond b (a ∷ rest) rest) → (a ≤ get_or (cond b (a ∷ rest) rest) k 0) × (get_or (cond b (a ∷ rest) rest) k 0 < a + suc n)
lie_more true a n zero rest lie h = (omega arith, omega arith)
lie_more true a n (suc k) rest lie h = let l = lie k (omega arith) in (omega arith, omega arith)
lie_more false a n k rest lie h = let l = lie k h in (omega arith, omega arith)

-- the numbers of a range that pass a test lie in the range
passing_lie : (p : ℕ → Bool) (a n k : ℕ) → k < length (filter p (range_with_len a n)) → (a ≤ get_or (filter p (range_with_len a n)) k 0) × (get_or (filter p (range_with_len a n)) k 0 < a + n)
passing_lie p a zero k h = absurd (omega arith)
passing_lie p a (suc n) k h = lie_more (p a) a n k (filter p (range_with_len (a + 1) n)) (λ j l. passing_lie p (a + 1) n j l) h

-- so those from one place up to another lie there
pub lie_between : (t : ℕ → Bool) (from to k : ℕ) → from ≤ to → k < length (passing t from to) → (from ≤ get_or (passing t from to) k 0) × (get_or (passing t from to) k 0 < to)
lie_between t from to k o h = let lie = passing_lie t from (to - from) k h in (lie.0, omega (arith, lie.1))

-- those between places, split in two
pub passing_apart : (t : ℕ → Bool) (from mid to : ℕ) → from ≤ mid → mid ≤ to → passing t from to ≡ passing t from mid ++ passing t mid to
passing_apart t from mid to a b =
    let e : to - from ≡ (mid - from) + (to - mid) = omega arith in
    let f : from + (mid - from) ≡ mid = omega arith in
    rw (e, range-append from (mid - from) (to - mid), f) (filter-append t (range_with_len from (mid - from)) (range_with_len mid (to - mid)))

pub none_passing : (t : ℕ → Bool) (from to : ℕ) → ((k : ℕ) → from ≤ k → k < to → t k ≡ false) → passing t from to ≡ []
none_passing t from to none = filter_range_none t from (to - from) (λ k a b. none k a (omega arith))

pub one_passing : (t : ℕ → Bool) (place : ℕ) → t place ≡ true → passing t place (place + 1) ≡ place ∷ []
one_passing t place e =
    let one : place + 1 - place ≡ 1 = omega arith in
    rw (one, e) refl

-- likewise the line starts
pub starts_apart : (types : LineEndTypes) (text : List ℕ) (from mid to : ℕ) → from ≤ mid → mid ≤ to → starts_within types text from to ≡ starts_within types text from mid ++ starts_within types text mid to
starts_apart types text = passing_apart (is_line_start types text)

pub no_starts : (types : LineEndTypes) (text : List ℕ) (from to : ℕ) → ((k : ℕ) → from ≤ k → k < to → is_line_start types text k ≡ false) → starts_within types text from to ≡ []
no_starts types text = none_passing (is_line_start types text)

pub one_start : (types : LineEndTypes) (text : List ℕ) (place : ℕ) → is_line_start types text place ≡ true → starts_within types text place (place + 1) ≡ place ∷ []
one_start types text = one_passing (is_line_start types text)

-- how many these are
pub count_apart : (types : LineEndTypes) (text : List ℕ) (from mid to : ℕ) → from ≤ mid → mid ≤ to → length (starts_within types text from to) ≡ length (starts_within types text from mid) + length (starts_within types text mid to)
count_apart types text from mid to a b = ap length (starts_apart types text from mid to a b) ∙ length-append (starts_within types text from mid) (starts_within types text mid to)

-- how many lines start at a place
abbrev pub one_if : Bool → ℕ
one_if b = cond b 1 0

pub at_most_one : (b : Bool) → one_if b ≤ 1
at_most_one true = omega arith
at_most_one false = omega arith

pub count_at : (types : LineEndTypes) (text : List ℕ) (k : ℕ) → length (starts_within types text k (k + 1)) ≡ one_if (is_line_start types text k)
count_at types text k = here (is_line_start types text k) refl
  where
    here : (b : Bool) → is_line_start types text k ≡ b → length (starts_within types text k (k + 1)) ≡ one_if b
    here true e = ap length (one_start types text k e)
    here false e = ap length (no_starts types text k (k + 1) (λ j a b. let same : j ≡ k = omega arith in rw same e))

-- how many lines start before a place
abbrev pub up_to : LineEndTypes → List ℕ → ℕ → ℕ
up_to types text p = length (starts_within types text 0 p)

pub next_up_to : (types : LineEndTypes) (text : List ℕ) (p next : ℕ) → next ≡ p + 1 → up_to types text next ≡ up_to types text p + one_if (is_line_start types text p)
next_up_to types text p next e = rw e (omega (arith, count_apart types text 0 p (p + 1) (omega arith) (omega arith), count_at types text p))

pub more_up_to : (types : LineEndTypes) (text : List ℕ) (p q : ℕ) → p ≤ q → up_to types text p ≤ up_to types text q
more_up_to types text p q h = omega (arith, count_apart types text 0 p q (omega arith) h)

pub count_is_up_to : (types : LineEndTypes) (text : List ℕ) (p : ℕ) → count_before p (line_starts types text) ≡ up_to types text p
count_is_up_to types text p =
    let all : p - 0 ≡ p = omega arith in
    rw all (sym (length-filter (λ s. ltb s p) (line_starts types text)) ∙ ap length (starts_before_is types text p))

-- as many lines start before a place as there are up to that of the place before it
pub line_is_before : (types : LineEndTypes) (text : List ℕ) (p next : ℕ) → next ≡ p + 1 → count_before next (line_starts types text) ≡ line_of (line_starts types text) p + 1
line_is_before types text p next e =
    let starts : List ℕ = line_starts types text in
    let same = count_agree (λ x. ltb x next) (λ x. leb x p) starts (λ x. grind (arith, nat_tests)) in
    omega (arith, same, some_before next starts (some_line types text) (first_line_start types text) (omega arith))

pub line_is_up_to : (types : LineEndTypes) (text : List ℕ) (p : ℕ) → line_of (line_starts types text) p + 1 ≡ up_to types text (p + 1)
line_is_up_to types text p = sym (line_is_before types text p (p + 1) refl) ∙ count_is_up_to types text (p + 1)

-- all starts of a text, also up to a place behind its end
pub all_within : (types : LineEndTypes) (text : List ℕ) → line_starts types text ≡ starts_within types text 0 (length text + 1)
all_within types text = let e : length text + 1 - 0 ≡ length text + 1 = omega arith in rw e refl

pub all_up_to : (types : LineEndTypes) (text : List ℕ) (p n : ℕ) → p ≡ length text + 1 + n → line_count types text ≡ up_to types text p
all_up_to types text p n e =
    let all : p - 0 ≡ length text + 1 + n = omega arith in
    rw all (sym (ap length (starts_in_range types text n)))
