-- Bytes of a text in two halves.
use Rattle.line_index.proofs.Names.{◌≡◌, ℕ, ◌+◌, ◌-◌, ◌<◌, ◌≤◌, Bool, true, false, ◌==◌, ◌||◌, ◌&&◌, not, take, List, ◌++◌, length, get_or, slice_range, inl, inr, refl, sym, ap, ◌∙◌, arith, length-append, ne_eqb, true≢false, cases_lt, cases_order, get_or-append-add, get_or-append, LineEndTypes, stands, is_line_start, knows_unicode, within_part, read_part, stands_at, bit_at, may_end, MarkStarts}

-- places without a line end before them

no_end_of : (a b u c d e n f g h : Bool) → (a || b || (u && (c || d || e))) ≡ false → (a || (b && n) || (u && ((c && f) || ((d || e) && g && h)))) ≡ false
no_end_of true b u c d e n f g h none = absurd (true≢false none)
no_end_of false true u c d e n f g h none = absurd (true≢false none)
no_end_of false false false c d e n f g h none = refl
no_end_of false false true true d e n f g h none = absurd (true≢false none)
no_end_of false false true false true e n f g h none = absurd (true≢false none)
no_end_of false false true false false true n f g h none = absurd (true≢false none)
no_end_of false false true false false false n f g h none = refl

-- a line starts behind the last byte of a line end only
pub no_start_behind : (types : LineEndTypes) (text : List ℕ) (p q : ℕ) → q ≡ p + 1 → p < length text → may_end types (get_or text p 0) ≡ false → is_line_start types text q ≡ false
no_start_behind types text p q e h none =
    let one : q - 1 ≡ p = omega arith in
    let some : (q == 0) ≡ false = ne_eqb q 0 (λ z. omega arith) in
    rw (some, one, stands_at 10 text p h, stands_at 13 text p h, stands_at 0x85 text p h, stands_at 0xA8 text p h, stands_at 0xA9 text p h)
    (no_end_of (get_or text p 0 == 10) (get_or text p 0 == 13) (knows_unicode types) (get_or text p 0 == 0x85) (get_or text p 0 == 0xA8) (get_or text p 0 == 0xA9)
    (not (stands 10 text q)) (stands 0xC2 text (q - 2)) (stands 0x80 text (q - 2)) (stands 0xE2 text (q - 3)) none)

-- no line starts from one place up to another
abbrev pub NoStart : LineEndTypes → List ℕ → ℕ → ℕ → Type 0
NoStart types text from to = (k : ℕ) → from ≤ k → k < to → is_line_start types text k ≡ false

-- no line starts behind the first bytes of a part of a text, if none of them is the last of a line end
none_in_part :
    (types : LineEndTypes) (text part : List ℕ) (place c : ℕ) → ((j : ℕ) → j < length part → (place + j < length text) × (get_or text (place + j) 0 ≡ get_or part j 0))
    → c ≤ length part → ((k : ℕ) → k < c → may_end types (get_or part k 0) ≡ false) → (k : ℕ) → place < k → k < place + c + 1 → is_line_start types text k ≡ false
none_in_part types text part place c reads l quiet k a b =
    let j : ℕ = k - 1 - place in
    let r = reads j (omega arith) in
    no_start_behind types text (place + j) k (omega arith) r.0 (rw r.1 (quiet j (omega arith)))

-- .. of a part of the first half
pub none_in_first : (types : LineEndTypes) (xs ys : List ℕ) (from to c : ℕ) → c ≤ length (slice_range xs from to) → ((k : ℕ) → k < c → may_end types (get_or (slice_range xs from to) k 0) ≡ false) → (k : ℕ) → from < k → k < from + c + 1 → is_line_start types (xs ++ ys) k ≡ false
none_in_first types xs ys from to c =
    none_in_part types (xs ++ ys) (slice_range xs from to) from c
    (λ j h. let w = (within_part xs from to j h).1 in (omega (arith, w, length-append xs ys), get_or-append xs ys 0 (from + j) w ∙ sym (read_part xs from to j h)))

-- .. and of the second
pub none_in_second : (types : LineEndTypes) (xs ys : List ℕ) (from to c place : ℕ) → place ≡ length xs + from → c ≤ length (slice_range ys from to) → ((k : ℕ) → k < c → may_end types (get_or (slice_range ys from to) k 0) ≡ false) → (k : ℕ) → place < k → k < place + c + 1 → is_line_start types (xs ++ ys) k ≡ false
none_in_second types xs ys from to c place p =
    none_in_part types (xs ++ ys) (slice_range ys from to) place c
    (λ j h. let w = (within_part ys from to j h).1 in let at : place + j ≡ length xs + (from + j) = omega arith in (omega (arith, w, length-append xs ys), rw at (get_or-append-add xs ys (from + j) 0) ∙ sym (read_part ys from to j h)))

-- no line starts behind the bytes of the rest of the first half and a part of the second
pub none_across :
    (types : LineEndTypes) (xs ys : List ℕ) (from c to d : ℕ) → from ≤ length xs → c ≤ length (slice_range xs from (length xs)) → length xs ≤ from + c
    → ((k : ℕ) → k < c → may_end types (get_or (slice_range xs from (length xs)) k 0) ≡ false)
    → d ≤ length (take to ys) → ((k : ℕ) → k < d → may_end types (get_or (take to ys) k 0) ≡ false)
    → (k : ℕ) → from < k → k < length xs + d + 1 → is_line_start types (xs ++ ys) k ≡ false
none_across types xs ys from c to d f l e quiet m later k a b =
    let whole : slice_range ys 0 to ≡ take to ys = ap (λ n. take n ys) (let e : to - 0 ≡ to = omega arith in e) in
    elim (cases_lt (length xs) k) [
      | inl past ↦ none_in_second types xs ys 0 to d (length xs) (omega arith) (rw whole m) (rw whole later) k past b
      | inr here ↦ none_in_first types xs ys from (length xs) c l quiet k a (omega arith)
    ]

-- one more part in which no line starts
pub none_on : (types : LineEndTypes) (text : List ℕ) (from place next : ℕ) → NoStart types text from place → is_line_start types text place ≡ false → ((k : ℕ) → place < k → k < next → is_line_start types text k ≡ false) → NoStart types text from next
none_on types text from place next front here behind k a b =
    elim (cases_order k place) [
      | inl same ↦ rw same here
      | inr (inl below) ↦ front k a below
      | inr (inr above) ↦ behind k above b
    ]

-- marks of bytes of the first half show where no line starts behind them
pub marked_in_first :
    (types : LineEndTypes) (xs ys : List ℕ) (at place marks : ℕ) → place ≡ at + 1 → at + 64 ≤ length xs
    → ((k : ℕ) → k < 64 → bit_at marks k ≡ 0 → may_end types (get_or xs (at + k) 0) ≡ false) → MarkStarts types (xs ++ ys) place marks
marked_in_first types xs ys at place marks e l unmarked k b clear =
    no_start_behind types (xs ++ ys) (at + k) (place + k) (omega arith) (omega (arith, length-append xs ys)) (rw (get_or-append xs ys 0 (at + k) (omega arith)) (unmarked k b clear))

-- marks of bytes of the second half do, too
pub marked_in_second :
    (types : LineEndTypes) (xs ys : List ℕ) (at place marks : ℕ) → place ≡ length xs + at + 1 → at + 64 ≤ length ys
    → ((k : ℕ) → k < 64 → bit_at marks k ≡ 0 → may_end types (get_or ys (at + k) 0) ≡ false) → MarkStarts types (xs ++ ys) place marks
marked_in_second types xs ys at place marks e l unmarked k b clear =
    no_start_behind types (xs ++ ys) (length xs + (at + k)) (place + k) (omega arith) (omega (arith, length-append xs ys)) (rw (get_or-append-add xs ys (at + k) 0) (unmarked k b clear))
