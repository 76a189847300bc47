-- The number of lines of a converted text.
use Rattle.run_laws.proofs.Names.{◌≡◌, ℕ, zero, suc, ◌+◌, ◌-◌, ◌≤◌, Bool, true, false, cond, ◌==◌, ◌||◌, ◌&&◌, List, [], ◌∷◌, ◌++◌, length, filter, slice_get, refl, ap, ◌∙◌, sym, arith, not, range_with_len, and_right, eqb-true, ne_eqb, LineEnd, CrLf, Cr, Lf, LineEndTypes, is_line_start, line_count, knows_unicode, line_end_bytes, begins_with_line_feed, converted_after, converted, same_start, HasOnly, LineCountStays}
use Rattle.run_laws.proofs.LineEndKinds.{only_after, first_byte}
use Rattle.run_laws.proofs.LineEndLemmas.{by_byte, other_converted}

-- Line ends, counted byte by byte. The bytes before a byte count only by three tests: the byte just before it is C2 (`nel`) or E2
-- (`lead`), or the two before it are E2 80 (`pair`).

-- whether a line ends after the byte
abbrev ends_with : LineEndTypes → Bool → Bool → ℕ → List ℕ → Bool
ends_with types nel pair b bs =
    ((b == 10) || ((b == 13) && not (begins_with_line_feed bs)))
    || ((((b == 0x85) && nel) || (((b == 0xA8) || (b == 0xA9)) && pair)) && knows_unicode types)

abbrev ends : LineEndTypes → Bool → Bool → Bool → List ℕ → ℕ
ends types nel lead pair [] = 0
ends types nel lead pair (b ∷ bs) = cond (ends_with types nel pair b bs) 1 0 + ends types (b == 0xC2) (b == 0xE2) ((b == 0x80) && lead) bs

-- Lines start at 0 and after each line end.

-- the test of a line start, with the bytes before it in the order of `ends_with`
reordered : (a r f g k u n w p q : Bool) → f ≡ g
    → ((a || (r && not f)) || (k && ((u && n) || ((w && p) && q)))) ≡ ((a || (r && not g)) || (((u && n) || (w && (p && q))) && k))
reordered a r f g k u n w p q e = ap (λ c. (a || (r && not c)) || (k && ((u && n) || ((w && p) && q)))) e ∙ ap (λ c. (a || (r && not g)) || c) (turned k w)
  where
    and_true : (x : Bool) → x ≡ (x && true)
    and_true true = refl
    and_true false = refl

    turned : (k w : Bool) → (k && ((u && n) || ((w && p) && q))) ≡ (((u && n) || (w && (p && q))) && k)
    turned true true = and_true ((u && n) || (p && q))
    turned true false = and_true ((u && n) || false)
    turned false w = sym (and_right ((u && n) || (w && (p && q))) false refl)

-- a byte is not two numbers
never_both : (b m n : ℕ) → (m == n) ≡ false → ((b == m) && (b == n)) ≡ ((b == m) && false)
never_both b m n differ = go (b == m) refl
  where
    go : (x : Bool) → (b == m) ≡ x → (x && (b == n)) ≡ (x && false)
    go true e = ap (λ c. c == n) (eqb-true b m e) ∙ differ
    go false e = refl

-- a line starts after the first byte if a line ends there
at_one : (types : LineEndTypes) (b : ℕ) (bs : List ℕ) → is_line_start types (b ∷ bs) 1 ≡ ends_with types false false b bs
at_one types b bs =
    reordered (b == 10) (b == 13) _ _ (knows_unicode types) (b == 0x85) (b == 0xC2) ((b == 0xA8) || (b == 0xA9)) (b == 0x80) (b == 0xE2) (sym (first_byte bs))
    ∙ ap (λ c. ((b == 10) || ((b == 13) && not (begins_with_line_feed bs))) || ((c || (((b == 0xA8) || (b == 0xA9)) && ((b == 0x80) && (b == 0xE2)))) && knows_unicode types)) (never_both b 0x85 0xC2 refl)
    ∙ ap (λ c. ((b == 10) || ((b == 13) && not (begins_with_line_feed bs))) || ((((b == 0x85) && false) || (((b == 0xA8) || (b == 0xA9)) && c)) && knows_unicode types))
    (never_both b 0x80 0xE2 refl ∙ and_right (b == 0x80) false refl)

-- .. and so after the second one
at_two : (types : LineEndTypes) (x b : ℕ) (bs : List ℕ) → is_line_start types (x ∷ b ∷ bs) 2 ≡ ends_with types (x == 0xC2) ((x == 0x80) && false) b bs
at_two types x b bs =
    reordered (b == 10) (b == 13) _ _ (knows_unicode types) (b == 0x85) (x == 0xC2) ((b == 0xA8) || (b == 0xA9)) (x == 0x80) (x == 0xE2) (sym (first_byte bs))
    ∙ ap (λ c. ((b == 10) || ((b == 13) && not (begins_with_line_feed bs))) || ((((b == 0x85) && (x == 0xC2)) || (((b == 0xA8) || (b == 0xA9)) && c)) && knows_unicode types)) (never_both x 0x80 0xE2 refl)

-- .. and after the third one
at_three : (types : LineEndTypes) (x y b : ℕ) (bs : List ℕ) → is_line_start types (x ∷ y ∷ b ∷ bs) 3 ≡ ends_with types (y == 0xC2) ((y == 0x80) && (x == 0xE2)) b bs
at_three types x y b bs =
    reordered (b == 10) (b == 13) _ _ (knows_unicode types) (b == 0x85) (y == 0xC2) ((b == 0xA8) || (b == 0xA9)) (y == 0x80) (x == 0xE2) (sym (first_byte bs))

-- after that a line starts where one starts in the text without its first byte
one_on : (types : LineEndTypes) (x : ℕ) (text : List ℕ) (k : ℕ) → 3 ≤ k → is_line_start types (x ∷ text) (k + 1) ≡ is_line_start types text k
one_on types x text k h =
    let here : k + 1 ≡ suc k = omega arith in
    let one : k + 1 - 1 ≡ suc (k - 1) = omega arith in
    let two : k + 1 - 2 ≡ suc (k - 2) = omega arith in
    let three : k + 1 - 3 ≡ suc (k - 3) = omega arith in
    same_start types (x ∷ text) text (k + 1) k (ne_eqb (k + 1) 0 (λ e. omega arith) ∙ sym (ne_eqb k 0 (λ e. omega arith)))
    (ap (slice_get (x ∷ text)) three) (ap (slice_get (x ∷ text)) two) (ap (slice_get (x ∷ text)) one) (ap (slice_get (x ∷ text)) here)

-- one place more that is tested
counted_more : (P : ℕ → Bool) (a n m : ℕ) (c : Bool) → P a ≡ c → length (filter P (range_with_len (a + 1) n)) ≡ m → length (filter P (range_with_len a (suc n))) ≡ cond c 1 0 + m
counted_more P a n m c here rest = ap (λ b. length (cond b (a ∷ filter P (range_with_len (a + 1) n)) (filter P (range_with_len (a + 1) n)))) here ∙ go c rest
  where
    go : (c : Bool) → length (filter P (range_with_len (a + 1) n)) ≡ m → length (cond c (a ∷ filter P (range_with_len (a + 1) n)) (filter P (range_with_len (a + 1) n))) ≡ cond c 1 0 + m
    go true h = omega arith
    go false h = omega arith

-- the places of a range, all moved by one
moved_by_one : (P Q : ℕ → Bool) (n a : ℕ) → ((k : ℕ) → a ≤ k → P (k + 1) ≡ Q k) → length (filter P (range_with_len (a + 1) n)) ≡ length (filter Q (range_with_len a n))
moved_by_one P Q zero a h = refl
moved_by_one P Q (suc n) a h =
    counted_more P (a + 1) n (length (filter Q (range_with_len (a + 1) n))) (Q a) (h a (omega arith)) (moved_by_one P Q n (a + 1) (λ k l. h k (omega arith)))
    ∙ sym (counted_more Q a n (length (filter Q (range_with_len (a + 1) n))) (Q a) refl refl)

-- the starts behind two bytes
starts_behind : (types : LineEndTypes) (x y : ℕ) (text : List ℕ)
    → length (filter (is_line_start types (x ∷ y ∷ text)) (range_with_len 3 (length text))) ≡ ends types (y == 0xC2) (y == 0xE2) ((y == 0x80) && (x == 0xE2)) text
starts_behind types x y [] = refl
starts_behind types x y (b ∷ bs) =
    counted_more (is_line_start types (x ∷ y ∷ b ∷ bs)) 3 (length bs) (ends types (b == 0xC2) (b == 0xE2) ((b == 0x80) && (y == 0xE2)) bs) _ (at_three types x y b bs)
    (moved_by_one (is_line_start types (x ∷ y ∷ b ∷ bs)) (is_line_start types (y ∷ b ∷ bs)) (length bs) 3 (λ k h. one_on types x (y ∷ b ∷ bs) k h) ∙ starts_behind types y b bs)

later_starts : (types : LineEndTypes) (text : List ℕ) → length (filter (is_line_start types text) (range_with_len 1 (length text))) ≡ ends types false false false text
later_starts types [] = refl
later_starts types (x ∷ []) = counted_more (is_line_start types (x ∷ [])) 1 0 0 _ (at_one types x []) refl
later_starts types (x ∷ y ∷ bs) =
    counted_more (is_line_start types (x ∷ y ∷ bs)) 1 (suc (length bs)) _ _ (at_one types x (y ∷ bs))
    (counted_more (is_line_start types (x ∷ y ∷ bs)) 2 (length bs) _ _ (at_two types x y bs) (starts_behind types x y bs))

lines_are_counted : (types : LineEndTypes) (text : List ℕ) → line_count types text ≡ 1 + ends types false false false text
lines_are_counted types text =
    let next : length text + 1 ≡ suc (length text) = omega arith in
    let first : line_count types text ≡ 1 + length (filter (is_line_start types text) (range_with_len 1 (length text))) = rw next (omega arith) in
    first ∙ ap (λ n. 1 + n) (later_starts types text)

-- A conversion keeps the number of line ends.

one_end : (types : LineEndTypes) (to : LineEnd) (nel lead pair : Bool) (bs : List ℕ) → HasOnly to bs
    → ends types nel lead pair (line_end_bytes to ++ bs) ≡ 1 + ends types false false false bs
one_end types CrLf nel lead pair bs only = omega arith
one_end types Cr nel lead pair bs only = ap (λ c. cond (not c || false) 1 0 + ends types false false false bs) (first_byte bs ∙ only 0)
one_end types Lf nel lead pair bs only = refl

-- whether a line ends after a byte that is no CR does not depend on the bytes behind it
no_return : (types : LineEndTypes) (nel pair : Bool) (b : ℕ) (xs ys : List ℕ) → (b == 13) ≡ false → ends_with types nel pair b xs ≡ ends_with types nel pair b ys
no_return types nel pair b xs ys n = rw n refl

-- Whatever stands before a text, its conversion has as many line ends. After a CR, an LF at its start was counted with that CR.
abbrev Kept : LineEndTypes → LineEnd → List ℕ → Type 0
Kept types to text =
    ((nel lead pair : Bool) → ends types nel lead pair (converted_after false to text) ≡ ends types nel lead pair text)
    × (ends types false false false (converted_after true to text) + cond (begins_with_line_feed text) 1 0 ≡ ends types false false false text)

ends_kept : (types : LineEndTypes) (to : LineEnd) (text : List ℕ) → Kept types to text
ends_kept types to [] = ((λ nel lead pair. refl), refl)
ends_kept types to (b ∷ bs) = by_byte (λ c. Kept types to (c ∷ bs)) b (feed (ends_kept types to bs)) (return (ends_kept types to bs)) (λ e n. other e n (ends_kept types to bs))
  where
    feed : Kept types to bs → Kept types to (10 ∷ bs)
    feed h = (
      (λ nel lead pair. one_end types to nel lead pair (converted_after false to bs) (only_after to bs false) ∙ ap (λ n. 1 + n) (h.0 false false false)),
      (let k = h.0 false false false in omega arith),
    )

    behind : (z : Bool) → ends types false false false (converted_after true to bs) + cond z 1 0 ≡ ends types false false false bs
        → 1 + ends types false false false (converted_after true to bs) ≡ cond (not z || false) 1 0 + ends types false false false bs
    behind true h = omega arith
    behind false h = omega arith

    and_nothing : (m n : ℕ) → m ≡ n → m + 0 ≡ n
    and_nothing m n same = omega arith

    return : Kept types to bs → Kept types to (13 ∷ bs)
    return h = (all, and_nothing _ _ (all false false false))
      where
        all : (nel lead pair : Bool) → ends types nel lead pair (line_end_bytes to ++ converted_after true to bs) ≡ ends types nel lead pair (13 ∷ bs)
        all nel lead pair = one_end types to nel lead pair (converted_after true to bs) (only_after to bs true) ∙ behind (begins_with_line_feed bs) h.1

    other : (b == 10) ≡ false → (b == 13) ≡ false → Kept types to bs → Kept types to (b ∷ bs)
    other e n h = (all false, ap (λ c. ends types false false false (converted_after true to (b ∷ bs)) + cond c 1 0) e ∙ and_nothing _ _ (all true false false false))
      where
        all : (f nel lead pair : Bool) → ends types nel lead pair (converted_after f to (b ∷ bs)) ≡ ends types nel lead pair (b ∷ bs)
        all f nel lead pair =
            let rest : List ℕ = converted_after false to bs in
            ap (ends types nel lead pair) (other_converted f to b bs e n)
            ∙ ap (λ c. cond c 1 0 + ends types (b == 0xC2) (b == 0xE2) ((b == 0x80) && lead) rest) (no_return types nel pair b rest bs n)
            ∙ ap (λ m. cond (ends_with types nel pair b bs) 1 0 + m) (h.0 (b == 0xC2) (b == 0xE2) ((b == 0x80) && lead))

pub line_count_stays : LineCountStays
line_count_stays to types text =
    lines_are_counted types (converted to text) ∙ ap (λ n. 1 + n) ((ends_kept types to text).0 false false false) ∙ sym (lines_are_counted types text)
