-- The unwanted bytes of a text in which nothing is missing.
use Rattle.line_ends.proofs.Names.{◌≡◌, ℕ, ◌+◌, Bool, true, false, cond, ◌==◌, ◌||◌, ◌&&◌, List, [], ◌∷◌, ◌++◌, length, refl, ap, ◌∙◌, sym, arith, count_by, not, or_from, and_right, LineEnd, CrLf, Cr, Lf, begins_with_line_feed, lacks_return, lacks_feed, is_unwanted, unwanted_at, place_after, unwanted_from, put, filled, fills, still_feed, completed}
use Rattle.std.proofs.lemmas.List.Recursion.{is_count_by}
use Rattle.std.proofs.lemmas.List.Sums.{sum_by-append}

completed_is : (to : LineEnd) (text : List ℕ) → completed to text ≡ filled false to text
completed_is to text = fills to text false 0 [] refl

-- If CRLF is wanted, nothing is unwanted.

pub none_unwanted : (text : List ℕ) (f : Bool) (p : ℕ) → unwanted_from p f CrLf text ≡ []
none_unwanted [] f p = refl
none_unwanted (b ∷ bs) f p =
    let none : is_unwanted f CrLf b bs ≡ false =
    or_from ((b == 13) && begins_with_line_feed bs && false) ((b == 10) && f && false) (and_right ((b == 13) && begins_with_line_feed bs) false refl) (and_right ((b == 10) && f) false refl) in
    ap (λ u. unwanted_at p b u ++ unwanted_from (place_after p u) (b == 13) CrLf bs) none ∙ none_unwanted bs (b == 13) (p + 1)

pub none_of_both : (text : List ℕ) → length (unwanted_from 0 false CrLf (completed CrLf text)) ≡ 0
none_of_both text = ap length (none_unwanted (completed CrLf text) false 0)

-- How often a byte occurs in a text.

abbrev many : ℕ → List ℕ → ℕ
many byte [] = 0
many byte (b ∷ bs) = cond (b == byte) 1 0 + many byte bs

many_is : (byte : ℕ) (bs : List ℕ) → many byte bs ≡ count_by (λ x. x == byte) bs
many_is byte bs = is_count_by (many byte) (λ x. x == byte) refl (λ x xs. go (x == byte) (many byte xs)) bs
  where
    go : (c : Bool) (n : ℕ) → cond c 1 0 + n ≡ cond c (1 + n) n
    go true n = refl
    go false n = omega arith

-- If CR is wanted, each LF is unwanted.

-- one more byte, which is unwanted or not
counted : (to : LineEnd) (b : ℕ) (bs : List ℕ) (p n : ℕ) (f u : Bool) → is_unwanted f to b bs ≡ u → ((q : ℕ) → length (unwanted_from q (b == 13) to bs) ≡ n)
    → length (unwanted_from p f to (b ∷ bs)) ≡ cond u 1 0 + n
counted to b bs p n f u e rest =
    ap (λ v. length (unwanted_at p b v ++ unwanted_from (place_after p v) (b == 13) to bs)) e ∙ go u
  where
    go : (v : Bool) → length (unwanted_at p b v ++ unwanted_from (place_after p v) (b == 13) to bs) ≡ cond v 1 0 + n
    go true = let r = rest p in omega arith
    go false = let r = rest (p + 1) in omega arith

add_none : (n : ℕ) → 0 + n ≡ n
add_none n = omega arith

feeds : (text : List ℕ) (f : Bool) (p : ℕ) → length (unwanted_from p f Cr (filled f Cr text)) ≡ many 10 text
feeds [] f p = refl
feeds (b ∷ bs) f p =
    ap (λ y. length (unwanted_from p f Cr (put (lacks_return f Cr b) y b (filled (b == 13) Cr bs)))) no_feed
    ∙ go (b == 10) f refl (λ q. feeds bs (b == 13) q)
  where
    no_feed : lacks_feed Cr b bs ≡ false
    no_feed = and_right ((b == 13) && not (begins_with_line_feed bs)) false refl

    -- the byte itself
    of_byte : (g x : Bool) → ((b == 10) && g && true) ≡ x → is_unwanted g Cr b (filled (b == 13) Cr bs) ≡ x
    of_byte g x e = ap (λ z. z || ((b == 10) && g && true)) (and_right ((b == 13) && begins_with_line_feed (filled (b == 13) Cr bs)) false refl) ∙ e

    -- a CR that is inserted
    of_return : is_unwanted false Cr 13 (b ∷ filled (b == 13) Cr bs) ≡ false
    of_return = ap (λ z. z || false) (and_right (true && (b == 10)) false refl)

    go : (x g : Bool) → (b == 10) ≡ x → ((q : ℕ) → length (unwanted_from q (b == 13) Cr (filled (b == 13) Cr bs)) ≡ many 10 bs)
        → length (unwanted_from p g Cr (put (x && not g && true) false b (filled (b == 13) Cr bs))) ≡ cond x 1 0 + many 10 bs
    go true true e rest = counted Cr b (filled (b == 13) Cr bs) p (many 10 bs) true true (of_byte true true (ap (λ z. z && true && true) e)) rest
    go true false e rest =
        counted Cr 13 (b ∷ filled (b == 13) Cr bs) p (1 + many 10 bs) false false of_return
        (λ q. counted Cr b (filled (b == 13) Cr bs) q (many 10 bs) true true (of_byte true true (ap (λ z. z && true && true) e)) rest)
        ∙ add_none (1 + many 10 bs)
    go false g e rest = counted Cr b (filled (b == 13) Cr bs) p (many 10 bs) g false (of_byte g false (ap (λ z. z && g && true) e)) rest

pub all_feeds : (text : List ℕ) → length (unwanted_from 0 false Cr (completed Cr text)) ≡ count_by (λ x. x == 10) text
all_feeds text = ap (λ t. length (unwanted_from 0 false Cr t)) (completed_is Cr text) ∙ feeds text false 0 ∙ many_is 10 text

-- If LF is wanted, each CR is unwanted.

returns : (text : List ℕ) (f g : Bool) (p : ℕ) → length (unwanted_from p g Lf (filled f Lf text)) ≡ many 13 text
returns [] f g p = refl
returns (b ∷ bs) f g p =
    ap (λ x. length (unwanted_from p g Lf (put x (lacks_feed Lf b bs) b (filled (b == 13) Lf bs)))) no_return
    ∙ go (b == 13) (begins_with_line_feed bs) refl refl (λ h q. returns bs (b == 13) h q)
  where
    no_return : lacks_return f Lf b ≡ false
    no_return = and_right ((b == 10) && not f) false refl

    of_byte : (next : List ℕ) (x : Bool) → ((b == 13) && begins_with_line_feed next && true) ≡ x → is_unwanted g Lf b next ≡ x
    of_byte next x e = ap (λ z. ((b == 13) && begins_with_line_feed next && true) || z) (and_right ((b == 10) && g) false refl) ∙ or_none ((b == 13) && begins_with_line_feed next && true) ∙ e
      where
        or_none : (y : Bool) → (y || false) ≡ y
        or_none true = refl
        or_none false = refl

    -- an LF that is inserted
    of_feed : (h : Bool) → is_unwanted h Lf 10 (filled (b == 13) Lf bs) ≡ false
    of_feed h = and_right (true && h) false refl

    go : (x y : Bool) → (b == 13) ≡ x → begins_with_line_feed bs ≡ y
        → ((h : Bool) (q : ℕ) → length (unwanted_from q h Lf (filled (b == 13) Lf bs)) ≡ many 13 bs)
        → length (unwanted_from p g Lf (put false (x && not y && true) b (filled (b == 13) Lf bs))) ≡ cond x 1 0 + many 13 bs
    go true true e n rest =
        counted Lf b (filled (b == 13) Lf bs) p (many 13 bs) g true
        (of_byte (filled (b == 13) Lf bs) true (ap (λ z. z && begins_with_line_feed (filled (b == 13) Lf bs) && true) e ∙ ap (λ z. true && z && true) (still_feed bs (b == 13) n)))
        (rest (b == 13))
    go true false e n rest =
        counted Lf b (10 ∷ filled (b == 13) Lf bs) p (many 13 bs) g true
        (of_byte (10 ∷ filled (b == 13) Lf bs) true (ap (λ z. z && true && true) e))
        (λ q. counted Lf 10 (filled (b == 13) Lf bs) q (many 13 bs) (b == 13) false (of_feed (b == 13)) (rest false) ∙ add_none (many 13 bs))
    go false y e n rest =
        counted Lf b (filled (b == 13) Lf bs) p (many 13 bs) g false
        (of_byte (filled (b == 13) Lf bs) false (ap (λ z. z && begins_with_line_feed (filled (b == 13) Lf bs) && true) e))
        (rest (b == 13))

pub all_returns : (text : List ℕ) → length (unwanted_from 0 false Lf (completed Lf text)) ≡ count_by (λ x. x == 13) text
all_returns text = ap (λ t. length (unwanted_from 0 false Lf t)) (completed_is Lf text) ∙ returns text false false 0 ∙ many_is 13 text

-- The text in two halves.
pub count_both : (byte : ℕ) (first second : List ℕ) (m n : ℕ) → m ≡ count_by (λ x. x == byte) first → n ≡ count_by (λ x. x == byte) second
    → m + n ≡ count_by (λ x. x == byte) (first ++ second)
count_both byte first second m n a b =
    ap (λ k. k + n) a ∙ ap (λ k. count_by (λ x. x == byte) first + k) b ∙ sym (sum_by-append (λ x. cond (x == byte) 1 0) first second)
