-- The text after the steps of a conversion: first the missing bytes are inserted, then the unwanted ones are deleted.
use Rattle.run_laws.proofs.Names.{◌≡◌, ℕ, ◌+◌, Bool, true, false, ◌==◌, ◌||◌, ◌&&◌, List, [], ◌∷◌, ◌++◌, length, refl, ap, subst, ◌∙◌, sym, arith, append_assoc, length-append, not, true≢false, or_from, and_right, eqb-true, fold-append, LineEnd, CrLf, Cr, Lf, Step, edited, begins_with_line_feed, converted_after, converted, missing_from, is_unwanted, unwanted_at, place_after, unwanted_from, after_steps, deleted_between, put, filled, fills, still_feed, StepsConvert}

-- The deletions: the text without the unwanted bytes, byte by byte.

abbrev left : Bool → ℕ → List ℕ → List ℕ
left true b rest = rest
left false b rest = b ∷ rest

abbrev kept : Bool → LineEnd → List ℕ → List ℕ
kept f to [] = []
kept f to (b ∷ bs) = left (is_unwanted f to b bs) b (kept (b == 13) to bs)

keeps : (to : LineEnd) (rest : List ℕ) (f : Bool) (p : ℕ) (front : List ℕ) → length front ≡ p
    → after_steps (unwanted_from p f to rest) (front ++ rest) ≡ front ++ kept f to rest
keeps to [] f p front e = refl
keeps to (b ∷ bs) f p front e = go (is_unwanted f to b bs) (λ q start h. keeps to bs (b == 13) q start h)
  where
    go : (u : Bool) → ((q : ℕ) (start : List ℕ) → length start ≡ q → after_steps (unwanted_from q (b == 13) to bs) (start ++ bs) ≡ start ++ kept (b == 13) to bs)
        → after_steps (unwanted_at p b u ++ unwanted_from (place_after p u) (b == 13) to bs) (front ++ b ∷ bs) ≡ front ++ left u b (kept (b == 13) to bs)
    go true rest = ap (after_steps (unwanted_from p (b == 13) to bs)) (deleted_between p front b bs e) ∙ rest p front e
    go false rest =
        ap (after_steps (unwanted_from (p + 1) (b == 13) to bs)) (sym (append_assoc front (b ∷ []) bs))
        ∙ rest (p + 1) (front ++ b ∷ []) (simp length-append (omega arith))
        ∙ append_assoc front (b ∷ []) (kept (b == 13) to bs)

-- Insertions followed by deletions, for an LF, for a CR, and for any other byte.

pub by_byte : (P : ℕ → Type 0) (b : ℕ) → P 10 → P 13 → ((b == 10) ≡ false → (b == 13) ≡ false → P b) → P b
by_byte P b feed return other = go (b == 10) (b == 13) refl refl
  where
    go : (x y : Bool) → (b == 10) ≡ x → (b == 13) ≡ y → P b
    go true y e n = subst P (sym (eqb-true b 10 e)) feed
    go false true e n = subst P (sym (eqb-true b 13 n)) return
    go false false e n = other e n

other_filled : (f : Bool) (to : LineEnd) (b : ℕ) (bs : List ℕ) → (b == 10) ≡ false → (b == 13) ≡ false → filled f to (b ∷ bs) ≡ b ∷ filled false to bs
other_filled f to b bs e n = rw (e, n) refl

other_kept : (f : Bool) (to : LineEnd) (b : ℕ) (bs : List ℕ) → (b == 10) ≡ false → (b == 13) ≡ false → kept f to (b ∷ bs) ≡ b ∷ kept false to bs
other_kept f to b bs e n = rw (e, n) refl

pub other_converted : (f : Bool) (to : LineEnd) (b : ℕ) (bs : List ℕ) → (b == 10) ≡ false → (b == 13) ≡ false → converted_after f to (b ∷ bs) ≡ b ∷ converted_after false to bs
other_converted f to b bs e n = rw (e, n) refl

other_both : (f g : Bool) (to : LineEnd) (b : ℕ) (bs : List ℕ) → (b == 10) ≡ false → (b == 13) ≡ false → kept g to (filled f to (b ∷ bs)) ≡ b ∷ kept false to (filled false to bs)
other_both f g to b bs e n = ap (kept g to) (other_filled f to b bs e n) ∙ other_kept g to b (filled false to bs) e n

-- The LF that is still to come, if the byte before is a CR and the next one an LF: it belongs to the line end of that CR.

abbrev pending : Bool → Bool → List ℕ
pending true true = 10 ∷ []
pending true false = []
pending false y = []

none_pending : (f y : Bool) → y ≡ false → pending f y ≡ []
none_pending true true e = absurd (true≢false e)
none_pending true false e = refl
none_pending false y e = refl

-- CRLF: nothing is deleted.

all_kept : (bs : List ℕ) (f : Bool) → kept f CrLf bs ≡ bs
all_kept [] f = refl
all_kept (b ∷ bs) f =
    let none : is_unwanted f CrLf b bs ≡ false =
    or_from ((b == 13) && begins_with_line_feed bs && false) ((b == 10) && f && false) (and_right ((b == 13) && begins_with_line_feed bs) false refl) (and_right ((b == 10) && f) false refl) in
    ap (λ u. left u b (kept (b == 13) CrLf bs)) none ∙ ap (λ l. b ∷ l) (all_kept bs (b == 13))

abbrev FilledTo : List ℕ → Bool → Type 0
FilledTo bs f = filled f CrLf bs ≡ pending f (begins_with_line_feed bs) ++ converted_after f CrLf bs

to_both : (bs : List ℕ) (f : Bool) → FilledTo bs f
to_both [] true = refl
to_both [] false = refl
to_both (b ∷ bs) f = by_byte (λ c. FilledTo (c ∷ bs) f) b (feed f (to_both bs false)) (return (to_both bs true)) (λ e n. other e n (to_both bs false))
  where
    feed : (f : Bool) → FilledTo bs false → FilledTo (10 ∷ bs) f
    feed true h = ap (λ l. 10 ∷ l) h
    feed false h = ap (λ l. 13 ∷ 10 ∷ l) h

    behind : (y : Bool) → filled true CrLf bs ≡ pending true y ++ converted_after true CrLf bs
        → put false (not y && true) 13 (filled true CrLf bs) ≡ 13 ∷ 10 ∷ converted_after true CrLf bs
    behind true h = ap (λ l. 13 ∷ l) h
    behind false h = ap (λ l. 13 ∷ 10 ∷ l) h

    return : FilledTo bs true → FilledTo (13 ∷ bs) f
    return h =
        behind (begins_with_line_feed bs) h ∙ sym (ap (λ l. l ++ 13 ∷ 10 ∷ converted_after true CrLf bs) (none_pending f false refl))

    other : (b == 10) ≡ false → (b == 13) ≡ false → FilledTo bs false → FilledTo (b ∷ bs) f
    other e n h =
        other_filled f CrLf b bs e n ∙ ap (λ l. b ∷ l) h
        ∙ sym (ap (λ l. l ++ converted_after f CrLf (b ∷ bs)) (none_pending f (b == 10) e) ∙ other_converted f CrLf b bs e n)

-- LF: each CR is deleted.

abbrev TurnedToFeeds : List ℕ → Bool → Bool → Type 0
TurnedToFeeds bs f g = kept g Lf (filled f Lf bs) ≡ pending f (begins_with_line_feed bs) ++ converted_after f Lf bs

to_feeds : (bs : List ℕ) (f g : Bool) → TurnedToFeeds bs f g
to_feeds [] true g = refl
to_feeds [] false g = refl
to_feeds (b ∷ bs) f g =
    by_byte (λ c. TurnedToFeeds (c ∷ bs) f g) b (feed f g (to_feeds bs false false)) (return (λ h. to_feeds bs true h)) (λ e n. other e n (to_feeds bs false false))
  where
    feed : (f g : Bool) → TurnedToFeeds bs false false → TurnedToFeeds (10 ∷ bs) f g
    feed true true h = ap (λ l. 10 ∷ l) h
    feed true false h = ap (λ l. 10 ∷ l) h
    feed false true h = ap (λ l. 10 ∷ l) h
    feed false false h = ap (λ l. 10 ∷ l) h

    behind : (y : Bool) → begins_with_line_feed bs ≡ y
        → ((h : Bool) → kept h Lf (filled true Lf bs) ≡ pending true y ++ converted_after true Lf bs)
        → kept g Lf (put false (not y && true) 13 (filled true Lf bs)) ≡ 10 ∷ converted_after true Lf bs
    behind true e h = ap (λ z. left ((z && true) || false) 13 (kept true Lf (filled true Lf bs))) (still_feed bs true e) ∙ h true
    behind false e h = ap (λ l. 10 ∷ l) (h false)

    return : ((h : Bool) → TurnedToFeeds bs true h) → TurnedToFeeds (13 ∷ bs) f g
    return h =
        behind (begins_with_line_feed bs) refl h ∙ sym (ap (λ l. l ++ 10 ∷ converted_after true Lf bs) (none_pending f false refl))

    other : (b == 10) ≡ false → (b == 13) ≡ false → TurnedToFeeds bs false false → TurnedToFeeds (b ∷ bs) f g
    other e n h =
        other_both f g Lf b bs e n ∙ ap (λ l. b ∷ l) h
        ∙ sym (ap (λ l. l ++ converted_after f Lf (b ∷ bs)) (none_pending f (b == 10) e) ∙ other_converted f Lf b bs e n)

-- CR: each LF is deleted.

abbrev TurnedToReturns : List ℕ → Bool → Type 0
TurnedToReturns bs f = kept f Cr (filled f Cr bs) ≡ converted_after f Cr bs

to_returns : (bs : List ℕ) (f : Bool) → TurnedToReturns bs f
to_returns [] f = refl
to_returns (b ∷ bs) f =
    by_byte (λ c. TurnedToReturns (c ∷ bs) f) b (feed f (to_returns bs false)) (return (to_returns bs true)) (λ e n. other e n (to_returns bs false))
  where
    feed : (f : Bool) → TurnedToReturns bs false → TurnedToReturns (10 ∷ bs) f
    feed true h = h
    feed false h = ap (λ l. 13 ∷ l) h

    return : TurnedToReturns bs true → TurnedToReturns (13 ∷ bs) f
    return h =
        ap (λ y. kept f Cr (put false y 13 (filled true Cr bs))) (and_right (not (begins_with_line_feed bs)) false refl)
        ∙ ap (λ z. left (z || false) 13 (kept true Cr (filled true Cr bs))) (and_right (begins_with_line_feed (filled true Cr bs)) false refl)
        ∙ ap (λ l. 13 ∷ l) h

    other : (b == 10) ≡ false → (b == 13) ≡ false → TurnedToReturns bs false → TurnedToReturns (b ∷ bs) f
    other e n h = other_both f f Cr b bs e n ∙ ap (λ l. b ∷ l) h ∙ sym (other_converted f Cr b bs e n)

-- All steps lead to the converted text.

turned : (to : LineEnd) (text : List ℕ) → kept false to (filled false to text) ≡ converted to text
turned CrLf text = all_kept (filled false CrLf text) false ∙ to_both text false
turned Cr text = to_returns text false
turned Lf text = to_feeds text false false

pub steps_convert : StepsConvert
steps_convert to text =
    let missing = missing_from 0 false to text in
    fold-append (λ (t : List ℕ) (s : Step). edited s t) text missing (unwanted_from 0 false to (after_steps missing text))
    ∙ ap (λ t. after_steps (unwanted_from 0 false to t) t) (fills to text false 0 [] refl)
    ∙ keeps to (filled false to text) false 0 [] refl
    ∙ turned to text
