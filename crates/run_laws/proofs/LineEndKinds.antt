-- The line ends of a converted text.
use Rattle.run_laws.proofs.Names.{◌≡◌, ◌⊎◌, ℕ, zero, suc, ◌+◌, ◌-◌, ◌<◌, ◌≤◌, Bool, true, false, cond, ◌==◌, ◌||◌, ◌&&◌, List, [], ◌∷◌, ◌++◌, length, get_or, take, drop, slice_range, inl, inr, refl, ap, subst, ◌∙◌, sym, arith, not, filter, nat_lt, true≢false, or_cases, or_left, or_right, and_parts, eqb-true, not-true, lt-ltb, cond-true, cases_eq, Contains-get_or, LineEnd, CrLf, Cr, Lf, LineEndTypes, stands, is_line_start, line_starts, line_count, start_after_line, line_end_length, end_of_line, line_end_bytes, begins_with_line_feed, converted_after, converted, increasing_at, line_starts_rise, start_from_contains, behind_return, HasOnly, ConvertedHaveOnlyThese, ConvertedLinesEndSo, OtherBytesStay, TextsOfTheKindStay, LastKindCounts, bytes_of_end, ends_in_unicode, is_other}
use Rattle.std.proofs.lemmas.List.{get_or_default}
use Rattle.std.proofs.lemmas.Option.{unwrap_or-slice_get}
use Rattle.run_laws.proofs.LineEndLemmas.{other_converted}

-- Texts with line ends of one kind: the empty text, one with another byte in front, and one with such a line end in front.

only_in_none : (to : LineEnd) → HasOnly to []
only_in_none CrLf = (refl, λ p. refl)
only_in_none Cr = λ p. refl
only_in_none Lf = λ p. refl

-- each CR has an LF just behind it, and each LF a CR just before it
in_pairs : (text : List ℕ) → stands 10 text 0 ≡ false → ((p : ℕ) → stands 13 text p ≡ stands 10 text (suc p)) → HasOnly CrLf text
in_pairs text first pairs = (first, λ p. let next : suc p ≡ p + 1 = omega arith in pairs p ∙ ap (stands 10 text) next)

pair_at : (text : List ℕ) → HasOnly CrLf text → (p : ℕ) → stands 13 text p ≡ stands 10 text (suc p)
pair_at text only p = let next : p + 1 ≡ suc p = omega arith in only.1 p ∙ ap (stands 10 text) next

nowhere : (byte b : ℕ) (text : List ℕ) → (b == byte) ≡ false → ((p : ℕ) → stands byte text p ≡ false) → (p : ℕ) → stands byte (b ∷ text) p ≡ false
nowhere byte b text e h zero = e
nowhere byte b text e h (suc p) = h p

only_behind_other : (to : LineEnd) (b : ℕ) (text : List ℕ) → (b == 10) ≡ false → (b == 13) ≡ false → HasOnly to text → HasOnly to (b ∷ text)
only_behind_other CrLf b text e n h = in_pairs (b ∷ text) e pairs
  where
    pairs : (p : ℕ) → stands 13 (b ∷ text) p ≡ stands 10 text p
    pairs zero = n ∙ sym h.0
    pairs (suc p) = pair_at text h p
only_behind_other Cr b text e n h = nowhere 10 b text e h
only_behind_other Lf b text e n h = nowhere 13 b text n h

only_behind_end : (to : LineEnd) (text : List ℕ) → HasOnly to text → HasOnly to (line_end_bytes to ++ text)
only_behind_end CrLf text h = in_pairs (13 ∷ 10 ∷ text) refl pairs
  where
    pairs : (p : ℕ) → stands 13 (13 ∷ 10 ∷ text) p ≡ stands 10 (10 ∷ text) p
    pairs zero = refl
    pairs (suc zero) = sym h.0
    pairs (suc (suc p)) = pair_at text h p
only_behind_end Cr text h = nowhere 10 13 text refl h
only_behind_end Lf text h = nowhere 13 10 text refl h

pub only_after : (to : LineEnd) (text : List ℕ) (f : Bool) → HasOnly to (converted_after f to text)
only_after to [] f = only_in_none to
only_after to (b ∷ bs) f = go (b == 10) (b == 13) f refl refl (λ g. only_after to bs g)
  where
    go : (x y f : Bool) → (b == 10) ≡ x → (b == 13) ≡ y → ((g : Bool) → HasOnly to (converted_after g to bs))
        → HasOnly to (cond (x && f) (converted_after false to bs) (cond (x || y) (line_end_bytes to ++ converted_after y to bs) (b ∷ converted_after false to bs)))
    go true y true e n rest = rest false
    go true y false e n rest = only_behind_end to (converted_after y to bs) (rest y)
    go false true f e n rest = only_behind_end to (converted_after true to bs) (rest true)
    go false false f e n rest = only_behind_other to b (converted_after false to bs) e n (rest false)

pub converted_have_only_these : ConvertedHaveOnlyThese
converted_have_only_these to text = only_after to text false

-- The bytes at a place, as a range of the text.

one_there : (byte : ℕ) (text : List ℕ) (p : ℕ) → stands byte text p ≡ true → take 1 (drop p text) ≡ byte ∷ []
one_there byte [] p e = absurd (true≢false (sym e))
one_there byte (b ∷ bs) zero e = ap (λ c. c ∷ []) (eqb-true b byte e)
one_there byte (b ∷ bs) (suc p) e = one_there byte bs p e

both_there : (text : List ℕ) (p : ℕ) → stands 13 text p ≡ true → stands 10 text (suc p) ≡ true → take 2 (drop p text) ≡ 13 ∷ 10 ∷ []
both_there [] p e f = absurd (true≢false (sym e))
both_there (b ∷ []) zero e f = absurd (true≢false (sym f))
both_there (b ∷ c ∷ bs) zero e f = ap (λ x. x ∷ c ∷ []) (eqb-true b 13 e) ∙ ap (λ y. 13 ∷ y ∷ []) (eqb-true c 10 f)
both_there (b ∷ bs) (suc p) e f = both_there bs p e f

-- a range that ends at p, from its length
part_before : (text : List ℕ) (p n : ℕ) → n ≤ p → slice_range text (p - n) p ≡ take n (drop (p - n) text)
part_before text p n h = let size : p - (p - n) ≡ n = omega arith in ap (λ k. take k (drop (p - n) text)) size

-- The line end before a start.

abbrev EndsSo : LineEnd → List ℕ → ℕ → Type 0
EndsSo to text p = slice_range text (p - line_end_length text p) p ≡ line_end_bytes to

by_length : (to : LineEnd) (text : List ℕ) (p n : ℕ) → n ≤ p → line_end_length text p ≡ n → take n (drop (p - n) text) ≡ line_end_bytes to → EndsSo to text p
by_length to text p n h e t = ap (λ k. slice_range text (p - k) p) e ∙ part_before text p n h ∙ t

-- an LF, or a CR that no LF follows, is just before the start
abbrev EndsBefore : List ℕ → ℕ → Bool
EndsBefore text p = stands 10 text (p - 1) || (stands 13 text (p - 1) && not (stands 10 text p))

ends_so : (to : LineEnd) (text : List ℕ) → HasOnly to text → (p : ℕ) → 0 < p → EndsBefore text p ≡ true → EndsSo to text p
ends_so to text only p h e = go to only (or_cases (stands 10 text (p - 1)) (stands 13 text (p - 1) && not (stands 10 text p)) e)
  where
    go : (to : LineEnd) → HasOnly to text → (stands 10 text (p - 1) ≡ true) ⊎ ((stands 13 text (p - 1) && not (stands 10 text p)) ≡ true) → EndsSo to text p
    go Cr only (inl feed) = absurd (true≢false (sym feed ∙ only (p - 1)))
    go Cr only (inr rest) =
        let return : stands 13 text (p - 1) ≡ true = (and_parts (stands 13 text (p - 1)) (not (stands 10 text p)) rest).0 in
        let no_feed : stands 10 text (p - 1) ≡ false = only (p - 1) in
        by_length Cr text p 1 (omega arith) (rw (no_feed, return) refl) (one_there 13 text (p - 1) return)
    go Lf only (inl feed) =
        let no_return : stands 13 text (p - 2) ≡ false = only (p - 2) in
        by_length Lf text p 1 (omega arith) (rw (feed, no_return) refl) (one_there 10 text (p - 1) feed)
    go Lf only (inr rest) = absurd (true≢false (sym (and_parts (stands 13 text (p - 1)) (not (stands 10 text p)) rest).0 ∙ only (p - 1)))
    go CrLf only (inl feed) =
        elim (cases_eq (p - 1) 0) [
          | inl first ↦ absurd (true≢false (sym feed ∙ ap (stands 10 text) first ∙ only.0))
          | inr later ↦
              let next : suc (p - 2) ≡ p - 1 = omega arith in
              let behind : stands 10 text (suc (p - 2)) ≡ true = ap (stands 10 text) next ∙ feed in
              let return : stands 13 text (p - 2) ≡ true = pair_at text only (p - 2) ∙ behind in
              by_length CrLf text p 2 (omega arith) (rw (feed, return) refl) (both_there text (p - 2) return behind)
        ]
    go CrLf only (inr rest) =
        let parts = and_parts (stands 13 text (p - 1)) (not (stands 10 text p)) rest in
        let next : suc (p - 1) ≡ p = omega arith in
        absurd (true≢false (sym parts.0 ∙ pair_at text only (p - 1) ∙ ap (stands 10 text) next ∙ not-true (stands 10 text p) parts.1))

-- Each line but the last.

lines_end_so : (to : LineEnd) (types : LineEndTypes) (text : List ℕ) → HasOnly to text → (line : ℕ) → line + 1 < line_count types text
    → (bytes_of_end types text line ≡ line_end_bytes to) ⊎ (ends_in_unicode types text line ≡ true)
lines_end_so to types text only line h =
    let starts = line_starts types text in
    let p : ℕ = start_after_line types text line in
    let at : p ≡ get_or starts (line + 1) 0 = unwrap_or-slice_get starts (line + 1) (length text) ∙ get_or_default starts (line + 1) (length text) 0 h in
    let past : 0 < p = omega (arith, increasing_at 0 starts line (line_starts_rise types text) h) in
    let starts_there : is_line_start types text p ≡ true =
    ap (is_line_start types text) at ∙ start_from_contains types text (get_or starts (line + 1) 0) (Contains-get_or starts (line + 1) 0 h) in
    let place : end_of_line types text line ≡ p - line_end_length text p =
    cond-true (nat_lt (line + 1) (line_count types text)) (p - line_end_length text p) (length text) (lt-ltb (line + 1) (line_count types text) h) in
    elim (or_cases (p == 0) (EndsBefore text p || ends_in_unicode types text line) starts_there) [
      | inl first ↦ absurd (let e : p ≡ 0 = eqb-true p 0 first in omega arith)
      | inr ends ↦
          elim (or_cases (EndsBefore text p) (ends_in_unicode types text line) ends) [
            | inl bytes ↦ inl (ap (λ k. slice_range text k p) place ∙ ends_so to text only p past bytes)
            | inr unicode ↦ inr unicode
          ]
    ]

pub converted_lines_end_so : ConvertedLinesEndSo
converted_lines_end_so to types text line h = lines_end_so to types (converted to text) (converted_have_only_these to text) line h

-- Other bytes.

others_behind_end : (to : LineEnd) (text : List ℕ) → filter is_other (line_end_bytes to ++ text) ≡ filter is_other text
others_behind_end CrLf text = refl
others_behind_end Cr text = refl
others_behind_end Lf text = refl

no_other : (b : ℕ) (bs : List ℕ) → ((b == 10) || (b == 13)) ≡ true → filter is_other (b ∷ bs) ≡ filter is_other bs
no_other b bs e = ap (λ z. cond (not z) (b ∷ filter is_other bs) (filter is_other bs)) e

others_stay : (to : LineEnd) (text : List ℕ) (f : Bool) → filter is_other (converted_after f to text) ≡ filter is_other text
others_stay to [] f = refl
others_stay to (b ∷ bs) f = go (b == 10) (b == 13) f refl refl (λ g. others_stay to bs g)
  where
    go : (x y f : Bool) → (b == 10) ≡ x → (b == 13) ≡ y → ((g : Bool) → filter is_other (converted_after g to bs) ≡ filter is_other bs)
        → filter is_other (cond (x && f) (converted_after false to bs) (cond (x || y) (line_end_bytes to ++ converted_after y to bs) (b ∷ converted_after false to bs)))
        ≡ filter is_other (b ∷ bs)
    go true y true e n rest = rest false ∙ sym (no_other b bs (or_left (b == 10) (b == 13) e))
    go true y false e n rest = others_behind_end to (converted_after y to bs) ∙ rest y ∙ sym (no_other b bs (or_left (b == 10) (b == 13) e))
    go false true f e n rest = others_behind_end to (converted_after true to bs) ∙ rest true ∙ sym (no_other b bs (or_right (b == 10) (b == 13) n))
    go false false f e n rest = ap (λ l. cond (not ((b == 10) || (b == 13))) (b ∷ l) l) (rest false)

pub other_bytes_stay : OtherBytesStay
other_bytes_stay to text = others_stay to text false

-- Texts that are converted twice.

pub first_byte : (bs : List ℕ) → begins_with_line_feed bs ≡ stands 10 bs 0
first_byte [] = refl
first_byte (b ∷ bs) = refl

end_again : (first to : LineEnd) (bs : List ℕ) → HasOnly first bs → converted_after false to (line_end_bytes first ++ bs) ≡ line_end_bytes to ++ converted_after false to bs
end_again CrLf to bs only = refl
end_again Cr to bs only = ap (λ l. line_end_bytes to ++ l) (behind_return to bs (first_byte bs ∙ only 0) true)
end_again Lf to bs only = refl

converted_again : (first to : LineEnd) (text : List ℕ) (f : Bool) → converted_after false to (converted_after f first text) ≡ converted_after f to text
converted_again first to [] f = refl
converted_again first to (b ∷ bs) f = go (b == 10) (b == 13) f refl refl (λ g. converted_again first to bs g)
  where
    go : (x y f : Bool) → (b == 10) ≡ x → (b == 13) ≡ y → ((g : Bool) → converted_after false to (converted_after g first bs) ≡ converted_after g to bs)
        → converted_after false to (cond (x && f) (converted_after false first bs) (cond (x || y) (line_end_bytes first ++ converted_after y first bs) (b ∷ converted_after false first bs)))
        ≡ cond (x && f) (converted_after false to bs) (cond (x || y) (line_end_bytes to ++ converted_after y to bs) (b ∷ converted_after false to bs))
    go true y true e n rest = rest false
    go true y false e n rest = end_again first to (converted_after y first bs) (only_after first bs y) ∙ ap (λ l. line_end_bytes to ++ l) (rest y)
    go false true f e n rest = end_again first to (converted_after true first bs) (only_after first bs true) ∙ ap (λ l. line_end_bytes to ++ l) (rest true)
    go false false f e n rest = other_converted false to b (converted_after false first bs) e n ∙ ap (λ l. b ∷ l) (rest false)

pub last_kind_counts : LastKindCounts
last_kind_counts first to text = converted_again first to text false

-- Texts that already have only line ends of the kind.

returns_stay : (text : List ℕ) → HasOnly Cr text → converted_after false Cr text ≡ text
returns_stay [] only = refl
returns_stay (b ∷ bs) only = go (b == 10) (b == 13) refl refl (returns_stay bs (λ p. only (suc p)))
  where
    go : (x y : Bool) → (b == 10) ≡ x → (b == 13) ≡ y → converted_after false Cr bs ≡ bs
        → cond (x && false) (converted_after false Cr bs) (cond (x || y) (13 ∷ converted_after y Cr bs) (b ∷ converted_after false Cr bs)) ≡ b ∷ bs
    go true y e n rest = absurd (true≢false (sym e ∙ only zero))
    go false true e n rest =
        ap (λ l. 13 ∷ l) (behind_return Cr bs (first_byte bs ∙ only (suc zero)) true ∙ rest) ∙ ap (λ c. c ∷ bs) (sym (eqb-true b 13 n))
    go false false e n rest = ap (λ l. b ∷ l) rest

feeds_stay : (text : List ℕ) → HasOnly Lf text → converted_after false Lf text ≡ text
feeds_stay [] only = refl
feeds_stay (b ∷ bs) only = go (b == 10) (b == 13) refl refl (feeds_stay bs (λ p. only (suc p)))
  where
    go : (x y : Bool) → (b == 10) ≡ x → (b == 13) ≡ y → converted_after false Lf bs ≡ bs
        → cond (x && false) (converted_after false Lf bs) (cond (x || y) (10 ∷ converted_after y Lf bs) (b ∷ converted_after false Lf bs)) ≡ b ∷ bs
    go x true e n rest = absurd (true≢false (sym n ∙ only zero))
    go true false e n rest = ap (λ l. 10 ∷ l) rest ∙ ap (λ c. c ∷ bs) (sym (eqb-true b 10 e))
    go false false e n rest = ap (λ l. b ∷ l) rest

both_stay : (text : List ℕ) → HasOnly CrLf text → converted_after false CrLf text ≡ text
both_stay [] only = refl
both_stay (b ∷ []) only = other_converted false CrLf b [] only.0 (pair_at (b ∷ []) only zero)
both_stay (b ∷ c ∷ bs) only = go (b == 13) (c == 10) refl refl (both_stay bs) (both_stay (c ∷ bs))
  where
    go : (x y : Bool) → (b == 13) ≡ x → (c == 10) ≡ y → (HasOnly CrLf bs → converted_after false CrLf bs ≡ bs)
        → (HasOnly CrLf (c ∷ bs) → converted_after false CrLf (c ∷ bs) ≡ c ∷ bs) → converted_after false CrLf (b ∷ c ∷ bs) ≡ b ∷ c ∷ bs
    go true true n e both rest =
        let pair : HasOnly CrLf (13 ∷ 10 ∷ bs) → converted_after false CrLf (13 ∷ 10 ∷ bs) ≡ 13 ∷ 10 ∷ bs = λ h.
        ap (λ l. 13 ∷ 10 ∷ l) (both (in_pairs bs (sym (pair_at (13 ∷ 10 ∷ bs) h 1)) (λ p. pair_at (13 ∷ 10 ∷ bs) h (suc (suc p))))) in
        subst (λ (x : ℕ). HasOnly CrLf (x ∷ c ∷ bs) → converted_after false CrLf (x ∷ c ∷ bs) ≡ x ∷ c ∷ bs) (sym (eqb-true b 13 n))
        (subst (λ (y : ℕ). HasOnly CrLf (13 ∷ y ∷ bs) → converted_after false CrLf (13 ∷ y ∷ bs) ≡ 13 ∷ y ∷ bs) (sym (eqb-true c 10 e)) pair)
        only
    go true false n e both rest = absurd (true≢false (sym n ∙ pair_at (b ∷ c ∷ bs) only zero ∙ e))
    go false y n e both rest =
        other_converted false CrLf b (c ∷ bs) only.0 n
        ∙ ap (λ l. b ∷ l) (rest (in_pairs (c ∷ bs) (sym (pair_at (b ∷ c ∷ bs) only zero) ∙ n) (λ p. pair_at (b ∷ c ∷ bs) only (suc p))))

pub texts_of_the_kind_stay : TextsOfTheKindStay
texts_of_the_kind_stay CrLf text only = both_stay text only
texts_of_the_kind_stay Cr text only = returns_stay text only
texts_of_the_kind_stay Lf text only = feeds_stay text only
