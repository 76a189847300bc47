-- The text with the bytes that a conversion of line ends inserts.
use Rattle.std.proofs.Common.{◌≡◌, ℕ, ◌+◌, Bool, true, false, ◌==◌, ◌&&◌, List, [], ◌∷◌, ◌++◌, length, take, drop, refl, ap, ◌∙◌, sym, arith, append_assoc, length-append}
use Rattle.std.specs.Prelude.{not}
use Rattle.std.proofs.lemmas.Bool.{true≢false, and_right, eqb-true}
use Rattle.ed_model.specs.declared.plan.LineEnd.{LineEnd}
use Rattle.ed_model.specs.declared.plan.LineEnd.TheVariants.{Lf}
use Rattle.ed_model.specs.LineEnds.{begins_with_line_feed, lacks_return, lacks_feed, missing_at, missing_from, converted_after, after_steps}
use Rattle.ed_model.specs.proved.Lists.{inserted_between}

abbrev pub put : Bool → Bool → ℕ → List ℕ → List ℕ
put true y b rest = 13 ∷ b ∷ rest
put false true b rest = b ∷ 10 ∷ rest
put false false b rest = b ∷ rest

-- a text with the missing bytes, byte by byte; `f` says that it stands behind a CR
abbrev pub filled : Bool → LineEnd → List ℕ → List ℕ
filled f to [] = []
filled f to (b ∷ bs) = put (lacks_return f to b) (lacks_feed to b bs) b (filled (b == 13) to bs)

-- the missing bytes inserted behind a front
pub fills : (to : LineEnd) (rest : List ℕ) (f : Bool) (p : ℕ) (front : List ℕ) → length front ≡ p
    → after_steps (missing_from p f to rest) (front ++ rest) ≡ front ++ filled f to rest
fills to [] f p front e = refl
fills to (b ∷ bs) f p front e = go (lacks_return f to b) (lacks_feed to b bs) (λ q start h. fills to bs (b == 13) q start h)
  where
    go : (x y : Bool) → ((q : ℕ) (start : List ℕ) → length start ≡ q → after_steps (missing_from q (b == 13) to bs) (start ++ bs) ≡ start ++ filled (b == 13) to bs)
        → after_steps (missing_at p x y ++ missing_from (p + 1 + length (missing_at p x y)) (b == 13) to bs) (front ++ b ∷ bs) ≡ front ++ put x y b (filled (b == 13) to bs)
    go true y rest =
        ap (after_steps (missing_from (p + 1 + 1) (b == 13) to bs)) (inserted_between p front (13 ∷ []) (b ∷ bs) e ∙ sym (append_assoc front (13 ∷ b ∷ []) bs))
        ∙ rest (p + 1 + 1) (front ++ 13 ∷ b ∷ []) (simp length-append (omega arith))
        ∙ append_assoc front (13 ∷ b ∷ []) (filled (b == 13) to bs)
    go false true rest =
        ap (after_steps (missing_from (p + 1 + 1) (b == 13) to bs))
        (ap (λ t. take (p + 1) t ++ (10 ∷ []) ++ drop (p + 1) t) (sym (append_assoc front (b ∷ []) bs))
        ∙ inserted_between (p + 1) (front ++ b ∷ []) (10 ∷ []) bs (simp length-append (omega arith))
        ∙ append_assoc front (b ∷ []) (10 ∷ bs) ∙ sym (append_assoc front (b ∷ 10 ∷ []) bs))
        ∙ rest (p + 1 + 1) (front ++ b ∷ 10 ∷ []) (simp length-append (omega arith))
        ∙ append_assoc front (b ∷ 10 ∷ []) (filled (b == 13) to bs)
    go false false rest =
        ap (after_steps (missing_from (p + 1 + 0) (b == 13) to bs)) (sym (append_assoc front (b ∷ []) bs))
        ∙ rest (p + 1 + 0) (front ++ b ∷ []) (simp length-append (omega arith))
        ∙ append_assoc front (b ∷ []) (filled (b == 13) to bs)

-- a text that begins with an LF still does after the insertions
pub still_feed : (bs : List ℕ) (f : Bool) → begins_with_line_feed bs ≡ true → begins_with_line_feed (filled f Lf bs) ≡ true
still_feed [] f e = absurd (true≢false (sym e))
still_feed (b ∷ bs) f e =
    let ten : b ≡ 10 = eqb-true b 10 e in
    let no_return : lacks_return f Lf b ≡ false = and_right ((b == 10) && not f) false refl in
    let no_feed : lacks_feed Lf b bs ≡ false = ap (λ c. (c == 13) && not (begins_with_line_feed bs) && true) ten in
    ap (λ x. begins_with_line_feed (put x (lacks_feed Lf b bs) b (filled (b == 13) Lf bs))) no_return
    ∙ ap (λ y. begins_with_line_feed (put false y b (filled (b == 13) Lf bs))) no_feed ∙ e

-- after a CR the conversion is the same as elsewhere, unless an LF follows
pub behind_return : (to : LineEnd) (bs : List ℕ) → begins_with_line_feed bs ≡ false → (f : Bool) → converted_after f to bs ≡ converted_after false to bs
behind_return to [] none f = refl
behind_return to (b ∷ bs) none f = rw none refl
