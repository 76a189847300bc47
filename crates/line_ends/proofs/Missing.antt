-- The insertions of a conversion, one by one.
use Rattle.line_ends.proofs.Names.{◌≡◌, ℕ, suc, ◌+◌, ◌<◌, ◌≤◌, Bool, true, false, ◌==◌, ◌||◌, ◌&&◌, inl, inr, List, [], ◌∷◌, ◌++◌, length, get_or, take, drop, refl, ap, ◌∙◌, sym, arith, append_assoc, length-append, not, true≢false, or_parts, or_cases, and_parts, eqb-true, not-true, drop_more, drop_all, drop_at, length-take-le, get_or_at, LineEnd, stands, Step, Insert, edited, begins_with_line_feed, is_feed_foreign, is_return_foreign, lacks_return, lacks_feed, missing_at, missing_from, stands_at, follows_return, lone_feed, lone_return, missing_in, IsNextLone, IsNextMissing}
use Rattle.line_ends.proofs.Halves.{Quiet}
use Rattle.line_ends.proofs.Walk.{follows_next, begins_is, along_quiet, quiet_lone}

-- the insertions around one byte, and the rest
abbrev about : LineEnd → List ℕ → ℕ → Bool → Bool → List Step
about to text p x y = missing_at p x y ++ missing_from (p + 1 + length (missing_at p x y)) (get_or text p 0 == 13) to (drop (p + 1) text)

feed_is : (to : LineEnd) (text : List ℕ) (p : ℕ) → p < length text → lone_feed to text p ≡ lacks_return (follows_return 0 text p) to (get_or text p 0)
feed_is to text p h = ap (λ x. x && not (follows_return 0 text p) && is_feed_foreign to) (stands_at 10 text p h)

return_is : (to : LineEnd) (text : List ℕ) (p : ℕ) → p < length text → lone_return to text p ≡ lacks_feed to (get_or text p 0) (drop (p + 1) text)
return_is to text p h =
    ap (λ x. x && not (stands 10 text (p + 1)) && is_return_foreign to) (stands_at 13 text p h)
    ∙ ap (λ y. (get_or text p 0 == 13) && not y && is_return_foreign to) (sym (begins_is text (p + 1)))

split : (to : LineEnd) (text : List ℕ) (p : ℕ) → p < length text → missing_in to text p ≡ about to text p (lone_feed to text p) (lone_return to text p)
split to text p h =
    ap (missing_from p (follows_return 0 text p) to) (drop_more text p 0 h)
    ∙ ap (λ x. about to text p x (lacks_feed to (get_or text p 0) (drop (p + 1) text))) (sym (feed_is to text p h))
    ∙ ap (λ y. about to text p (lone_feed to text p) y) (sym (return_is to text p h))

split_at : (to : LineEnd) (text : List ℕ) (p : ℕ) (x y : Bool) → p < length text → lone_feed to text p ≡ x → lone_return to text p ≡ y
    → missing_in to text p ≡ about to text p x y
split_at to text p x y h a b =
    split to text p h ∙ ap (λ x. about to text p x (lone_return to text p)) a ∙ ap (λ y. about to text p x y) b

-- nothing is missing around a byte
pub missing_on : (to : LineEnd) (text : List ℕ) (p : ℕ) → p < length text → (lone_feed to text p || lone_return to text p) ≡ false
    → missing_in to text p ≡ missing_in to text (p + 1)
missing_on to text p h none =
    let parts = or_parts (lone_feed to text p) (lone_return to text p) none in
    split_at to text p false false h parts.0 parts.1
    ∙ ap (λ q. missing_from q (get_or text p 0 == 13) to (drop (p + 1) text)) (add_none (p + 1))
    ∙ ap (λ f. missing_from (p + 1) f to (drop (p + 1) text)) (sym (follows_next 0 text p (omega arith) h))
  where
    add_none : (n : ℕ) → n + 0 ≡ n
    add_none n = omega arith

-- nothing is missing where no line end stands
pub missing_along : (to : LineEnd) (text : List ℕ) (from end : ℕ) → from ≤ end → end ≤ length text → Quiet text from end
    → missing_in to text from ≡ missing_in to text end
missing_along to text from end a b quiet =
    along_quiet (missing_in to text) text from end a b quiet (λ k h q. missing_on to text k h (quiet_lone to text k h q))

pub missing_end : (to : LineEnd) (text : List ℕ) (p : ℕ) → length text ≤ p → missing_in to text p ≡ []
missing_end to text p h = ap (missing_from p (follows_return 0 text p) to) (drop_all p text h)

-- a CR is inserted before a lone LF
feed_byte : (to : LineEnd) (text : List ℕ) (p : ℕ) → p < length text → lone_feed to text p ≡ true → get_or text p 0 ≡ 10
feed_byte to text p h lone =
    let b = and_parts (stands 10 text p) (not (follows_return 0 text p)) (and_parts (stands 10 text p && not (follows_return 0 text p)) (is_feed_foreign to) lone).0 in
    eqb-true (get_or text p 0) 10 (sym (stands_at 10 text p h) ∙ b.0)

not_return : (to : LineEnd) (text : List ℕ) (p : ℕ) → p < length text → get_or text p 0 ≡ 10 → lone_return to text p ≡ false
not_return to text p h e =
    let none : stands 13 text p ≡ false = stands_at 13 text p h ∙ ap (λ b. b == 13) e in
    rw none refl

put_before : (to : LineEnd) (text : List ℕ) (p : ℕ) → p < length text → lone_feed to text p ≡ true
    → missing_in to text p ≡ Insert p (13 ∷ []) ∷ missing_in to (edited (Insert p (13 ∷ [])) text) (p + 1)
put_before to text p h lone =
    let e = feed_byte to text p h lone in
    let rest = drop p text in
    let new = edited (Insert p (13 ∷ [])) text in
    let size : length (take p text) ≡ p = length-take-le p text (omega arith) in
    let long : length (take p text ++ 13 ∷ []) ≡ p + 1 = simp length-append (omega arith) in
    let behind : drop (p + 1) new ≡ 10 ∷ drop (p + 1) text =
    drop_at (take p text ++ 13 ∷ []) rest (p + 1) long ∙ drop_more text p 0 h ∙ ap (λ b. b ∷ drop (p + 1) text) e in
    let all : length new ≡ p + 1 + length rest = simp length-append (omega arith) in
    let byte : get_or new p 0 ≡ 13 = ap (λ t. get_or t p 0) (append_assoc (take p text) (13 ∷ []) rest) ∙ get_or_at (take p text) 13 rest 0 p size in
    let flag : follows_return 0 new (p + 1) ≡ true = follows_next 0 new p (omega arith) (omega (arith, all)) ∙ ap (λ b. b == 13) byte in
    split_at to text p true (lone_return to text p) h lone refl
    ∙ ap (λ f. Insert p (13 ∷ []) ∷ missing_from (p + 1 + 1) f to (drop (p + 1) text)) (ap (λ b. b == 13) e)
    ∙ ap (λ q. Insert p (13 ∷ []) ∷ missing_from q false to (drop (p + 1) text)) (sym (add_none (p + 1 + 1)))
    ∙ ap (λ f. Insert p (13 ∷ []) ∷ missing_from (p + 1) f to (10 ∷ drop (p + 1) text)) (sym flag)
    ∙ ap (λ t. Insert p (13 ∷ []) ∷ missing_from (p + 1) (follows_return 0 new (p + 1)) to t) (sym behind)
  where
    add_none : (n : ℕ) → n + 0 ≡ n
    add_none n = omega arith

-- an LF is inserted behind a lone CR
no_flag : (q : ℕ) (to : LineEnd) (bs : List ℕ) → begins_with_line_feed bs ≡ false → (f g : Bool) → missing_from q f to bs ≡ missing_from q g to bs
no_flag q to [] none f g = refl
no_flag q to (b ∷ bs) none f g =
    let same : lacks_return f to b ≡ lacks_return g to b = ap (λ x. x && not f && is_feed_foreign to) none ∙ sym (ap (λ x. x && not g && is_feed_foreign to) none) in
    ap (λ x. missing_at q x (lacks_feed to b bs) ++ missing_from (q + 1 + length (missing_at q x (lacks_feed to b bs))) (b == 13) to bs) same

return_parts : (to : LineEnd) (text : List ℕ) (p : ℕ) → p < length text → lone_return to text p ≡ true
    → (get_or text p 0 ≡ 13) × (begins_with_line_feed (drop (p + 1) text) ≡ false)
return_parts to text p h lone =
    let b = and_parts (stands 13 text p) (not (stands 10 text (p + 1))) (and_parts (stands 13 text p && not (stands 10 text (p + 1))) (is_return_foreign to) lone).0 in
    (eqb-true (get_or text p 0) 13 (sym (stands_at 13 text p h) ∙ b.0), begins_is text (p + 1) ∙ not-true (stands 10 text (p + 1)) b.1)

put_behind : (to : LineEnd) (text : List ℕ) (p : ℕ) → p < length text → lone_feed to text p ≡ false → lone_return to text p ≡ true
    → missing_in to text p ≡ Insert (p + 1) (10 ∷ []) ∷ missing_in to (edited (Insert (p + 1) (10 ∷ [])) text) (p + 1 + 1)
put_behind to text p h feed lone =
    let parts = return_parts to text p h lone in
    let rest = drop (p + 1) text in
    let new = edited (Insert (p + 1) (10 ∷ [])) text in
    let size : length (take (p + 1) text) ≡ p + 1 = length-take-le (p + 1) text (omega arith) in
    let long : length (take (p + 1) text ++ 10 ∷ []) ≡ p + 1 + 1 = simp length-append (omega arith) in
    let behind : drop (p + 1 + 1) new ≡ rest = drop_at (take (p + 1) text ++ 10 ∷ []) rest (p + 1 + 1) long in
    let all : length new ≡ p + 1 + 1 + length rest = simp length-append (omega arith) in
    let byte : get_or new (p + 1) 0 ≡ 10 = ap (λ t. get_or t (p + 1) 0) (append_assoc (take (p + 1) text) (10 ∷ []) rest) ∙ get_or_at (take (p + 1) text) 10 rest 0 (p + 1) size in
    let flag : follows_return 0 new (p + 1 + 1) ≡ false = follows_next 0 new (p + 1) (omega arith) (omega (arith, all)) ∙ ap (λ b. b == 13) byte in
    split_at to text p false true h feed lone
    ∙ ap (λ t. Insert (p + 1) (10 ∷ []) ∷ t) (no_flag (p + 1 + 1) to rest parts.1 (get_or text p 0 == 13) false)
    ∙ ap (λ f. Insert (p + 1) (10 ∷ []) ∷ missing_from (p + 1 + 1) f to rest) (sym flag)
    ∙ ap (λ t. Insert (p + 1) (10 ∷ []) ∷ missing_from (p + 1 + 1) (follows_return 0 new (p + 1 + 1)) to t) (sym behind)

-- so the next insertion is next to the next lone byte
pub before_feed : (to : LineEnd) (text : List ℕ) (start p : ℕ) → IsNextLone to text start p → stands 10 text p ≡ true → IsNextMissing to text start p 13
before_feed to text start p next here = record {
  behind = next.behind;
  within = (let w = next.within in omega arith);
  steps = next.none_between ∙ put_before to text p next.within lone;
}
  where
    lone : lone_feed to text p ≡ true
    lone =
        elim (or_cases (lone_feed to text p) (lone_return to text p) next.lone) [
          | inl first ↦ first
          | inr second ↦
              let byte : get_or text p 0 ≡ 10 = eqb-true (get_or text p 0) 10 (sym (stands_at 10 text p next.within) ∙ here) in
              absurd (true≢false (sym second ∙ not_return to text p next.within byte))
        ]

pub behind_return : (to : LineEnd) (text : List ℕ) (start p : ℕ) → IsNextLone to text start p → stands 10 text p ≡ false → IsNextMissing to text start (p + 1) 10
behind_return to text start p next none = record {
  behind = (let b = next.behind in omega arith);
  within = (let w = next.within in omega arith);
  steps = next.none_between ∙ put_behind to text p next.within feed lone;
}
  where
    feed : lone_feed to text p ≡ false
    feed = rw none refl

    lone : lone_return to text p ≡ true
    lone =
        elim (or_cases (lone_feed to text p) (lone_return to text p) next.lone) [
          | inl first ↦ absurd (true≢false (sym first ∙ feed))
          | inr second ↦ second
        ]

-- The number of insertions.

same_count : (to : LineEnd) (bs : List ℕ) (f : Bool) (p q : ℕ) → length (missing_from p f to bs) ≡ length (missing_from q f to bs)
same_count to [] f p q = refl
same_count to (b ∷ bs) f p q = go (lacks_return f to b) (lacks_feed to b bs) (same_count to bs (b == 13))
  where
    go : (x y : Bool) → ((p q : ℕ) → length (missing_from p (b == 13) to bs) ≡ length (missing_from q (b == 13) to bs))
        → length (missing_at p x y ++ missing_from (p + 1 + length (missing_at p x y)) (b == 13) to bs)
        ≡ length (missing_at q x y ++ missing_from (q + 1 + length (missing_at q x y)) (b == 13) to bs)
    go true y rest = ap suc (rest (p + 1 + 1) (q + 1 + 1))
    go false true rest = ap suc (rest (p + 1 + 1) (q + 1 + 1))
    go false false rest = rest (p + 1 + 0) (q + 1 + 0)

-- one for each lone byte
pub one_more : (to : LineEnd) (text : List ℕ) (start p : ℕ) → IsNextLone to text start p
    → length (missing_in to text start) ≡ 1 + length (missing_in to text (p + 1))
one_more to text start p next = ap length next.none_between ∙ counted
  where
    w : p < length text
    w = next.within

    one : (x y : Bool) → (x || y) ≡ true → length (about to text p x y) ≡ 1 + length (missing_from (p + 1) (get_or text p 0 == 13) to (drop (p + 1) text))
    one true y e = let s = same_count to (drop (p + 1) text) (get_or text p 0 == 13) (p + 1 + 1) (p + 1) in omega (arith, s)
    one false true e = let s = same_count to (drop (p + 1) text) (get_or text p 0 == 13) (p + 1 + 1) (p + 1) in omega (arith, s)
    one false false e = absurd (true≢false (sym e))

    counted : length (missing_in to text p) ≡ 1 + length (missing_in to text (p + 1))
    counted =
        ap length (split to text p w) ∙ one (lone_feed to text p) (lone_return to text p) next.lone
        ∙ ap (λ f. 1 + length (missing_from (p + 1) f to (drop (p + 1) text))) (sym (follows_next 0 text p (omega arith) w))
