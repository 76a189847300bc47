-- The length of a text during the steps of a conversion.
use Rattle.line_ends.proofs.Names.{◌≡◌, ℕ, zero, suc, ◌+◌, ◌-◌, ◌<◌, ◌≤◌, Bool, true, false, ◌==◌, ◌||◌, ◌&&◌, List, [], ◌∷◌, ◌++◌, length, min, refl, ap, ◌∙◌, sym, arith, length-append, nat_le, nat_lt, leb-true, leb-false, le-leb, lt-leb, lt-ltb, ne_eqb, eq-eqb, or_left, LineEnd, Step, Insert, Delete, lacks_return, lacks_feed, missing_at, missing_from, is_unwanted, unwanted_at, place_after, unwanted_from, conversion_steps, completed}
use Rattle.std.proofs.Math.Bool.{and-false}
use Rattle.std.proofs.Math.Nat.{min-le_left}
use Rattle.ed_model.specs.Edits.{stays_within, has_steps}

-- steps that each insert, or each delete, a byte
abbrev Puts : List Step → Type 0
Puts [] = Unit {0}
Puts (Insert p bytes ∷ steps) = (length bytes ≡ 1) × Puts steps
Puts (Delete p bytes ∷ steps) = ⊥

abbrev Takes : List Step → Type 0
Takes [] = Unit {0}
Takes (Insert p bytes ∷ steps) = ⊥
Takes (Delete p bytes ∷ steps) = (length bytes ≡ 1) × Takes steps

missing_puts : (to : LineEnd) (bs : List ℕ) (f : Bool) (p : ℕ) → Puts (missing_from p f to bs)
missing_puts to [] f p = tt
missing_puts to (b ∷ bs) f p = go (lacks_return f to b) (lacks_feed to b bs) (missing_puts to bs (b == 13))
  where
    go : (x y : Bool) → ((q : ℕ) → Puts (missing_from q (b == 13) to bs)) → Puts (missing_at p x y ++ missing_from (p + 1 + length (missing_at p x y)) (b == 13) to bs)
    go true y rest = (refl, rest (p + 1 + 1))
    go false true rest = (refl, rest (p + 1 + 1))
    go false false rest = rest (p + 1 + 0)

unwanted_takes : (to : LineEnd) (bs : List ℕ) (f : Bool) (p : ℕ) → Takes (unwanted_from p f to bs)
unwanted_takes to [] f p = tt
unwanted_takes to (b ∷ bs) f p = go (is_unwanted f to b bs) (unwanted_takes to bs (b == 13))
  where
    go : (u : Bool) → ((q : ℕ) → Takes (unwanted_from q (b == 13) to bs)) → Takes (unwanted_at p b u ++ unwanted_from (place_after p u) (b == 13) to bs)
    go true rest = (refl, rest p)
    go false rest = rest (p + 1)

-- a test of the greater one covers both
both_within : (a b limit : ℕ) → a ≤ b → (nat_le a limit && nat_le b limit) ≡ nat_le b limit
both_within a b limit h = go (nat_le b limit) refl
  where
    go : (x : Bool) → nat_le b limit ≡ x → (nat_le a limit && x) ≡ x
    go true e = let w = leb-true b limit e in ap (λ y. y && true) (le-leb a limit (omega arith))
    go false e = and-false (nat_le a limit)

both_within' : (a b limit : ℕ) → b ≤ a → (nat_le a limit && nat_le b limit) ≡ nat_le a limit
both_within' a b limit h = go (nat_le a limit) refl
  where
    go : (x : Bool) → nat_le a limit ≡ x → (x && nat_le b limit) ≡ x
    go true e = let w = leb-true a limit e in le-leb b limit (omega arith)
    go false e = refl

-- if all steps delete, the text is longest after the first
abbrev taken_within : ℕ → ℕ → ℕ → Bool
taken_within limit n zero = true
taken_within limit n (suc d) = nat_le (n - 1) limit

takes_within : (limit n : ℕ) (steps : List Step) → Takes steps → stays_within limit n steps ≡ taken_within limit n (length steps)
takes_within limit n [] t = refl
takes_within limit n (Insert p bytes ∷ steps) t = absurd t
takes_within limit n (Delete p bytes ∷ steps) t =
    ap (λ k. nat_le (n - k) limit && stays_within limit (n - k) steps) t.0
    ∙ ap (λ x. nat_le (n - 1) limit && x) (takes_within limit (n - 1) steps t.1) ∙ go (length steps)
  where
    go : (d : ℕ) → (nat_le (n - 1) limit && taken_within limit (n - 1) d) ≡ nat_le (n - 1) limit
    go zero = same (nat_le (n - 1) limit)
      where
        same : (y : Bool) → (y && true) ≡ y
        same true = refl
        same false = refl
    go (suc d) = both_within' (n - 1) (n - 1 - 1) limit (omega arith)

-- if insertions come before deletions, the text is longest after the last insertion
abbrev made_within : ℕ → ℕ → ℕ → ℕ → Bool
made_within limit n zero d = taken_within limit n d
made_within limit n (suc m) d = nat_le (n + suc m) limit

puts_within : (limit n : ℕ) (puts takes : List Step) → Puts puts → Takes takes → stays_within limit n (puts ++ takes) ≡ made_within limit n (length puts) (length takes)
puts_within limit n [] takes p t = takes_within limit n takes t
puts_within limit n (Delete q bytes ∷ puts) takes p t = absurd p
puts_within limit n (Insert q bytes ∷ puts) takes p t =
    ap (λ k. nat_le (n + k) limit && stays_within limit (n + k) (puts ++ takes)) p.0
    ∙ ap (λ x. nat_le (n + 1) limit && x) (puts_within limit (n + 1) puts takes p.1 t) ∙ go (length puts) (length takes)
  where
    go : (m d : ℕ) → (nat_le (n + 1) limit && made_within limit (n + 1) m d) ≡ nat_le (n + suc m) limit
    go zero zero = same (nat_le (n + 1) limit)
      where
        same : (y : Bool) → (y && true) ≡ y
        same true = refl
        same false = refl
    go zero (suc d) = both_within' (n + 1) (n + 1 - 1) limit (omega arith)
    go (suc m) d =
        let e : n + 1 + suc m ≡ n + suc (suc m) = omega arith in
        ap (λ k. nat_le (n + 1) limit && nat_le k limit) e ∙ both_within (n + 1) (n + suc (suc m)) limit (omega arith)

abbrev puts_of : LineEnd → List ℕ → ℕ
puts_of to text = length (missing_from 0 false to text)

abbrev takes_of : LineEnd → List ℕ → ℕ
takes_of to text = length (unwanted_from 0 false to (completed to text))

within : (limit : ℕ) (to : LineEnd) (text : List ℕ) → stays_within limit (length text) (conversion_steps to text) ≡ made_within limit (length text) (puts_of to text) (takes_of to text)
within limit to text =
    puts_within limit (length text) (missing_from 0 false to text) (unwanted_from 0 false to (completed to text)) (missing_puts to text false 0) (unwanted_takes to (completed to text) false 0)

-- something is inserted
pub some_within : (limit n : ℕ) (to : LineEnd) (text : List ℕ) → length text ≡ n → 0 < puts_of to text
    → stays_within limit n (conversion_steps to text) ≡ nat_le (n + puts_of to text) limit
some_within limit n to text size some = ap (λ k. stays_within limit k (conversion_steps to text)) (sym size) ∙ within limit to text ∙ ap (λ k. made_within limit k (puts_of to text) (takes_of to text)) size ∙ go (puts_of to text) some
  where
    go : (m : ℕ) → 0 < m → made_within limit n m (takes_of to text) ≡ nat_le (n + m) limit
    go zero h = absurd (omega arith)
    go (suc m) h = refl

-- nothing is inserted
pub rest_within : (limit n : ℕ) (to : LineEnd) (text : List ℕ) → length text ≡ n → puts_of to text ≡ 0
    → stays_within limit n (conversion_steps to text) ≡ ((takes_of to text == 0) || nat_le (n - 1) limit)
rest_within limit n to text size none =
    ap (λ k. stays_within limit k (conversion_steps to text)) (sym size) ∙ within limit to text ∙ ap (λ k. made_within limit k (puts_of to text) (takes_of to text)) size
    ∙ ap (λ m. made_within limit n m (takes_of to text)) none ∙ go (takes_of to text)
  where
    go : (d : ℕ) → taken_within limit n d ≡ ((d == 0) || nat_le (n - 1) limit)
    go zero = refl
    go (suc d) = ap (λ x. x || nat_le (n - 1) limit) (sym (ne_eqb (suc d) 0 (λ e. omega arith)))

pub steps_there : (to : LineEnd) (text : List ℕ) → has_steps (conversion_steps to text) ≡ (nat_lt 0 (puts_of to text) || nat_lt 0 (takes_of to text))
steps_there to text = go (missing_from 0 false to text) (unwanted_from 0 false to (completed to text))
  where
    go : (a b : List Step) → has_steps (a ++ b) ≡ (nat_lt 0 (length a) || nat_lt 0 (length b))
    go [] [] = refl
    go [] (s ∷ b) = sym (lt-ltb 0 (suc (length b)) (omega arith))
    go (s ∷ a) b = ap (λ x. x || nat_lt 0 (length b)) (sym (lt-ltb 0 (suc (length a)) (omega arith)))

pub some_there : (to : LineEnd) (text : List ℕ) (n most : ℕ) → n ≡ min (puts_of to text) most → 0 < n → nat_lt 0 n ≡ has_steps (conversion_steps to text)
some_there to text n most e h =
    let some : 0 < puts_of to text = omega (arith, e, min-le_left (puts_of to text) most) in
    lt-ltb 0 n h ∙ sym (steps_there to text ∙ ap (λ x. x || nat_lt 0 (takes_of to text)) (lt-ltb 0 (puts_of to text) some))

-- The test of a sum against a limit, without the sum.

pub beside : (n m limit : ℕ) → m ≤ limit → nat_le n (limit - m) ≡ nat_le (n + m) limit
beside n m limit h = go (nat_le (n + m) limit) refl
  where
    go : (x : Bool) → nat_le (n + m) limit ≡ x → nat_le n (limit - m) ≡ x
    go true e = let w = leb-true (n + m) limit e in le-leb n (limit - m) (omega arith)
    go false e = let w = leb-false (n + m) limit e in lt-leb n (limit - m) (omega arith)

pub not_beside : (n m limit : ℕ) → limit < m → nat_le (n + m) limit ≡ false
not_beside n m limit h = lt-leb (n + m) limit (omega arith)

-- The text in two halves, with the counts of the code.

pub some_kept : (limit : ℕ) (to : LineEnd) (first second : List ℕ) (m : ℕ) → m ≡ puts_of to (first ++ second) → 0 < m
    → nat_le (length first + length second + m) limit ≡ stays_within limit (length (first ++ second)) (conversion_steps to (first ++ second))
some_kept limit to first second m e h =
    let text = first ++ second in
    let size : length first + length second + m ≡ length text + puts_of to text = omega (arith, length-append first second) in
    ap (λ k. nat_le k limit) size ∙ sym (some_within limit (length text) to text refl (omega arith))

pub none_kept : (limit : ℕ) (to : LineEnd) (first second : List ℕ) (m d : ℕ) → m ≡ puts_of to (first ++ second) → m ≤ 0 → d ≡ takes_of to (first ++ second) → d ≡ 0
    → true ≡ stays_within limit (length (first ++ second)) (conversion_steps to (first ++ second))
none_kept limit to first second m d e h f none =
    let text = first ++ second in
    sym (rest_within limit (length text) to text refl (omega arith) ∙ or_left (takes_of to text == 0) (nat_le (length text - 1) limit) (eq-eqb (takes_of to text) 0 (omega arith)))

pub rest_kept : (limit : ℕ) (to : LineEnd) (first second : List ℕ) (m d n : ℕ) → m ≡ puts_of to (first ++ second) → m ≤ 0 → d ≡ takes_of to (first ++ second) → (d ≡ 0 → ⊥)
    → n ≡ length first + length second - 1 → nat_le n limit ≡ stays_within limit (length (first ++ second)) (conversion_steps to (first ++ second))
rest_kept limit to first second m d n e h f some size =
    let text = first ++ second in
    let same : n ≡ length text - 1 = omega (arith, length-append first second) in
    sym (rest_within limit (length text) to text refl (omega arith)
    ∙ ap (λ x. x || nat_le (length text - 1) limit) (ne_eqb (takes_of to text) 0 (λ z. some (f ∙ z))) ∙ ap (λ k. nat_le k limit) (sym same))
