-- A set of lines: what it holds, when a line is added or removed and when some move.
use Rattle.contraction.proofs.Names.{◌≡◌, ℕ, zero, suc, ◌+◌, ◌-◌, ◌<◌, ◌≤◌, Bool, true, false, ◌&&◌, ◌||◌, ltb, leb, eqb, List, [], ◌∷◌, ◌++◌, length, get_or, take, drop, map, insert, remove, refl, sym, ap, ◌∙◌, inl, inr, arith, cases_lt, cond, cases_eq, le-leb, lt-ltb, false≢true, eq-eqb, ne_eqb, or_left, or_right, get_or-take, get_or-drop, length-take, length-take-le, length-drop, take-append-drop, drop_more, remove-append_right, raised_from, lowered_from, rising_to, holds, holds_with_fresh, holds_without, holds_after, AreLines, AreBefore}
use Rattle.std.proofs.lemmas.Bool.Decides.{nat_tests}

-- lines by their index

pub there : (s : List ℕ) (k y : ℕ) → k < length s → get_or s k 0 ≡ y → holds s y ≡ true
there [] k y h e = absurd (omega arith)
there (x ∷ xs) zero y h e = or_left (eqb x y) (holds xs y) (eq-eqb x y e)
there (x ∷ xs) (suc k) y h e = or_right (eqb x y) (holds xs y) (there xs k y (omega arith) e)

pub nowhere : (s : List ℕ) (y : ℕ) → ((k : ℕ) → k < length s → get_or s k 0 ≡ y → ⊥) → holds s y ≡ false
nowhere [] y ne = refl
nowhere (x ∷ xs) y ne = rw (ne_eqb x y (ne zero (omega arith))) (nowhere xs y (λ k h. ne (suc k) (omega arith)))

pub below : {s : List ℕ} {n : ℕ} (k : ℕ) → AreLines s n → k < length s → get_or s k 0 < n
below {s} k sound h = sound.within (get_or s k 0) (there s k (get_or s k 0) h refl)

-- lines are parted by a place that lies between two of them
pub parted_at :
    {s : List ℕ} {n : ℕ} (a i : ℕ) → AreLines s n → i ≤ length s → (0 < i → get_or s (i - 1) 0 < a) → (i < length s → a ≤ get_or s i 0) → AreBefore s a i
parted_at {s} a i sound h low high =
    record {
      some = h;
      before = λ k b. omega (arith, low (omega arith), rising_to s sound.rising k (i - 1) (omega arith) (omega arith));
      behind = λ k b l. omega (arith, high (omega arith), rising_to s sound.rising i k b l);
    }

-- a line is in the set exactly if the first one that does not lie before it is
pub not_there : {s : List ℕ} {n y i : ℕ} → AreLines s n → AreBefore s y i → (i < length s → get_or s i 0 ≡ y → ⊥) → holds s y ≡ false
not_there {s} {n} {y} {i} sound parts ne =
    nowhere s y
    (λ k h e.
    elim (cases_lt k i) [
      | inl l ↦ omega (arith, parts.before k l)
      | inr l ↦ ne (omega arith) (omega (arith, parts.behind i (omega arith) (omega arith), rising_to s sound.rising i k l h))
    ])

pub found_at : {s : List ℕ} {n y i r : ℕ} → AreLines s n → AreBefore s y i → i < length s → r ≡ get_or s i 0 → eqb r y ≡ holds s y
found_at {s} {n} {y} {i} {r} sound parts h e =
    elim (cases_eq r y) [
      | inl q ↦ eq-eqb r y q ∙ sym (there s i y h (sym e ∙ q))
      | inr ne ↦ ne_eqb r y ne ∙ sym (not_there sound parts (λ _ q. ne (e ∙ q)))
    ]

-- in parts of the list

holds-append : (xs ys : List ℕ) (y : ℕ) → holds (xs ++ ys) y ≡ (holds xs y || holds ys y)
holds-append [] ys y = refl
holds-append (x ∷ xs) ys y = rw (holds-append xs ys y) (or_grouped (eqb x y) (holds xs y) (holds ys y))
  where
    or_grouped : (a b c : Bool) → (a || (b || c)) ≡ ((a || b) || c)
    or_grouped true b c = refl
    or_grouped false b c = refl

holds_both : (s : List ℕ) (n y : ℕ) → holds s y ≡ (holds (take n s) y || holds (drop n s) y)
holds_both s n y = ap (λ l. holds l y) (sym (take-append-drop n s)) ∙ holds-append (take n s) (drop n s) y

parted : (whole low high : Bool) (y a : ℕ) → whole ≡ (low || high) → (a ≤ y → low ≡ false) → (y < a → high ≡ false) → (low ≡ (ltb y a && whole)) × (high ≡ (leb a y && whole))
parted whole low high y a e none none' = grind (arith, nat_tests)

-- the lines before a place, and the others
parts_at : {s : List ℕ} {a i : ℕ} (y : ℕ) → AreBefore s a i → (holds (take i s) y ≡ (ltb y a && holds s y)) × (holds (drop i s) y ≡ (leb a y && holds s y))
parts_at {s} {a} {i} y parts =
    parted (holds s y) (holds (take i s) y) (holds (drop i s) y) y a (holds_both s i y)
    (λ l. nowhere (take i s) y (λ k h e. omega (arith, length-take i s, get_or-take i s k 0 (omega (arith, length-take i s)), parts.before k (omega (arith, length-take i s)))))
    (λ l. nowhere (drop i s) y (λ k h e. omega (arith, get_or-drop i s k 0, parts.behind (i + k) (omega arith) (omega (arith, length-drop i s)))))

-- lines that are moved

raised_one : (x c y : ℕ) (rest : Bool) → (eqb (x + c) y || (leb c y && rest)) ≡ (leb c y && (eqb x (y - c) || rest))
raised_one x c y rest = grind (arith, nat_tests)

holds_raised : (s : List ℕ) (c y : ℕ) → holds (map (λ x. x + c) s) y ≡ (leb c y && holds s (y - c))
holds_raised [] c y = grind (arith, nat_tests)
holds_raised (x ∷ xs) c y = rw (holds_raised xs c y) (raised_one x c y (holds xs (y - c)))

lowered_one : (x c y : ℕ) → c ≤ x → eqb (x - c) y ≡ eqb x (y + c)
lowered_one x c y h = grind (arith, nat_tests)

holds_lowered : (s : List ℕ) (c y : ℕ) → ((k : ℕ) → k < length s → c ≤ get_or s k 0) → holds (map (λ x. x - c) s) y ≡ holds s (y + c)
holds_lowered [] c y far = refl
holds_lowered (x ∷ xs) c y far = rw (holds_lowered xs c y (λ k h. far (suc k) (omega arith)), lowered_one x c y (far zero (omega arith))) refl

-- what the calls leave

added_one : (line k : ℕ) (other : Bool) → (eqb line k || other) ≡ cond (leb line k && ltb k (line + 1)) true other
added_one line k other = grind (arith, nat_tests)

added_before : (line k : ℕ) (b : Bool) → (line ≡ k → b ≡ true) → b ≡ cond (leb line k && ltb k (line + 1)) true b
added_before line k b here = grind (arith, nat_tests)

pub there_already : (s : List ℕ) (line k : ℕ) → holds s line ≡ true → holds s k ≡ holds_after true s line (line + 1) k
there_already s line k h = added_before line k (holds s k) (λ q. rw (← q) h)

or_moved : (t x d : Bool) → (t || (x || d)) ≡ (x || (t || d))
or_moved true true d = refl
or_moved true false d = refl
or_moved false x d = refl

pub inserted_line : (s : List ℕ) (n line k : ℕ) → holds (insert s n line) k ≡ holds_after true s line (line + 1) k
inserted_line s n line k =
    holds-append (take n s) (line ∷ drop n s) k ∙ or_moved (holds (take n s) k) (eqb line k) (holds (drop n s) k)
    ∙ ap (λ b. eqb line k || b) (sym (holds_both s n k)) ∙ added_one line k (holds s k)

fresh_tests : (test : ℕ → Bool) (line c k : ℕ) → ((ltb k line && test k) || (leb c k && (leb line (k - c) && test (k - c))))
    ≡ cond (ltb k line) (test k) (cond (ltb k (line + c)) false (test (k - c)))
fresh_tests test line c k = grind (arith, nat_tests)

-- lines were inserted before the line
pub came : {s : List ℕ} {line i : ℕ} (c k : ℕ) → AreBefore s line i → holds (raised_from s i c) k ≡ holds_with_fresh s line c k
came {s} {line} {i} c k parts =
    rw (
      holds-append (take i s) (map (λ x. x + c) (drop i s)) k,
      holds_raised (drop i s) c k,
      (parts_at k parts).0,
      (parts_at (k - c) parts).1,
    )
    (fresh_tests (holds s) line c k)

-- a later place has no fewer lines before it
pub found_later : {s : List ℕ} {a b i j : ℕ} → AreBefore s a i → AreBefore s b j → a ≤ b → i ≤ j
found_later {s} {a} {b} {i} {j} one two h =
    elim (cases_lt j i) [
      | inl l ↦ absurd (omega (arith, two.behind j (omega arith) (omega (arith, one.some)), one.before j l))
      | inr l ↦ l
    ]

-- one more line was removed behind the first b, where those before the i-th were already
pub one_removed : (s : List ℕ) (b i : ℕ) → b ≤ i → i < length s → remove (take b s ++ drop i s) b ≡ take b s ++ drop (i + 1) s
one_removed s b i h l =
    let none : b - b ≡ 0 = omega arith in
    remove-append_right (take b s) (drop i s) b b (length-take-le b s (omega arith)) (omega arith) ∙ rw (none, drop_more s i 0 l) refl

left_tests : (first past k : ℕ) (b : Bool) → first ≤ past → ((ltb k first && b) || (leb past k && b)) ≡ cond (leb first k && ltb k past) false b
left_tests first past k b h = grind (arith, nat_tests)

-- lines were removed from the set
pub left : {s : List ℕ} {first past i j : ℕ} (k : ℕ) → AreBefore s first i → AreBefore s past j → first ≤ past
    → holds (take i s ++ drop j s) k ≡ holds_after false s first past k
left {s} {first} {past} {i} {j} k one two h =
    rw (holds-append (take i s) (drop j s) k, (parts_at k one).0, (parts_at k two).1) (left_tests first past k (holds s k) h)

-- no line is left in a range that was emptied
pub none_within : (s : List ℕ) {t : List ℕ} {first past i : ℕ} → AreBefore t first i → ((k : ℕ) → holds t k ≡ holds_after false s first past k) → i < length t → past ≤ get_or t i 0
none_within s {t} {first} {past} {i} parts gone h =
    let k : ℕ = get_or t i 0 in
    let high : first ≤ k = parts.behind i (omega arith) h in
    elim (cases_lt k past) [
      | inl l ↦ absurd (false≢true (sym (gone k ∙ rw (le-leb first k high, lt-ltb k past l) refl) ∙ there t i k h refl))
      | inr l ↦ l
    ]

went_tests : (line c k : ℕ) (t t' s s' : Bool) → t ≡ cond (leb line k && ltb k (line + c)) false s → t' ≡ cond (leb line (k + c) && ltb (k + c) (line + c)) false s'
    → ((ltb k line && t) || (leb line (k + c) && t')) ≡ cond (ltb k line) s s'
went_tests line c k t t' s s' e e' = grind (arith, nat_tests)

-- lines were deleted, and those behind them moved
pub went : (s : List ℕ) {t : List ℕ} {n line i : ℕ} (c k : ℕ) → AreLines t n → AreBefore t line i → ((k : ℕ) → holds t k ≡ holds_after false s line (line + c) k)
    → holds (lowered_from t i c) k ≡ holds_without s line c k
went s {t} {n} {line} {i} c k sound parts gone =
    let far = none_within s {past = line + c} parts gone in
    let size = length-drop i t in
    rw (
      holds-append (take i t) (map (λ x. x - c) (drop i t)) k,
      holds_lowered (drop i t) c k (λ j l. omega (arith, get_or-drop i t j 0, far (omega arith), rising_to t sound.rising i (i + j) (omega arith) (omega arith))),
      (parts_at k parts).0,
      (parts_at (k + c) parts).1,
    )
    (went_tests line c k (holds t k) (holds t (k + c)) (holds s k) (holds s (k + c)) (gone k) (gone (k + c)))

-- from a place on, no line before the next one of the set is in it
pub none_until : {s : List ℕ} {n line i : ℕ} (k : ℕ) → AreLines s n → AreBefore s line i → line ≤ k → (i < length s → k < get_or s i 0) → holds s k ≡ false
none_until {s} {n} {line} {i} k sound parts le next =
    not_there sound (parted_at k i sound parts.some (λ h. omega (arith, parts.before (i - 1) (omega arith))) (λ h. omega (arith, next h))) (λ h e. omega (arith, next h))

-- all lines of the set are still lines of the text

pub within_after : {s : List ℕ} {n : ℕ} (added : Bool) (first past k : ℕ) → AreLines s n → past ≤ n → holds_after added s first past k ≡ true → k < n
within_after {s} {n} added first past k sound h =
    let within = sound.within k in
    grind (arith, nat_tests)

pub within_fresh : {s : List ℕ} {n : ℕ} (line c k : ℕ) → AreLines s n → line ≤ n → holds_with_fresh s line c k ≡ true → k < n + c
within_fresh {s} {n} line c k sound h =
    let within = sound.within (k - c) in
    grind (arith, nat_tests)

pub within_without : {s : List ℕ} {n : ℕ} (line c k : ℕ) → AreLines s n → line + c ≤ n → holds_without s line c k ≡ true → k < n - c
within_without {s} {n} line c k sound h =
    let within = sound.within (k + c) in
    grind (arith, nat_tests)
