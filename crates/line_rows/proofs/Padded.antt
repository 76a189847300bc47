-- The stored values of the first lines, padded with the default, through edits of lines.
use Rattle.line_rows.proofs.Names.{◌≡◌, ◌≤◌, ◌<◌, ◌+◌, ◌-◌, ℕ, zero, suc, List, [], ◌∷◌, ◌++◌, length, take, drop, replicate, get_or, set, min, refl, ap, sym, ◌∙◌, arith, append_assoc, inl, inr, length-append, length-take, length-take-le, length-drop, length-replicate, take-replicate, drop-replicate, replicate-append-replicate, drop_all, take_all, replicate_more, append-nil, set-append_left, length-set, drop_more, take_more, slice_range, inserted, deleted, first_or, padded, max, Valued, valued, with_value}
use Rattle.std.proofs.lemmas.Bool.{cases_lt, cases_eq}
use Rattle.std.proofs.lemmas.List.{ext_get_or, get_or_append_left, get_or-append_right, get_or-take, get_or-drop, get_or_past, get_or-set_same, get_or-set_other, set_at}
use Rattle.std.proofs.Math.Seq.{take-append-add, drop-append-add}
use Rattle.line_index.specs.Edits.{with_fresh, with_joined}
use Rattle.split_vector.specs.Split.{Split}
use Rattle.line_rows.specs.Values.{values_in}

module _ {V : Type 0} where
  pub padded_length : (d : V) (n : ℕ) (xs : List V) → length xs ≤ n → length (padded d n xs) ≡ n
  padded_length d n xs h = simp (length-append, length-replicate) (omega arith)

  -- the values of all lines are told by those that are stored
  at_padded : (d : V) (n : ℕ) (xs : List V) (i : ℕ) → get_or (padded d n xs) i d ≡ get_or xs i d
  at_padded d n xs i = go xs i (n - length xs)
    where
      none : (m i : ℕ) → get_or (replicate m d) i d ≡ d
      none zero i = refl
      none (suc m) zero = refl
      none (suc m) (suc i) = none m i

      go : (xs : List V) (i m : ℕ) → get_or (xs ++ replicate m d) i d ≡ get_or xs i d
      go [] i m = none m i
      go (x ∷ xs) zero m = refl
      go (x ∷ xs) (suc i) m = go xs i m

  same_padded : (d : V) (n : ℕ) (xs ys : List V) → length xs ≤ n → length ys ≡ n → ((i : ℕ) → get_or xs i d ≡ get_or ys i d) → padded d n xs ≡ ys
  same_padded d n xs ys h e same = ext_get_or d (padded d n xs) ys (padded_length d n xs h ∙ sym e) (λ i inside. at_padded d n xs i ∙ same i)

  -- defaults inserted among defaults
  defaults_in : (d : V) (q n k : ℕ) → q ≤ n → take q (replicate n d) ++ (replicate k d ++ drop q (replicate n d)) ≡ replicate (n + k) d
  defaults_in d q n k h =
      let count : q + (k + (n - q)) ≡ n + k = omega arith in
      rw (take-replicate {X = V} q n d h, drop-replicate {X = V} q n d, replicate-append-replicate {A = V} k (n - q) d, replicate-append-replicate {A = V} q (k + (n - q)) d, count)

  -- fresh lines inserted behind the stored ones
  pub padded_behind : (d : V) (xs : List V) (n p k : ℕ) → length xs ≤ p → p ≤ n → padded d (n + k) xs ≡ with_fresh (first_or d) p k (padded d n xs)
  padded_behind d xs n p k h l =
      let place : p ≡ length xs + (p - length xs) = omega arith in
      let rest = replicate {A = V} (n - length xs) d in
      let front : take p (xs ++ rest) ≡ xs ++ take (p - length xs) rest = ap (λ j. take j (xs ++ rest)) place ∙ take-append-add xs rest (p - length xs) in
      let back : drop p (xs ++ rest) ≡ drop (p - length xs) rest = ap (λ j. drop j (xs ++ rest)) place ∙ drop-append-add xs rest (p - length xs) in
      let count : n - length xs + k ≡ n + k - length xs = omega arith in
      let inside : p - length xs ≤ n - length xs = omega arith in
      rw (front, back) (simp append_assoc (ap (λ t. xs ++ t) (sym (defaults_in d (p - length xs) (n - length xs) k inside ∙ ap (λ j. replicate j d) count))))

  -- lines that are joined keep the value of the first: the others are deleted
  first_of : (d : V) (xs : List V) (n : ℕ) → first_or d (take (suc n) xs) ≡ get_or xs 0 d
  first_of d [] n = refl
  first_of d (x ∷ xs) n = refl

  pub joined_is : (d : V) (xs : List V) (p k : ℕ) → p + k < length xs → with_joined (first_or d) p k xs ≡ take (p + 1) xs ++ drop (p + 1 + k) xs
  joined_is d xs p k h =
      let inside : p < length xs = omega arith in
      let wide : p + (k + 1) - p ≡ suc k = omega arith in
      let end : p + (k + 1) ≡ p + 1 + k = omega arith in
      let first : first_or d (slice_range xs p (p + (k + 1))) ≡ get_or xs p d =
      ap (λ m. first_or d (take m (drop p xs))) wide ∙ first_of d (drop p xs) k ∙ ap (λ l. get_or l 0 d) (drop_more xs p d inside) in
      rw (first, take_more xs p d inside, end) (simp append_assoc)

  -- deleted lines
  at_deleted : (xs : List V) (p k : ℕ) (d : V) (i : ℕ) → p ≤ length xs → (i < p → get_or (deleted xs p k) i d ≡ get_or xs i d) × (p ≤ i → get_or (deleted xs p k) i d ≡ get_or xs (i + k) d)
  at_deleted xs p k d i l = (
    λ near. get_or_append_left (take p xs) (drop (p + k) xs) d i (omega (arith, length-take-le p xs l)) ∙ get_or-take p xs i d near,
    λ far.
        let place : p + k + (i - p) ≡ i + k = omega arith in
        get_or-append_right (take p xs) (drop (p + k) xs) p i d (length-take-le p xs l) far ∙ get_or-drop (p + k) xs (i - p) d ∙ ap (λ j. get_or xs j d) place,
  )

  gone : (d : V) (xs ys : List V) (n p k : ℕ) → length xs ≤ n → p + k ≤ n → length ys ≤ n - k → ((i : ℕ) → i < p → get_or ys i d ≡ get_or xs i d) → ((i : ℕ) → p ≤ i → get_or ys i d ≡ get_or xs (i + k) d) → padded d (n - k) ys ≡ deleted (padded d n xs) p k
  gone d xs ys n p k h w few near far =
      let long = padded_length d n xs h in
      let all = λ (i : ℕ). at_deleted (padded d n xs) p k d i (omega (arith, long)) in
      let whole = padded d n xs in
      same_padded d (n - k) ys (deleted whole p k) few
      (omega (arith, long, length-append (take p whole) (drop (p + k) whole), length-take-le p whole (omega (arith, long)), length-drop (p + k) whole))
      (λ i. elim (cases_lt i p) [
        | inl low ↦ near i low ∙ sym ((all i).0 low ∙ at_padded d n xs i)
        | inr high ↦ far i high ∙ sym ((all i).1 high ∙ at_padded d n xs (i + k))
      ])

  -- lines are joined to a stored one
  pub padded_joined : (d : V) (xs : List V) (n p k behind : ℕ) → length xs ≤ n → p + 1 ≤ length xs → p + k < n → behind ≡ length xs - (p + 1) → padded d (n - k) (deleted xs (p + 1) (min k behind)) ≡ with_joined (first_or d) p k (padded d n xs)
  padded_joined d xs n p k behind h l w e =
      let at = λ (i : ℕ). at_deleted xs (p + 1) (min k behind) d i l in
      gone d xs (deleted xs (p + 1) (min k behind)) n (p + 1) k h (omega arith) (simp (length-append, length-take, length-drop) (omega arith)) (λ i low. (at i).0 low)
      (λ i high. (at i).1 high ∙ elim (cases_lt behind k) [
        | inl past ↦ get_or_past xs (i + min k behind) d (omega arith) ∙ sym (get_or_past xs (i + k) d (omega arith))
        | inr inside ↦ let all : min k behind ≡ k = omega arith in ap (λ j. get_or xs (i + j) d) all
      ])
      ∙ sym (joined_is d (padded d n xs) p k (omega (arith, padded_length d n xs h)))

  -- lines are joined to one behind the stored ones
  pub padded_joined_behind : (d : V) (xs : List V) (n p k : ℕ) → length xs ≤ n → length xs ≤ p + 1 → p + k < n → padded d (n - k) xs ≡ with_joined (first_or d) p k (padded d n xs)
  padded_joined_behind d xs n p k h l w =
      gone d xs xs n (p + 1) k h (omega arith) (omega arith) (λ i low. refl) (λ i high. get_or_past xs i d (omega arith) ∙ sym (get_or_past xs (i + k) d (omega arith)))
      ∙ sym (joined_is d (padded d n xs) p k (omega (arith, padded_length d n xs h)))

  -- the value of a line is set, once it is stored
  pub padded_set : (d : V) (xs : List V) (n end line : ℕ) (x : V) → length xs ≤ n → length xs ≤ end → end ≤ n → line < end → padded d n (set (padded d end xs) line x) ≡ set (padded d n xs) line x
  padded_set d xs n end line x h l w i =
      let short = padded_length d end xs l in
      let long = padded_length d n xs h in
      same_padded d n (set (padded d end xs) line x) (set (padded d n xs) line x) (omega (arith, short, length-set (padded d end xs) line x)) (length-set (padded d n xs) line x ∙ long)
      (λ k. elim (cases_eq k line) [
        | inl e ↦ rw e (get_or-set_same (padded d end xs) line x d (omega (arith, short)) ∙ sym (get_or-set_same (padded d n xs) line x d (omega (arith, long))))
        | inr ne ↦ get_or-set_other (padded d end xs) line k x d ne ∙ at_padded d end xs k ∙ sym (get_or-set_other (padded d n xs) line k x d ne ∙ at_padded d n xs k)
      ])

  -- the line right behind the stored ones gets its value
  pub padded_put : (d : V) (xs : List V) (line : ℕ) (x : V) → length xs ≤ line → inserted (padded d line xs) line (x ∷ []) ≡ set (padded d (line + 1) xs) line x
  padded_put d xs line x h =
      let P = padded d line xs in
      let long : length P ≡ line = padded_length d line xs h in
      let count : line + 1 - length xs ≡ line - length xs + 1 = omega arith in
      let more : padded d (line + 1) xs ≡ P ++ d ∷ [] =
      ap (λ m. xs ++ replicate m d) count ∙ ap (λ t. xs ++ t) (sym (replicate_more (line - length xs) d)) ∙ sym (append_assoc xs (replicate (line - length xs) d) (d ∷ [])) in
      let front : take line P ≡ P = take_all line P (omega arith) in
      let back : drop line P ≡ [] = drop_all line P (omega arith) in
      ap (λ t. t ++ x ∷ [] ++ drop line P) front
      ∙ ap (λ t. P ++ x ∷ [] ++ t) back
      ∙ append-nil (P ++ x ∷ [])
      ∙ sym (ap (λ t. set t line x) more ∙ set_at P d [] x line long)

  -- a stored line gets another value
  pub padded_set_stored : (d : V) (xs : List V) (n line : ℕ) (x : V) → length xs ≤ n → line < length xs → padded d n (set xs line x) ≡ set (padded d n xs) line x
  padded_set_stored d xs n line x h i =
      let left : n - length (set xs line x) ≡ n - length xs = omega (arith, length-set xs line x) in
      rw left (sym (set-append_left xs (replicate (n - length xs) d) line x i))

  -- there is nothing to pad
  pub padded_all : (d : V) (n : ℕ) (xs : List V) → n ≤ length xs → padded d n xs ≡ xs
  padded_all d n xs h =
      let none : n - length xs ≡ 0 = omega arith in
      rw none (append-nil xs)

  -- the value of a line is set, and the values of the lines up to it are stored
  pub value_set : (old new : Split V) (d : V) (lines line : ℕ) (x : V) (v : Valued V) → values_in old d lines ≡ v →
      padded d lines new.items ≡ set (padded d lines old.items) line x → length new.items ≡ max (length old.items) (line + 1) → new.capacity ≡ old.capacity → values_in new d lines ≡ with_value v line x
  value_set old new d lines line x v view values reached kept =
      ap (λ vs. valued d vs (length new.items) new.capacity) values
      ∙ ap (λ n. valued d (set (padded d lines old.items) line x) n new.capacity) reached
      ∙ ap (λ n. valued d (set (padded d lines old.items) line x) (max (length old.items) (line + 1)) n) kept
      ∙ ap (λ v. with_value v line x) view
