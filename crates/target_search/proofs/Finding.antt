-- The first and the last place that passes a test, as `find` in a list of places.
use Rattle.target_search.proofs.Names.{◌≡◌, ℕ, zero, suc, ◌+◌, ◌-◌, ◌<◌, ◌≤◌, Bool, true, false, eqb, List, [], ◌∷◌, ◌++◌, length, reverse, Option, Some, None, refl, sym, ap, ◌∙◌, subst, arith, inl, inr, range_with_len, find, reverse-append, cases_Bool, cases_eq, cases_lt, cond-true, cond-false, false≢true, le-leb, lt-leb, is_match, match_in, NonePasses, IsFirstOf, IsLastOf, FindsFirst, FindsLast}

both : (b : Bool) → b ≡ true → b ≡ false → ⊥
both b t f = false≢true (sym f ∙ t)

pub some_bytes : (n : ℕ) (empty : Bool) → empty ≡ eqb n 0 → empty ≡ false → 0 < n
some_bytes zero empty e f = absurd (false≢true (sym f ∙ e))
some_bytes (suc n) empty e f = omega arith

module _ (test : ℕ → Bool) where
  pub none_then : (from mid to : ℕ) → NonePasses test from mid → NonePasses test mid to → NonePasses test from to
  none_then from mid to front back k a b =
      elim (cases_lt k mid) [
        | inl below ↦ front k a below
        | inr above ↦ back k above b
      ]

  pub none_at : (place : ℕ) → test place ≡ false → NonePasses test place (place + 1)
  none_at place f k a b = subst (λ p. test p ≡ false) (let same : place ≡ k = omega arith in same) f

  -- the result of a search in one range and then in the next one
  pub first_then : (from mid to : ℕ) → from ≤ mid → NonePasses test from mid → (r : Option ℕ) → FindsFirst test mid to r → FindsFirst test from to r
  first_then from mid to l front None h = none_then from mid to front h
  first_then from mid to l front (Some p) h =
      record { low = omega (arith, h.low); high = h.high; passes = h.passes; before = none_then from mid p front h.before }

  pub first_wider : (from mid to p : ℕ) → mid ≤ to → IsFirstOf test from mid p → IsFirstOf test from to p
  first_wider from mid to p l h = record { low = h.low; high = omega (arith, h.high); passes = h.passes; before = h.before }

  pub last_then : (from mid to : ℕ) → mid ≤ to → NonePasses test mid to → (r : Option ℕ) → FindsLast test from mid r → FindsLast test from to r
  last_then from mid to l back None h = none_then from mid to h back
  last_then from mid to l back (Some p) h =
      record { low = h.low; high = omega (arith, h.high); passes = h.passes; behind = none_then (p + 1) mid to h.behind back }

  pub last_wider : (from mid to p : ℕ) → from ≤ mid → IsLastOf test mid to p → IsLastOf test from to p
  last_wider from mid to p l h = record { low = omega (arith, h.low); high = h.high; passes = h.passes; behind = h.behind }

  found_here : (low to : ℕ) → low < to → test low ≡ true → (r : Option ℕ) → FindsFirst test low to r → r ≡ Some low
  found_here low to l t None none = absurd (both (test low) t (none low (omega arith) l))
  found_here low to l t (Some p) first =
      elim (cases_eq p low) [
        | inl same ↦ ap Some same
        | inr other ↦ absurd (both (test low) t (first.before low (omega arith) (omega (arith, first.low))))
      ]

  found_later : (low to : ℕ) → test low ≡ false → (r : Option ℕ) → FindsFirst test low to r → FindsFirst test (low + 1) to r
  found_later low to f None none = λ k a b. none k (omega arith) b
  found_later low to f (Some p) first =
      elim (cases_eq p low) [
        | inl same ↦ absurd (both (test low) (subst (λ q. test q ≡ true) same first.passes) f)
        | inr other ↦ record { low = omega (arith, first.low); high = first.high; passes = first.passes; before = λ k a b. first.before k (omega arith) b }
      ]

  pub first_found : (n low to : ℕ) → n ≡ to - low → (r : Option ℕ) → FindsFirst test low to r → r ≡ find test (range_with_len low n)
  first_found zero low to e None none = refl
  first_found zero low to e (Some p) first = absurd (omega (arith, first.low, first.high))
  first_found (suc n) low to e r h =
      elim (cases_Bool (test low)) [
        | inl t ↦ found_here low to (omega arith) t r h ∙ sym (cond-true _ _ _ t)
        | inr f ↦ first_found n (low + 1) to (omega arith) r (found_later low to f r h) ∙ sym (cond-false _ _ _ f)
      ]

  range_more : (n low last : ℕ) → low + n ≡ last → range_with_len low (suc n) ≡ range_with_len low n ++ last ∷ []
  range_more zero low last e = ap (λ x. x ∷ []) (let same : low ≡ last = omega arith in same)
  range_more (suc n) low last e = ap (λ xs. low ∷ xs) (range_more n (low + 1) last (omega arith))

  last_here : (low to last : ℕ) → to ≡ last + 1 → low ≤ last → test last ≡ true → (r : Option ℕ) → FindsLast test low to r → r ≡ Some last
  last_here low to last e l t None none = absurd (both (test last) t (none last l (omega arith)))
  last_here low to last e l t (Some p) found =
      elim (cases_eq p last) [
        | inl same ↦ ap Some same
        | inr other ↦ absurd (both (test last) t (found.behind last (omega (arith, found.high)) (omega arith)))
      ]

  last_earlier : (low to last : ℕ) → to ≡ last + 1 → test last ≡ false → (r : Option ℕ) → FindsLast test low to r → FindsLast test low last r
  last_earlier low to last e f None none = λ k a b. none k a (omega arith)
  last_earlier low to last e f (Some p) found =
      elim (cases_eq p last) [
        | inl same ↦ absurd (both (test last) (subst (λ q. test q ≡ true) same found.passes) f)
        | inr other ↦ record { low = found.low; high = omega (arith, found.high); passes = found.passes; behind = λ k a b. found.behind k a (omega arith) }
      ]

  pub last_found : (n low to : ℕ) → n ≡ to - low → (r : Option ℕ) → FindsLast test low to r → r ≡ find test (reverse (range_with_len low n))
  last_found zero low to e None none = refl
  last_found zero low to e (Some p) found = absurd (omega (arith, found.low, found.high))
  last_found (suc n) low to e r h =
      let backwards : reverse (range_with_len low (suc n)) ≡ (low + n) ∷ reverse (range_with_len low n) =
      ap reverse (range_more n low (low + n) refl) ∙ reverse-append (range_with_len low n) ((low + n) ∷ []) in
      rw backwards
      (elim (cases_Bool (test (low + n))) [
        | inl t ↦ last_here low to (low + n) (omega arith) (omega arith) t r h ∙ sym (cond-true _ _ _ t)
        | inr f ↦ last_found n low (low + n) (omega arith) r (last_earlier low to (low + n) (omega arith) f r h) ∙ sym (cond-false _ _ _ f)
      ])

module _ (flags : ℕ) (text : List ℕ) where
  pub found_forwards : (pattern : List ℕ) (from to : ℕ) (r : Option ℕ) → 0 < length pattern → from ≤ to
      → FindsFirst (is_match flags text pattern) from (to + 1 - length pattern) r → r ≡ match_in flags text pattern from to
  found_forwards [] from to r some order h = absurd (omega arith)
  found_forwards (b ∷ bs) from to r some order h =
      first_found (is_match flags text (b ∷ bs)) (to + 1 - (from + length (b ∷ bs))) from (to + 1 - length (b ∷ bs)) (omega arith) r h
      ∙ sym (cond-true _ _ _ (le-leb from to order))

  pub found_backwards : (pattern : List ℕ) (from to : ℕ) (r : Option ℕ) → 0 < length pattern → to < from
      → FindsLast (is_match flags text pattern) to (from + 1 - length pattern) r → r ≡ match_in flags text pattern from to
  found_backwards [] from to r some order h = absurd (omega arith)
  found_backwards (b ∷ bs) from to r some order h =
      last_found (is_match flags text (b ∷ bs)) (from + 1 - (to + length (b ∷ bs))) to (from + 1 - length (b ∷ bs)) (omega arith) r h
      ∙ sym (cond-false _ _ _ (lt-leb from to order))
