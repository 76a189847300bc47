-- The expansion of runs, split at a run and put together again.
use Rattle.run_styles.proofs.Names.{◌≡◌, ℕ, ◌+◌, ◌-◌, ◌<◌, ◌≤◌, zero, suc, List, [], ◌∷◌, ◌++◌, length, get_or, map, replicate, refl, sym, ap, ◌∙◌, arith, append_assoc, length-append, ⊎_elim, length-replicate, get_or_default, cases_lt, expansion, Rise}

pub head-append : (xs ys : List ℕ) (end : ℕ) → get_or (xs ++ ys) 0 end ≡ get_or xs 0 (get_or ys 0 end)
head-append [] ys end = refl
head-append (x ∷ xs) ys end = refl

module _ {V : Type 0} where
  pub expansion-append : (xs ys : List ℕ) (vs ws : List V) (end : ℕ) → length xs ≡ length vs
      → expansion (xs ++ ys) (vs ++ ws) end ≡ expansion xs vs (get_or ys 0 end) ++ expansion ys ws end
  expansion-append [] ys [] ws end e = refl
  expansion-append [] ys (v ∷ vs) ws end e = absurd (omega (arith, e))
  expansion-append (x ∷ xs) ys [] ws end e = absurd (omega (arith, e))
  expansion-append (x ∷ xs) ys (v ∷ vs) ws end e =
      let ih = expansion-append xs ys vs ws end (omega (arith, e)) in
      rw (head-append xs ys end, ih) (sym (append_assoc (replicate (get_or xs 0 (get_or ys 0 end) - x) v) (expansion xs vs (get_or ys 0 end)) (expansion ys ws end)))

pub rise_left : (xs ys : List ℕ) (end : ℕ) → Rise (xs ++ ys) end → Rise xs (get_or ys 0 end)
rise_left [] ys end h = tt
rise_left (x ∷ xs) ys end h = (rw (← head-append xs ys end) h.0, rise_left xs ys end h.1)

pub rise_right : (xs ys : List ℕ) (end : ℕ) → Rise (xs ++ ys) end → Rise ys end
rise_right [] ys end h = h
rise_right (x ∷ xs) ys end h = rise_right xs ys end h.1

pub rise_join : (xs ys : List ℕ) (end : ℕ) → Rise xs (get_or ys 0 end) → Rise ys end → Rise (xs ++ ys) end
rise_join [] ys end h k = k
rise_join (x ∷ xs) ys end h k = (rw (head-append xs ys end) h.0, rise_join xs ys end h.1 k)

pub rise_le : (xs : List ℕ) (end : ℕ) → Rise xs end → get_or xs 0 end ≤ end
rise_le [] end h = omega arith
rise_le (x ∷ xs) end h = let tail = rise_le xs end h.1 in omega (arith, h.0)

module _ {V : Type 0} where
  pub length-expansion : (xs : List ℕ) (vs : List V) (end : ℕ) → length xs ≡ length vs → Rise xs end
      → length (expansion xs vs end) + get_or xs 0 end ≡ end
  length-expansion [] vs end e h = omega arith
  length-expansion (x ∷ xs) [] end e h = absurd (omega (arith, e))
  length-expansion (x ∷ xs) (v ∷ vs) end e h =
      let ih = length-expansion xs vs end (omega (arith, e)) h.1 in
      let le = rise_le xs end h.1 in
      rw (length-append (replicate (get_or xs 0 end - x) v) (expansion xs vs end), length-replicate (get_or xs 0 end - x) v)
      (omega (arith, h.0))

-- text inserted or deleted before a run moves its start and the end alike
pub rise-map_add : (xs : List ℕ) (end n : ℕ) → Rise xs end → Rise (map (λ s. s + n) xs) (end + n)
rise-map_add [] end n h = tt
rise-map_add (x ∷ []) end n h = (omega (arith, h.0), tt)
rise-map_add (x ∷ y ∷ ys) end n h = (omega (arith, h.0), rise-map_add (y ∷ ys) end n h.1)

pub head-map_add : (xs : List ℕ) (end n : ℕ) → get_or (map (λ s. s + n) xs) 0 (end + n) ≡ get_or xs 0 end + n
head-map_add [] end n = refl
head-map_add (x ∷ xs) end n = refl

pub rise_above : (xs : List ℕ) (end n : ℕ) → n ≤ get_or xs 0 end → Rise xs end → map (λ s. s + n) (map (λ s. s - n) xs) ≡ xs
rise_above [] end n le h = refl
rise_above (x ∷ xs) end n le h =
    let e : (x - n) + n ≡ x = omega arith in
    let le' : n ≤ get_or xs 0 end = omega (arith, h.0) in
    rw (e, rise_above xs end n le' h.1) refl

module _ {V : Type 0} where
  pub expansion-map_add : (xs : List ℕ) (vs : List V) (end n : ℕ) → expansion (map (λ s. s + n) xs) vs (end + n) ≡ expansion xs vs end
  expansion-map_add [] vs end n = refl
  expansion-map_add (x ∷ xs) [] end n = refl
  expansion-map_add (x ∷ xs) (v ∷ vs) end n =
      let e : (get_or xs 0 end + n) - (x + n) ≡ get_or xs 0 end - x = omega arith in
      rw (head-map_add xs end n, expansion-map_add xs vs end n, e) refl

pub rise-map_sub : (xs : List ℕ) (end n : ℕ) → n ≤ get_or xs 0 end → Rise xs end → Rise (map (λ s. s - n) xs) (end - n)
rise-map_sub [] end n le h = tt
rise-map_sub (x ∷ []) end n le h = (omega (arith, h.0), tt)
rise-map_sub (x ∷ y ∷ ys) end n le h = (omega (arith, h.0), rise-map_sub (y ∷ ys) end n (omega (arith, h.0)) h.1)

pub head-map_sub : (xs : List ℕ) (end n : ℕ) → get_or (map (λ s. s - n) xs) 0 (end - n) ≡ get_or xs 0 end - n
head-map_sub [] end n = refl
head-map_sub (x ∷ xs) end n = refl

pub rise_positive : (xs : List ℕ) (end : ℕ) → 0 < length xs → Rise xs end → 0 < end
rise_positive [] end l h = absurd (omega (arith, l))
rise_positive (x ∷ xs) end l h = let le = rise_le xs end h.1 in omega (arith, h.0)

-- a later start is no lower, and the one past the last is the end
pub rise_first : (xs : List ℕ) (end b : ℕ) → b ≤ length xs → Rise xs end → get_or xs 0 end ≤ get_or xs b end
rise_first [] end b l h = omega arith
rise_first (x ∷ xs) end zero l h = omega arith
rise_first (x ∷ xs) end (suc b) l h = let later = rise_first xs end b (omega (arith, l)) h.1 in omega (arith, h.0, later)

pub rise_lt : (xs : List ℕ) (end a b : ℕ) → a < b → b ≤ length xs → Rise xs end → get_or xs a 0 < get_or xs b end
rise_lt [] end a b o l h = absurd (omega (arith, l, o))
rise_lt (x ∷ xs) end zero zero o l h = absurd (omega (arith, o))
rise_lt (x ∷ xs) end zero (suc b) o l h = let later = rise_first xs end b (omega (arith, l)) h.1 in omega (arith, h.0, later)
rise_lt (x ∷ xs) end (suc a) zero o l h = absurd (omega (arith, o))
rise_lt (x ∷ xs) end (suc a) (suc b) o l h = rise_lt xs end a b (omega (arith, o)) (omega (arith, l)) h.1

pub rise_within : (xs : List ℕ) (end b : ℕ) → Rise xs end → get_or xs b end ≤ end
rise_within [] end b h = omega arith
rise_within (x ∷ xs) end zero h = rise_le (x ∷ xs) end h
rise_within (x ∷ xs) end (suc b) h = rise_within xs end b h.1

-- a run that starts below another one comes before it
pub run_before : (xs : List ℕ) (end a b : ℕ) → Rise xs end → a < length xs → get_or xs a 0 < get_or xs b end → a < b
run_before xs end a b h la low =
    ⊎_elim (λ o. o)
    (λ o. ⊎_elim
    (λ lt. let later = rise_lt xs end b a lt (omega arith) h in let e = get_or_default xs b end 0 (omega arith) in let e' = get_or_default xs a end 0 la in absurd (omega arith))
    (λ ge. let same : b ≡ a = omega arith in let e : get_or xs b end ≡ get_or xs a 0 = ap (λ i. get_or xs i end) same ∙ get_or_default xs a end 0 la in absurd (omega arith))
    (cases_lt b a))
    (cases_lt a b)
