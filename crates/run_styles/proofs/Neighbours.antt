-- Lists with no two equal neighbours: their parts, and how they are joined.
use Rattle.run_styles.proofs.Names.{◌≡◌, ◌≢◌, ℕ, ◌+◌, ◌-◌, ◌<◌, ◌≤◌, zero, suc, List, [], ◌∷◌, ◌++◌, Some, length, take, drop, refl, sym, ap, ◌∙◌, arith, subst, take-append-drop, take-take, drop-drop, Bool, true, false, length-take-le, slice_get, IsExact, NeighboursDiffer}

module _ {V : Type 0} where
  pub slice_get-take : (k : ℕ) (xs : List V) (i : ℕ) → i < k → slice_get (take k xs) i ≡ slice_get xs i
  slice_get-take zero xs i h = absurd (omega (arith, h))
  slice_get-take (suc k) [] i h = refl
  slice_get-take (suc k) (x ∷ xs) zero h = refl
  slice_get-take (suc k) (x ∷ xs) (suc i) h = slice_get-take k xs i (omega (arith, h))

  pub slice_get-drop : (k : ℕ) (xs : List V) (i : ℕ) → slice_get (drop k xs) i ≡ slice_get xs (k + i)
  slice_get-drop zero xs i = let e : 0 + i ≡ i = omega arith in rw e refl
  slice_get-drop (suc k) [] i = refl
  slice_get-drop (suc k) (x ∷ xs) i = let e : suc k + i ≡ suc (k + i) = omega arith in rw e (slice_get-drop k xs i)

  pub differ_take : (k : ℕ) (xs : List V) → NeighboursDiffer xs → NeighboursDiffer (take k xs)
  differ_take zero xs h = tt
  differ_take (suc k) [] h = tt
  differ_take (suc zero) (x ∷ xs) h = tt
  differ_take (suc (suc k)) (x ∷ []) h = tt
  differ_take (suc (suc k)) (x ∷ y ∷ ys) h = (h.0, differ_take (suc k) (y ∷ ys) h.1)

  pub differ_drop : (k : ℕ) (xs : List V) → NeighboursDiffer xs → NeighboursDiffer (drop k xs)
  differ_drop zero xs h = h
  differ_drop (suc k) [] h = tt
  differ_drop (suc zero) (x ∷ []) h = tt
  differ_drop (suc (suc k)) (x ∷ []) h = tt
  differ_drop (suc k) (x ∷ y ∷ ys) h = differ_drop k (y ∷ ys) h.1

  pub differ_cons : (v : V) (xs : List V) → slice_get xs 0 ≢ Some v → NeighboursDiffer xs → NeighboursDiffer (v ∷ xs)
  differ_cons v [] apart h = tt
  differ_cons v (x ∷ xs) apart h = (λ e. apart (ap Some (sym e)), h)

  differ_append : (xs ys : List V) → ((i : ℕ) (v : V) → suc i ≡ length xs → slice_get xs i ≡ Some v → slice_get ys 0 ≢ Some v) → NeighboursDiffer xs → NeighboursDiffer ys → NeighboursDiffer (xs ++ ys)
  differ_append [] ys apart h k = k
  differ_append (x ∷ []) ys apart h k = differ_cons x ys (apart 0 x refl refl) k
  differ_append (x ∷ x' ∷ xs) ys apart h k = (h.0, differ_append (x' ∷ xs) ys (λ i v e. apart (suc i) v (ap suc e)) h.1 k)

  -- the value next to one differs from it
  pub differ_next : (xs : List V) (i : ℕ) (v : V) → NeighboursDiffer xs → slice_get xs i ≡ Some v → slice_get xs (i + 1) ≢ Some v
  differ_next xs i v h e = let n : i + 1 ≡ suc i = omega arith in rw n (next xs i h e)
    where
      next : (xs : List V) (i : ℕ) → NeighboursDiffer xs → slice_get xs i ≡ Some v → slice_get xs (suc i) ≢ Some v
      next [] i h e f = cc
      next (x ∷ []) i h e f = cc
      next (x ∷ y ∷ ys) zero h e f = let same : x ≡ y = cc in h.0 same
      next (x ∷ y ∷ ys) (suc i) h e f = next (y ∷ ys) i h.1 e f

  -- both sides of a place, joined
  pub differ_seam : (xs : List V) (k : ℕ) → k ≤ length xs → NeighboursDiffer (take k xs) → NeighboursDiffer (drop k xs) → ((v : V) → 0 < k → slice_get xs (k - 1) ≡ Some v → slice_get xs k ≢ Some v) → NeighboursDiffer xs
  differ_seam xs k le h h' apart =
      let P : List V → Type 0 = λ l. NeighboursDiffer l in
      let n : k + 0 ≡ k = omega arith in
      subst P (take-append-drop k xs) (differ_append (take k xs) (drop k xs)
      (λ i v e f. let last : suc i ≡ k = e ∙ length-take-le k xs le in let i' : k - 1 ≡ i = omega (arith, last) in
      let there : slice_get xs (k - 1) ≡ Some v = rw i' (sym (slice_get-take k xs i (omega (arith, last))) ∙ f) in
      rw (slice_get-drop k xs 0, n) (apart v (omega (arith, last)) there)) h h')

  -- a value between two parts of a list, whose ends it differs from
  pub differ_between : (xs : List V) (a b : ℕ) (v : V) → a ≤ length xs → NeighboursDiffer (take a xs) → NeighboursDiffer (drop b xs) → (0 < a → slice_get xs (a - 1) ≢ Some v) → slice_get xs b ≢ Some v → NeighboursDiffer (take a xs ++ v ∷ drop b xs)
  differ_between xs a b v le h h' before behind =
      let n : b + 0 ≡ b = omega arith in
      differ_append (take a xs) (v ∷ drop b xs)
      (λ i w e f g. let last : suc i ≡ a = e ∙ length-take-le a xs le in let i' : a - 1 ≡ i = omega (arith, last) in
      let there : slice_get xs (a - 1) ≡ Some v = rw i' (sym (slice_get-take a xs i (omega (arith, last))) ∙ f ∙ sym g) in
      before (omega (arith, last)) there)
      h (differ_cons v (drop b xs) (rw (slice_get-drop b xs 0, n) behind) h')

  pub differ_shorter : (xs : List V) (k m : ℕ) → NeighboursDiffer (take k xs) → m ≤ k → NeighboursDiffer (take m xs)
  differ_shorter xs k m h le = let P : List V → Type 0 = λ l. NeighboursDiffer l in subst P (take-take m k xs le) (differ_take m (take k xs) h)

  pub differ_further : (xs : List V) (k m : ℕ) → NeighboursDiffer (drop k xs) → k ≤ m → NeighboursDiffer (drop m xs)
  differ_further xs k m h le =
      let n : k + (m - k) ≡ m = omega arith in
      let P : List V → Type 0 = λ l. NeighboursDiffer l in
      subst P (drop-drop (m - k) k xs ∙ ap (λ j. drop j xs) n) (differ_drop (m - k) (drop k xs) h)

  -- the value before the last one of a front, or behind the first one of the rest
  pub differ_before : (xs : List V) (k : ℕ) (v : V) → NeighboursDiffer (take k xs) → 0 < k - 1 → slice_get xs (k - 1) ≡ Some v → slice_get xs (k - 1 - 1) ≢ Some v
  differ_before xs k v h pos e f =
      let n : (k - 1 - 1) + 1 ≡ k - 1 = omega arith in
      differ_next (take k xs) (k - 1 - 1) v h (slice_get-take k xs (k - 1 - 1) (omega arith) ∙ f) (rw n (slice_get-take k xs (k - 1) (omega arith) ∙ e))

  pub differ_behind : (xs : List V) (k : ℕ) (v : V) → NeighboursDiffer (drop k xs) → slice_get xs k ≡ Some v → slice_get xs (k + 1) ≢ Some v
  differ_behind xs k v h e f =
      let n : k + 0 ≡ k = omega arith in
      let m : 0 + 1 ≡ 1 = omega arith in
      differ_next (drop k xs) 0 v h (slice_get-drop k xs 0 ∙ ap (λ j. slice_get xs j) n ∙ e) (rw m (slice_get-drop k xs 1 ∙ f))

module _ {V : Type 0} {eq : V → V → Bool} where
  pub unequal : IsExact eq → (x y : V) → x ≢ y → eq x y ≡ false
  unequal exact x y h = by (eq x y) refl
    where
      by : (b : Bool) → eq x y ≡ b → eq x y ≡ false
      by true e = absurd (h (exact x y e))
      by false e = e

module _ {V : Type 0} where
  -- a value appended, which differs from the last
  pub differ_push : (xs : List V) (v : V) → (0 < length xs → slice_get xs (length xs - 1) ≢ Some v) → NeighboursDiffer xs → NeighboursDiffer (xs ++ v ∷ [])
  differ_push xs v apart h =
      differ_append xs (v ∷ []) (λ i w e f g. let i' : length xs - 1 ≡ i = omega (arith, e) in apart (omega (arith, e)) (ap (λ j. slice_get xs j) i' ∙ f ∙ sym g)) h tt
