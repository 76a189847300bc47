-- Lists with an item for each indicator.
use Rattle.decorations.proofs.Names.{◌≡◌, ◌≢◌, ℕ, zero, suc, ◌+◌, ◌<◌, List, [], ◌∷◌, length, map, get_or, set, replicate, refl, ap, ◌∙◌, sym, arith, inl, inr, zero-add, range_with_len, AllByRecursion, get_or-set_same, get_or-set_other, length-set, ext_get_or, cases_eq, indicators}
use Rattle.std.proofs.lemmas.List.FromFn.{length-map-range_with_len, get_or-map-range_with_len}

module _ {X : Type 0} where
  map_both : {Y : Type 0} (h : X → Y) (f : ℕ → X) (g : ℕ → Y) → ((k : ℕ) → g k ≡ h (f k)) → (ks : List ℕ) → map g ks ≡ map h (map f ks)
  map_both h f g e [] = refl
  map_both h f g e (k ∷ ks) = rw (e k) (ap (λ l. h (f k) ∷ l) (map_both h f g e ks))

  map_same : (f g : ℕ → X) → ((k : ℕ) → f k ≡ g k) → (ks : List ℕ) → map f ks ≡ map g ks
  map_same f g e [] = refl
  map_same f g e (k ∷ ks) = rw (e k) (ap (λ l. g k ∷ l) (map_same f g e ks))

  map_all : (P : X → Type 0) (f : ℕ → X) → ((k : ℕ) → P (f k)) → (ks : List ℕ) → AllByRecursion P (map f ks)
  map_all P f h [] = tt
  map_all P f h (k ∷ ks) = (h k, map_all P f h ks)

  range_replicate : (x : X) (a n : ℕ) → map (λ (k : ℕ). x) (range_with_len a n) ≡ replicate n x
  range_replicate x a zero = refl
  range_replicate x a (suc n) = ap (λ l. x ∷ l) (range_replicate x (a + 1) n)

  set_range : (f g : ℕ → X) (n i : ℕ) → i < n → ((k : ℕ) → k ≢ i → g k ≡ f k) → map g (range_with_len 0 n) ≡ set (map f (range_with_len 0 n)) i (g i)
  set_range f g n i h e =
      let long = length-map-range_with_len f 0 n in
      ext_get_or (g i) _ _ (length-map-range_with_len g 0 n ∙ sym (length-set _ i (g i) ∙ long)) (λ k k_in.
      let inside : k < n = omega (arith, length-map-range_with_len g 0 n) in
      get_or-map-range_with_len g 0 n k k (g i) inside (zero-add k)
      ∙ elim (cases_eq k i) [
        | inl same ↦ rw same (sym (get_or-set_same (map f (range_with_len 0 n)) i (g i) (g i) (omega (arith, long))))
        | inr apart ↦ e k apart ∙ sym (get_or-set_other (map f (range_with_len 0 n)) i k (g i) (g i) apart ∙ get_or-map-range_with_len f 0 n k k (g i) inside (zero-add k))
      ])

  -- the same change for each
  pub numbered_both : {Y : Type 0} (h : X → Y) (f : ℕ → X) (g : ℕ → Y) → ((k : ℕ) → g k ≡ h (f k)) → map g indicators ≡ map h (map f indicators)
  numbered_both h f g e = map_both h f g e indicators

  pub numbered_same : (f g : ℕ → X) → ((k : ℕ) → f k ≡ g k) → map f indicators ≡ map g indicators
  numbered_same f g e = map_same f g e indicators

  pub numbered_all : (P : X → Type 0) (f : ℕ → X) → ((k : ℕ) → P (f k)) → AllByRecursion P (map f indicators)
  numbered_all P f h = map_all P f h indicators

  pub numbered_replicate : (x : X) → map (λ (k : ℕ). x) indicators ≡ replicate 32 x
  unfolding indicators
  numbered_replicate x = range_replicate x 0 32

  pub numbered_length : (f : ℕ → X) → length (map f indicators) ≡ 32
  unfolding indicators
  numbered_length f = length-map-range_with_len f 0 32

  -- the item of one indicator
  pub numbered_at : (f : ℕ → X) (k : ℕ) (d : X) → k < 32 → get_or (map f indicators) k d ≡ f k
  unfolding indicators
  numbered_at f k d h = get_or-map-range_with_len f 0 32 k k d h (zero-add k)

  -- a change of one
  pub numbered_set : (f g : ℕ → X) (i : ℕ) → i < 32 → ((k : ℕ) → k ≢ i → g k ≡ f k) → map g indicators ≡ set (map f indicators) i (g i)
  unfolding indicators
  numbered_set f g i h e = set_range f g 32 i h e
