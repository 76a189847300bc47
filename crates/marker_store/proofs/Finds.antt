-- What a search of lines finds.
use Rattle.marker_store.proofs.Names.{◌≡◌, ℕ, ◌+◌, ◌<◌, ◌≤◌, inl, inr, Bool, true, false, zero, suc, refl, ap, ◌∙◌, arith, cases_eq, find, reverse, range_with_len, Some, None}
use Rattle.ed_model.specs.proved.Rising.{reverse_next}

pub find_none : (p : ℕ → Bool) (a n : ℕ) → ((k : ℕ) → a ≤ k → k < a + n → p k ≡ false) → find p (range_with_len a n) ≡ None
find_none p a zero none = refl
find_none p a (suc n) none = rw (none a (omega arith) (omega arith)) (find_none p (a + 1) n (λ k l h. none k (omega arith) (omega arith)))

pub find_some : (p : ℕ → Bool) (a n i : ℕ) → a ≤ i → i < a + n → p i ≡ true → ((k : ℕ) → a ≤ k → k < i → p k ≡ false) → find p (range_with_len a n) ≡ Some i
find_some p a zero i l h is none = absurd (omega arith)
find_some p a (suc n) i l h is none =
    elim (cases_eq a i) [
      | inl q ↦ let here : p a ≡ true = ap p q ∙ is in rw here (ap Some q)
      | inr ne ↦ rw (none a (omega arith) (omega arith)) (find_some p (a + 1) n i (omega arith) (omega arith) is (λ k m j. none k (omega arith) (omega arith)))
    ]

pub last_none : (p : ℕ → Bool) (n : ℕ) → ((k : ℕ) → k < n → p k ≡ false) → find p (reverse (range_with_len 0 n)) ≡ None
last_none p zero none = refl
last_none p (suc n) none = rw (reverse_next n, none n (omega arith)) (last_none p n (λ k h. none k (omega arith)))

pub last_some : (p : ℕ → Bool) (n i : ℕ) → i < n → p i ≡ true → ((k : ℕ) → i < k → k < n → p k ≡ false) → find p (reverse (range_with_len 0 n)) ≡ Some i
last_some p zero i h is none = absurd (omega arith)
last_some p (suc n) i h is none =
    elim (cases_eq n i) [
      | inl q ↦ let here : p n ≡ true = ap p q ∙ is in rw (reverse_next n, here) (ap Some q)
      | inr ne ↦ rw (reverse_next n, none n (omega arith) (omega arith)) (last_some p n i (omega arith) is (λ k m j. none k m (omega arith)))
    ]
