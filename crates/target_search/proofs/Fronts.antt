-- Lists that begin with another, compared byte by byte through a function.
use Rattle.target_search.proofs.Names.{◌≡◌, ℕ, zero, suc, ◌<◌, ◌≤◌, Bool, true, false, eqb, ◌&&◌, List, [], ◌∷◌, ◌++◌, length, map, get_or, refl, sym, ap, arith, inl, inr, ◌⊎◌, starts_with, cases_Bool, eqb-true, eq-eqb, false≢true}

pub and_assoc : (a b c : Bool) → ((a && b) && c) ≡ (a && (b && c))
and_assoc true b c = refl
and_assoc false b c = refl

pub and_both : (a b : Bool) → a ≡ true → b ≡ true → (a && b) ≡ true
and_both true b p q = q
and_both false b p q = p

pub and_first : (a b : Bool) → (a && b) ≡ true → a ≡ true
and_first true b h = refl
and_first false b h = h

pub one_fails : (a b : Bool) → (a && b) ≡ false → (a ≡ false) ⊎ (b ≡ false)
one_fails true b h = inr h
one_fails false b h = inl refl

pub and_second : (a b : Bool) → (a && b) ≡ true → b ≡ true
and_second true b h = h
and_second false b h = absurd (false≢true h)

module _ (f : ℕ → ℕ) where
  pub front_true : (xs ys : List ℕ) → length ys ≤ length xs → ((k : ℕ) → k < length ys → f (get_or xs k 0) ≡ f (get_or ys k 0)) → starts_with eqb (map f xs) (map f ys) ≡ true
  front_true xs [] l reads = refl
  front_true [] (y ∷ ys) l reads = absurd (omega arith)
  front_true (x ∷ xs) (y ∷ ys) l reads =
      and_both (eqb (f y) (f x)) (starts_with eqb (map f xs) (map f ys)) (eq-eqb _ _ (sym (reads 0 (omega arith))))
      (front_true xs ys (omega arith) (λ k b. reads (suc k) (omega arith)))

  pub front_long : (xs ys : List ℕ) → starts_with eqb (map f xs) (map f ys) ≡ true → length ys ≤ length xs
  front_long xs [] h = omega arith
  front_long [] (y ∷ ys) h = absurd (false≢true h)
  front_long (x ∷ xs) (y ∷ ys) h = omega (arith, front_long xs ys (and_second (eqb (f y) (f x)) _ h))

  pub front_reads : (xs ys : List ℕ) → starts_with eqb (map f xs) (map f ys) ≡ true → (k : ℕ) → k < length ys → f (get_or xs k 0) ≡ f (get_or ys k 0)
  front_reads xs [] h k b = absurd (omega arith)
  front_reads [] (y ∷ ys) h k b = absurd (false≢true h)
  front_reads (x ∷ xs) (y ∷ ys) h zero b = sym (eqb-true _ _ (and_first (eqb (f y) (f x)) _ h))
  front_reads (x ∷ xs) (y ∷ ys) h (suc k) b = front_reads xs ys (and_second (eqb (f y) (f x)) _ h) k (omega arith)

  pub front_false : (xs ys : List ℕ) (k : ℕ) → k < length ys → (f (get_or xs k 0) ≡ f (get_or ys k 0) → ⊥) → starts_with eqb (map f xs) (map f ys) ≡ false
  front_false xs ys k l apart =
      elim (cases_Bool (starts_with eqb (map f xs) (map f ys))) [
        | inl same ↦ absurd (apart (front_reads xs ys same k l))
        | inr other ↦ other
      ]

  -- in two pieces
  pub front_pieces : (xs zs ys ws : List ℕ) → length xs ≡ length ys
      → (starts_with eqb (map f xs) (map f ys) && starts_with eqb (map f zs) (map f ws)) ≡ starts_with eqb (map f (xs ++ zs)) (map f (ys ++ ws))
  front_pieces [] zs [] ws e = refl
  front_pieces [] zs (y ∷ ys) ws e = absurd (omega arith)
  front_pieces (x ∷ xs) zs [] ws e = absurd (omega arith)
  front_pieces (x ∷ xs) zs (y ∷ ys) ws e =
      rw (and_assoc (eqb (f y) (f x)) (starts_with eqb (map f xs) (map f ys)) (starts_with eqb (map f zs) (map f ws)))
      (ap (λ b. eqb (f y) (f x) && b) (front_pieces xs zs ys ws (omega arith)))
