-- Items replaced by what a relation allows for them.
use Rattle.split_vector.proofs.Names.{◌≡◌, ℕ, ◌+◌, ◌-◌, ◌<◌, ◌≤◌, ◌⊎◌, inl, inr, List, ◌++◌, length, get_or, min, max, refl, sym, ap, ◌∙◌, arith, cases_lt, get_or_append_left, get_or-append_right, EachBetween, IsUpdated}
use Rattle.std.proofs.lemmas.List.{length-append}

module _ {X : Type 0} (R : X → X → Type 0) where
  pub none_updated : (low : ℕ) (xs : List X) → IsUpdated R low low xs xs
  none_updated low xs = record { same_length = refl; updated = λ k d f l. absurd (omega arith); kept_below = λ k d l. refl; kept_above = λ k d f. refl }

  -- the items of the range that lie in the first of two lists replaced, and those that lie in the second
  module _ (low high n a b p q : ℕ) (xs ys xs' ys' : List X) (m : n ≡ length xs)
      (low_left : a ≡ min low n) (high_left : b ≡ min high n) (low_right : p ≡ max low n) (high_right : q ≡ max high n)
      (u : IsUpdated R a b xs xs') (w : IsUpdated R (p - n) (q - n) ys ys') where
    m' : length xs' ≡ n
    m' = u.same_length ∙ sym m

    in_left : (ls rs : List X) (k : ℕ) (d : X) → length ls ≡ n → k < n → get_or (ls ++ rs) k d ≡ get_or ls k d
    in_left ls rs k d e h = get_or_append_left ls rs d k (omega (arith, e))

    in_right : (ls rs : List X) (k : ℕ) (d : X) → length ls ≡ n → n ≤ k → get_or (ls ++ rs) k d ≡ get_or rs (k - n) d
    in_right ls rs k d e h = get_or-append_right ls rs n k d e h

    both_updated : (k : ℕ) (d : X) → low ≤ k → k < high → (k < n) ⊎ (n ≤ k) → R (get_or (xs ++ ys) k d) (get_or (xs' ++ ys') k d)
    both_updated k d f l (inl h) = rw (in_left xs ys k d (sym m) h, in_left xs' ys' k d m' h) (u.updated k d (omega arith) (omega arith))
    both_updated k d f l (inr h) = rw (in_right xs ys k d (sym m) h, in_right xs' ys' k d m' h) (w.updated (k - n) d (omega arith) (omega arith))

    both_below : (k : ℕ) (d : X) → k < low → (k < n) ⊎ (n ≤ k) → get_or (xs' ++ ys') k d ≡ get_or (xs ++ ys) k d
    both_below k d l (inl h) = in_left xs' ys' k d m' h ∙ u.kept_below k d (omega arith) ∙ sym (in_left xs ys k d (sym m) h)
    both_below k d l (inr h) = in_right xs' ys' k d m' h ∙ w.kept_below (k - n) d (omega arith) ∙ sym (in_right xs ys k d (sym m) h)

    both_above : (k : ℕ) (d : X) → high ≤ k → (k < n) ⊎ (n ≤ k) → get_or (xs' ++ ys') k d ≡ get_or (xs ++ ys) k d
    both_above k d f (inl h) = in_left xs' ys' k d m' h ∙ u.kept_above k d (omega arith) ∙ sym (in_left xs ys k d (sym m) h)
    both_above k d f (inr h) = in_right xs' ys' k d m' h ∙ w.kept_above (k - n) d (omega arith) ∙ sym (in_right xs ys k d (sym m) h)

    pub updated_joined : IsUpdated R low high (xs ++ ys) (xs' ++ ys')
    updated_joined =
        record {
          same_length = omega (arith, length-append xs ys, length-append xs' ys', u.same_length, w.same_length);
          updated = λ k d f l. both_updated k d f l (cases_lt k n);
          kept_below = λ k d l. both_below k d l (cases_lt k n);
          kept_above = λ k d f. both_above k d f (cases_lt k n);
        }

-- what holds of each item of the range in two lists holds of each in the second
pub each_in_right :
    {X : Type 0} (P : X → Type 0) (low high n p q : ℕ) (xs ys : List X) → n ≡ length xs → p ≡ max low n → q ≡ max high n
    → EachBetween P low high (xs ++ ys) → EachBetween P (p - n) (q - n) ys
each_in_right P low high n p q xs ys m low_right high_right each k d f l =
    let back : n + k - n ≡ k = omega arith in
    let read : get_or (xs ++ ys) (n + k) d ≡ get_or ys k d = get_or-append_right xs ys n (n + k) d (sym m) (omega arith) ∙ ap (λ j. get_or ys j d) back in
    rw (← read) (each (n + k) d (omega arith) (omega arith))
