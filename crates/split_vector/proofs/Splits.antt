-- A place in two lists, one after the other.
use Rattle.split_vector.proofs.Names.{◌≡◌, ℕ, ◌+◌, ◌-◌, ◌≤◌, List, ◌++◌, length, take, drop, sym, ap, ◌∙◌, arith, append_assoc, take-append-drop, take-append-le, slice_range, drop-drop, deleted}
use Rattle.std.proofs.lemmas.List.{drop-take}
use Rattle.std.proofs.Math.Seq.{drop-append-add, take-add}

module _ {X : Type 0} where
  -- the items from a place on moved from the end of the first list to the second
  pub moved_up : (xs ys : List X) (i : ℕ) → take i xs ++ (drop i xs ++ ys) ≡ xs ++ ys
  moved_up xs ys i = sym (append_assoc (take i xs) (drop i xs) ys) ∙ ap (λ l. l ++ ys) (take-append-drop i xs)

  -- items on either side of the seam deleted
  pub deleted_around : (xs ys : List X) (p n seam : ℕ) → seam ≡ length xs → p ≤ seam → seam ≤ p + n → take p xs ++ drop (p + n - seam) ys ≡ deleted (xs ++ ys) p n
  deleted_around xs ys p n seam e near far =
      let past : p + n ≡ length xs + (p + n - seam) = omega (arith, e) in
      (λ j. sym (take-append-le p xs ys (omega (arith, e))) j ++ sym (ap (λ k. drop k (xs ++ ys)) past ∙ drop-append-add xs ys (p + n - seam)) j)

  -- a range across the place n: its items before n, and those behind
  pub range_across : (xs : List X) (a b n : ℕ) → a ≤ n → n ≤ b → drop a (take n xs) ++ take (b - n) (drop n xs) ≡ slice_range xs a b
  range_across xs a b n p q =
      let at : n ≡ a + (n - a) = omega arith in let all : b - a ≡ n - a + (b - n) = omega arith in
      (λ j. (ap (λ k. drop a (take k xs)) at ∙ drop-take a (n - a) xs) j ++ take (b - n) ((ap (λ k. drop k xs) at ∙ sym (drop-drop (n - a) a xs)) j))
      ∙ sym (take-add (n - a) (b - n) (drop a xs)) ∙ ap (λ k. take k (drop a xs)) (sym all)
