-- Numbers in lists: a function applied from a place on, and a range turned into distances.
use Rattle.rising_numbers.proofs.Names.{◌≡◌, ℕ, ◌+◌, ◌-◌, ◌<◌, ◌≤◌, ◌≢◌, zero, suc, List, [], ◌∷◌, length, get_or, set, map, refl, sym, ap, ◌∙◌, ◌⊎◌, inl, inr, arith, length-set, length-map, get_or-map, get_or-set_same, get_or-set_other, get_or_past, cases_eq, cases_lt, map_from, IsTurned, IsUpdated}

pub length_map_from : (f : ℕ → ℕ) (n : ℕ) (xs : List ℕ) → length (map_from f n xs) ≡ length xs
length_map_from f zero xs = length-map xs f
length_map_from f (suc n) [] = refl
length_map_from f (suc n) (x ∷ xs) = ap suc (length_map_from f n xs)

pub map_from_before : (f : ℕ → ℕ) (n : ℕ) (xs : List ℕ) (k : ℕ) → k < n → get_or (map_from f n xs) k 0 ≡ get_or xs k 0
map_from_before f zero xs k h = absurd (omega arith)
map_from_before f (suc n) [] k h = refl
map_from_before f (suc n) (x ∷ xs) zero h = refl
map_from_before f (suc n) (x ∷ xs) (suc k) h = map_from_before f n xs k (omega arith)

pub map_from_behind :
    (f : ℕ → ℕ) (n : ℕ) (xs : List ℕ) (k : ℕ) → n ≤ k → k < length xs → get_or (map_from f n xs) k 0 ≡ f (get_or xs k 0)
map_from_behind f zero xs k h l = get_or-map f xs k 0 0 l
map_from_behind f (suc n) [] k h l = absurd (omega arith)
map_from_behind f (suc n) (x ∷ xs) zero h l = absurd (omega arith)
map_from_behind f (suc n) (x ∷ xs) (suc k) h l = map_from_behind f n xs k (omega arith) (omega arith)

-- an item that was read, as the number that it stands for
pub read_number : {X : Type 0} (f : X → ℕ) (xs : List X) (i : ℕ) (x : X) → i < length xs → x ≡ get_or xs i x → f x ≡ get_or (map f xs) i 0
read_number f xs i x l e = ap f e ∙ sym (get_or-map f xs i x 0 l)

turned_at :
    (end low i x : ℕ) (old new : List ℕ) (k : ℕ) → IsTurned end low i old new → i < length new → x ≡ end - get_or new i 0
    → low ≤ k → k < i + 1 → (k ≡ i) ⊎ (k ≢ i) → get_or (set new i x) k 0 ≡ end - get_or old k 0
turned_at end low i x old new k t l e a b (inl q) =
    rw q (get_or-set_same new i x 0 l ∙ e ∙ ap (λ v. end - v) (t.kept_above i (omega arith)))
turned_at end low i x old new k t l e a b (inr ne) =
    get_or-set_other new i k x 0 ne ∙ t.turned k a (omega arith)

-- one more number is turned
pub turned_more :
    (end low i x : ℕ) (old new : List ℕ) → IsTurned end low i old new → low ≤ i → i < length new → x ≡ end - get_or new i 0
    → IsTurned end low (i + 1) old (set new i x)
turned_more end low i x old new t h l e =
    record {
      same_length = length-set new i x ∙ t.same_length;
      turned = λ k a b. turned_at end low i x old new k t l e a b (cases_eq k i);
      kept_below = λ k a. let ne : k ≢ i = omega arith in get_or-set_other new i k x 0 ne ∙ t.kept_below k a;
      kept_above = λ k a. let ne : k ≢ i = omega arith in get_or-set_other new i k x 0 ne ∙ t.kept_above k (omega arith);
    }

-- no number is turned
pub turned_none : (end low : ℕ) (old : List ℕ) → IsTurned end low low old old
turned_none end low old =
    record {
      same_length = refl;
      turned = λ k a b. absurd (omega arith);
      kept_below = λ k a. refl;
      kept_above = λ k a. refl;
    }

-- items replaced by items that stand for the distances to the end; d is the value of a read past a list
module _ {X : Type 0} (f : X → ℕ) (R : X → X → Type 0) (end low high : ℕ) (old new : List X) (d : X)
    (fits : high ≤ length old) (u : IsUpdated R low high old new) (turns : (x y : X) → R x y → f y ≡ end - f x) where
  number_of : (xs : List X) (k : ℕ) → k < length xs → get_or (map f xs) k 0 ≡ f (get_or xs k d)
  number_of xs k l = get_or-map f xs k d 0 l

  kept_number : (k : ℕ) → (k < length old) ⊎ (length old ≤ k) → get_or new k d ≡ get_or old k d → get_or (map f new) k 0 ≡ get_or (map f old) k 0
  kept_number k (inl l) e = number_of new k (omega (arith, u.same_length)) ∙ ap f e ∙ sym (number_of old k l)
  kept_number k (inr h) e =
      get_or_past (map f new) k 0 (omega (arith, length-map new f, u.same_length)) ∙ sym (get_or_past (map f old) k 0 (omega (arith, length-map old f)))

  pub turned_of_updated : IsTurned end low high (map f old) (map f new)
  turned_of_updated =
      record {
        same_length = length-map new f ∙ u.same_length ∙ sym (length-map old f);
        turned = λ k a b.
            number_of new k (omega (arith, u.same_length)) ∙ turns (get_or old k d) (get_or new k d) (u.updated k d a b)
            ∙ ap (λ v. end - v) (sym (number_of old k (omega arith)));
        kept_below = λ k a. kept_number k (cases_lt k (length old)) (u.kept_below k d a);
        kept_above = λ k a. kept_number k (cases_lt k (length old)) (u.kept_above k d a);
      }
