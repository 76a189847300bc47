-- The stored numbers when the step moves.
use Rattle.rising_numbers.proofs.Names.{◌≡◌, ℕ, ◌-◌, ◌<◌, ◌≤◌, min, max, List, length, get_or, map, sym, ap, ◌∙◌, ◌⊎◌, inl, inr, arith, ext_get_or, length-map, cases_lt, IsTurned, IsSound, numbers_of, counted, apart}
use Rattle.rising_numbers.proofs.Lists.{length_map_from, map_from_before, map_from_behind, read_number}

-- the numbers that are stored as they are
pub numbers_near : (e s : ℕ) (xs : List ℕ) (k : ℕ) → k < s → get_or (numbers_of e s xs) k 0 ≡ get_or xs k 0
numbers_near e s xs k h = map_from_before (λ d. e - d) s xs k h

-- the numbers that are stored as distances
pub numbers_far : (e s : ℕ) (xs : List ℕ) (k : ℕ) → s ≤ k → k < length xs → get_or (numbers_of e s xs) k 0 ≡ e - get_or xs k 0
numbers_far e s xs k h l = map_from_behind (λ d. e - d) s xs k h l

pub length_numbers_of : (e s : ℕ) (xs : List ℕ) → length (numbers_of e s xs) ≡ length xs
length_numbers_of e s xs = length_map_from (λ d. e - d) s xs

-- a number that was read as its distance to the end
pub read_far :
    {X : Type 0} (f : X → ℕ) (e s : ℕ) (xs : List X) (i : ℕ) (x : X) → i < length (numbers_of e s (map f xs)) → s ≤ i → x ≡ get_or xs i x
    → get_or (numbers_of e s (map f xs)) i 0 ≡ e - f x
read_far f e s xs i x l h q =
    let m : i < length (map f xs) = omega (arith, length_numbers_of e s (map f xs)) in
    numbers_far e s (map f xs) i h m ∙ ap (λ v. e - v) (sym (read_number f xs i x (omega (arith, length-map xs f)) q))

-- the step was moved from s to t
module _ {greatest e s low high : ℕ} {xs ys : List ℕ} (t : ℕ) (sound : IsSound greatest e s xs) (turned : IsTurned e low high xs ys)
    (lo : low ≡ min s t) (hi : high ≡ max s t) where
  same_number : (k : ℕ) → k < length xs → (k < s) ⊎ (s ≤ k) → (k < t) ⊎ (t ≤ k) → get_or (numbers_of e t ys) k 0 ≡ get_or (numbers_of e s xs) k 0
  same_number k l (inl a) (inl b) =
      numbers_near e t ys k b ∙ turned.kept_below k (omega arith) ∙ sym (numbers_near e s xs k a)
  same_number k l (inl a) (inr b) =
      omega (arith, numbers_far e t ys k b (omega (arith, turned.same_length)), turned.turned k (omega arith) (omega arith), numbers_near e s xs k a, sound.within k)
  same_number k l (inr a) (inl b) =
      omega (arith, numbers_near e t ys k b, turned.turned k (omega arith) (omega arith), numbers_far e s xs k a l)
  same_number k l (inr a) (inr b) =
      omega (arith, numbers_far e t ys k b (omega (arith, turned.same_length)), turned.kept_above k (omega arith), numbers_far e s xs k a l)

  -- the numbers are the same after the step
  pub numbers_of_turned : numbers_of e t ys ≡ numbers_of e s xs
  numbers_of_turned =
      ext_get_or 0 (numbers_of e t ys) (numbers_of e s xs)
      (length_numbers_of e t ys ∙ turned.same_length ∙ sym (length_numbers_of e s xs))
      (λ k h. same_number k (omega (arith, turned.same_length, length_numbers_of e t ys)) (cases_lt k s) (cases_lt k t))

  within_at : (k : ℕ) → (k < low) ⊎ (low ≤ k) → (k < high) ⊎ (high ≤ k) → get_or ys k 0 ≤ e
  within_at k (inl a) _ = omega (arith, turned.kept_below k a, sound.within k)
  within_at k (inr a) (inl b) = omega (arith, turned.turned k a b)
  within_at k (inr a) (inr b) = omega (arith, turned.kept_above k b, sound.within k)

  -- what is stored is sound after the step
  pub sound_turned : t ≤ length xs → IsSound greatest e t ys
  sound_turned b =
      record {
        within = λ k. within_at k (cases_lt k low) (cases_lt k high);
        step_within = omega (arith, turned.same_length);
        fits = sound.fits;
        sound = rw numbers_of_turned sound.sound;
      }

-- the numbers between two places were counted
pub counted_between :
    (stepped near wanted low high total : ℕ) → low ≡ min near wanted → high ≡ max near wanted → total ≡ counted stepped (high - low)
    → total ≡ counted stepped (apart wanted near)
counted_between stepped near wanted low high total a b c = let q : high - low ≡ apart wanted near = omega arith in rw q at c
