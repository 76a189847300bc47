-- Numbers still rise when some move, and when one is inserted or removed.
use Rattle.rising_numbers.proofs.Names.{◌≡◌, ℕ, ◌+◌, ◌-◌, ◌<◌, ◌≤◌, List, length, get_or, insert, remove, ◌⊎◌, inl, inr, arith, cases_lt, cases_order, length-insert, get_or-insert_below, get_or-insert_at, get_or-insert_above, length-remove, get_or-remove_below, get_or-remove_above, AreRising, CanInsert, CanLower, raised_from, lowered_from, map_from}
use Rattle.std.specs.List.Sorted.{IsStrictlyIncreasing}
use Rattle.rising_numbers.specs.proved.Rising.{rising_to}
use Rattle.rising_numbers.proofs.Lists.{length_map_from, map_from_before, map_from_behind}

-- an earlier number is below a later one
pub rising_pairs : (s : List ℕ) → IsStrictlyIncreasing s → (j k : ℕ) → j < k → k < length s → get_or s j 0 < get_or s k 0
rising_pairs s r j k h l = omega (arith, rising_to s r j k (omega arith) l)

-- an earlier number, or the same one, is not above a later one
pub rising_or_same : (s : List ℕ) → IsStrictlyIncreasing s → (j k : ℕ) → j ≤ k → k < length s → get_or s j 0 ≤ get_or s k 0
rising_or_same s r j k h l = omega (arith, rising_to s r j k h l)

-- the numbers from number i on were moved, and stay above those before them
module _ (f : ℕ → ℕ) (s : List ℕ) (end end' i : ℕ) (sound : AreRising s end) (here : (k : ℕ) → k < i → k < length s → get_or s k 0 ≤ end')
    (past : (j k : ℕ) → j < i → i ≤ k → k < length s → get_or s j 0 < f (get_or s k 0)) (rises : (k : ℕ) → i ≤ k → k + 1 < length s → f (get_or s k 0) < f (get_or s (k + 1) 0))
    (within : (k : ℕ) → i ≤ k → k < length s → f (get_or s k 0) ≤ end') where
  moved_near : (k : ℕ) → k < i → get_or (map_from f i s) k 0 ≡ get_or s k 0
  moved_near k h = map_from_before f i s k h

  moved_far : (k : ℕ) → i ≤ k → k < length s → get_or (map_from f i s) k 0 ≡ f (get_or s k 0)
  moved_far k h b = map_from_behind f i s k h b

  moved_rising : (k : ℕ) → k + 1 < length s → (k < i) ⊎ (i ≤ k) → (k + 1 < i) ⊎ (i ≤ k + 1) → get_or (map_from f i s) k 0 < get_or (map_from f i s) (k + 1) 0
  moved_rising k b (inl h) (inl a) = omega (arith, moved_near k h, moved_near (k + 1) a, sound.rising k b)
  moved_rising k b (inl h) (inr a) = omega (arith, moved_near k h, moved_far (k + 1) a b, past k (k + 1) h a b)
  moved_rising k b (inr h) _ = omega (arith, moved_far k h (omega arith), moved_far (k + 1) (omega arith) b, rises k h b)

  moved_within : (k : ℕ) → k < length s → (k < i) ⊎ (i ≤ k) → get_or (map_from f i s) k 0 ≤ end'
  moved_within k b (inl h) = omega (arith, moved_near k h, here k h b)
  moved_within k b (inr h) = omega (arith, moved_far k h b, within k h b)

  pub sound_moved : AreRising (map_from f i s) end'
  sound_moved =
      let n = length_map_from f i s in
      record {
        rising = λ k b. moved_rising k (omega arith) (cases_lt k i) (cases_lt (k + 1) i);
        within = λ k b. moved_within k (omega arith) (cases_lt k i);
      }

pub sound_raised : (s : List ℕ) (end i n : ℕ) → AreRising s end → AreRising (raised_from s i n) (end + n)
sound_raised s end i n sound =
    sound_moved (λ x. x + n) s end (end + n) i sound (λ k h b. omega (arith, sound.within k b)) (λ j k a h b. omega (arith, rising_pairs s sound.rising j k (omega arith) b))
    (λ k h b. omega (arith, sound.rising k b)) (λ k h b. omega (arith, sound.within k b))

-- the numbers from number i on can be lowered by n, and those before them stay below
module _ (s : List ℕ) (end i n : ℕ) (sound : AreRising s end) (can : CanLower s end i n) where
  pub enough : (k : ℕ) → i ≤ k → k < length s → n ≤ get_or s k 0
  enough k h b = omega (arith, can.next (omega arith), rising_or_same s sound.rising i k h b)

  before : (j : ℕ) → j < i → get_or s j 0 ≤ get_or s (i - 1) 0
  before j a = omega (arith, rising_or_same s sound.rising j (i - 1) (omega arith) (omega (arith, can.within)))

  pub before_end : (j : ℕ) → j < i → get_or s j 0 + n ≤ end
  before_end j a = omega (arith, before j a, (can.behind (omega arith)).0)

  past_loss : (j k : ℕ) → j < i → i ≤ k → k < length s → get_or s j 0 + n < get_or s k 0
  past_loss j k a h b = omega (arith, before j a, (can.behind (omega arith)).1 (omega arith), rising_or_same s sound.rising i k h b)

  pub sound_lowered : AreRising (lowered_from s i n) (end - n)
  sound_lowered =
      sound_moved (λ x. x - n) s end (end - n) i sound (λ k h b. omega (arith, before_end k h)) (λ j k a h b. omega (arith, past_loss j k a h b))
      (λ k h b. omega (arith, sound.rising k b, enough k h (omega arith))) (λ k h b. omega (arith, sound.within k b))

-- a number was inserted at place i
module _ (s : List ℕ) (end i x : ℕ) (sound : AreRising s end) (can : CanInsert s end i x) where
  inserted_below : (k : ℕ) → k < i → get_or (insert s i x) k 0 ≡ get_or s k 0
  inserted_below k h = get_or-insert_below s i x 0 k h can.within

  inserted_at : get_or (insert s i x) i 0 ≡ x
  inserted_at = get_or-insert_at s i x 0 can.within

  inserted_above : (k : ℕ) → i ≤ k → get_or (insert s i x) (k + 1) 0 ≡ get_or s k 0
  inserted_above k h = get_or-insert_above s i x 0 k h can.within

  inserted_rising :
      (k : ℕ) → k < length s → (k + 1 ≡ i) ⊎ ((k + 1 < i) ⊎ (i < k + 1)) → (k ≡ i) ⊎ ((k < i) ⊎ (i < k)) → get_or (insert s i x) k 0 < get_or (insert s i x) (k + 1) 0
  inserted_rising k b (inl q) _ =
      let p : get_or s k 0 < x = let e : i - 1 ≡ k = omega arith in rw e at (can.behind (omega arith)) in
      rw q (omega (arith, inserted_below k (omega arith), inserted_at))
  inserted_rising k b (inr (inl h)) _ =
      omega (arith, inserted_below k (omega arith), inserted_below (k + 1) h, sound.rising k (omega (arith, can.within)))
  inserted_rising k b (inr (inr h)) (inl q) =
      let p : get_or (insert s i x) k 0 ≡ x = rw q inserted_at in
      let m : x < get_or s k 0 = rw q (can.before (omega arith)) in
      omega (arith, inserted_above k (omega arith))
  inserted_rising k b (inr (inr h)) (inr (inl a)) = absurd (omega arith)
  inserted_rising k b (inr (inr h)) (inr (inr a)) =
      let e : k - 1 + 1 ≡ k = omega arith in
      let p : get_or (insert s i x) k 0 ≡ get_or s (k - 1) 0 = rw e at (inserted_above (k - 1) (omega arith)) in
      let m : get_or s (k - 1) 0 < get_or s k 0 = rw e at (sound.rising (k - 1) (omega arith)) in
      omega (arith, inserted_above k (omega arith))

  inserted_within : (k : ℕ) → k < length s + 1 → (k ≡ i) ⊎ ((k < i) ⊎ (i < k)) → get_or (insert s i x) k 0 ≤ end
  inserted_within k b (inl q) = rw q (omega (arith, inserted_at, can.at_most))
  inserted_within k b (inr (inl h)) = omega (arith, inserted_below k h, sound.within k (omega (arith, can.within)))
  inserted_within k b (inr (inr h)) =
      let e : k - 1 + 1 ≡ k = omega arith in
      let p : get_or (insert s i x) k 0 ≡ get_or s (k - 1) 0 = rw e at (inserted_above (k - 1) (omega arith)) in
      omega (arith, sound.within (k - 1) (omega arith))

  pub sound_inserted : AreRising (insert s i x) end
  sound_inserted =
      let l = length-insert s i x can.within in
      record {
        rising = λ k b. inserted_rising k (omega arith) (cases_order (k + 1) i) (cases_order k i);
        within = λ k b. inserted_within k (omega arith) (cases_order k i);
      }

-- the number at place i was removed
module _ (s : List ℕ) (end i : ℕ) (sound : AreRising s end) (l : i < length s) where
  removed_below : (k : ℕ) → k < i → get_or (remove s i) k 0 ≡ get_or s k 0
  removed_below k h = get_or-remove_below s i 0 k h l

  removed_above : (k : ℕ) → i ≤ k → get_or (remove s i) k 0 ≡ get_or s (k + 1) 0
  removed_above k h = get_or-remove_above s i 0 k h l

  removed_rising : (k : ℕ) → k + 1 < length s - 1 → (k < i) ⊎ (i ≤ k) → (k + 1 < i) ⊎ (i ≤ k + 1) → get_or (remove s i) k 0 < get_or (remove s i) (k + 1) 0
  removed_rising k b (inl h) (inl a) = omega (arith, removed_below k h, removed_below (k + 1) a, sound.rising k (omega arith))
  removed_rising k b (inl h) (inr a) =
      omega (arith, removed_below k h, removed_above (k + 1) a, rising_pairs s sound.rising k (k + 1 + 1) (omega arith) (omega arith))
  removed_rising k b (inr h) _ = omega (arith, removed_above k h, removed_above (k + 1) (omega arith), sound.rising (k + 1) (omega arith))

  removed_within : (k : ℕ) → k < length s - 1 → (k < i) ⊎ (i ≤ k) → get_or (remove s i) k 0 ≤ end
  removed_within k b (inl h) = omega (arith, removed_below k h, sound.within k (omega arith))
  removed_within k b (inr h) = omega (arith, removed_above k h, sound.within (k + 1) (omega arith))

  pub sound_removed : AreRising (remove s i) end
  sound_removed =
      let n = length-remove s i l in
      record {
        rising = λ k b. removed_rising k (omega arith) (cases_lt k i) (cases_lt (k + 1) i);
        within = λ k b. removed_within k (omega arith) (cases_lt k i);
      }
