-- The stored numbers when a number is inserted or removed at the step, and when the end moves.
use Rattle.rising_numbers.proofs.Names.{◌≡◌, ℕ, ◌+◌, ◌-◌, ◌<◌, ◌≤◌, zero, suc, refl, min, List, [], ◌∷◌, length, get_or, map, insert, remove, ap, ◌⊎◌, inl, inr, arith, add-one, append_assoc, get_or_past, map-append, take-map, drop-map, cases_lt, cases_order, length-insert, get_or-insert_below, get_or-insert_at, get_or-insert_above, length-remove, get_or-remove_below, get_or-remove_above, inserted, deleted, CanInsert, CanLower, raised_from, lowered_from, AreWithin, IsSound, numbers_of, map_from}
use Rattle.rising_numbers.proofs.Parts.{sound_raised, sound_lowered, sound_inserted, sound_removed, enough, before_end}
use Rattle.rising_numbers.proofs.Steps.{numbers_near, numbers_far, length_numbers_of}
use Rattle.std.proofs.Common.{ap₂}

pub map_inserted : {X : Type 0} (f : X → ℕ) (xs : List X) (i : ℕ) (x : X) → map f (inserted xs i (x ∷ [])) ≡ insert (map f xs) i (f x)
map_inserted f xs i x = simp (map-append, take-map, drop-map, append_assoc)

pub map_deleted : {X : Type 0} (f : X → ℕ) (xs : List X) (i : ℕ) → map f (deleted xs i 1) ≡ remove (map f xs) i
map_deleted f xs i = simp (map-append, take-map, drop-map, add-one)

within_all_at : (e : ℕ) (xs : List ℕ) (k : ℕ) → ((k : ℕ) → k < length xs → get_or xs k 0 ≤ e) → (k < length xs) ⊎ (length xs ≤ k) → get_or xs k 0 ≤ e
within_all_at e xs k w (inl h) = w k h
within_all_at e xs k w (inr h) = omega (arith, get_or_past xs k 0 h)

within_all : (e : ℕ) (xs : List ℕ) → ((k : ℕ) → k < length xs → get_or xs k 0 ≤ e) → AreWithin e xs
within_all e xs w k = within_all_at e xs k w (cases_lt k (length xs))

-- the end moved, and with it the numbers behind the step
numbers_of_moved :
    (f : ℕ → ℕ) (e e' i : ℕ) (xs : List ℕ) → ((k : ℕ) → k < length xs → i ≤ k → e' - get_or xs k 0 ≡ f (e - get_or xs k 0))
    → numbers_of e' i xs ≡ map_from f i (numbers_of e i xs)
numbers_of_moved f e e' zero [] far = refl
numbers_of_moved f e e' zero (x ∷ xs) far = ap₂ (λ y l. y ∷ l) (far zero (omega arith) (omega arith)) (numbers_of_moved f e e' zero xs (λ k b h. far (suc k) (omega arith) (omega arith)))
numbers_of_moved f e e' (suc i) [] far = refl
numbers_of_moved f e e' (suc i) (x ∷ xs) far = ap (λ l. x ∷ l) (numbers_of_moved f e e' i xs (λ k b h. far (suc k) (omega arith) (omega arith)))

-- f is applied from place s on, which lies behind the place of an insertion or a removal
put_near : (f : ℕ → ℕ) (s : ℕ) (xs : List ℕ) (i v : ℕ) → i ≤ s → i ≤ length xs → map_from f (s + 1) (insert xs i v) ≡ insert (map_from f s xs) i v
put_near f s xs zero v a b = rw add-one refl
put_near f zero xs (suc i) v a b = absurd (omega arith)
put_near f (suc s) [] (suc i) v a b = absurd (omega arith)
put_near f (suc s) (x ∷ xs) (suc i) v a b = rw add-one (ap (λ l. x ∷ l) (rw add-one at (put_near f s xs i v (omega arith) (omega arith))))

taken_near : (f : ℕ → ℕ) (s : ℕ) (xs : List ℕ) (i : ℕ) → i ≤ s → i < length xs → map_from f s (remove xs i) ≡ remove (map_from f (s + 1) xs) i
taken_near f s [] i a b = absurd (omega arith)
taken_near f s (x ∷ xs) zero a b = rw add-one refl
taken_near f zero (x ∷ xs) (suc i) a b = absurd (omega arith)
taken_near f (suc s) (x ∷ xs) (suc i) a b = rw add-one (ap (λ l. x ∷ l) (rw add-one at (taken_near f s xs i (omega arith) (omega arith))))

-- f is applied from place s on, which lies before that place
put_far : (f : ℕ → ℕ) (s : ℕ) (xs : List ℕ) (i v : ℕ) → s ≤ i → i ≤ length xs → map_from f s (insert xs i v) ≡ insert (map_from f s xs) i (f v)
put_far f zero xs i v a b = simp (map-append, take-map, drop-map)
put_far f (suc s) xs zero v a b = absurd (omega arith)
put_far f (suc s) [] (suc i) v a b = absurd (omega arith)
put_far f (suc s) (x ∷ xs) (suc i) v a b = ap (λ l. x ∷ l) (put_far f s xs i v (omega arith) (omega arith))

taken_far : (f : ℕ → ℕ) (s : ℕ) (xs : List ℕ) (i : ℕ) → s ≤ i → i < length xs → map_from f s (remove xs i) ≡ remove (map_from f s xs) i
taken_far f zero xs i a b = simp (map-append, take-map, drop-map)
taken_far f (suc s) [] i a b = absurd (omega arith)
taken_far f (suc s) (x ∷ xs) zero a b = absurd (omega arith)
taken_far f (suc s) (x ∷ xs) (suc i) a b = ap (λ l. x ∷ l) (taken_far f s xs i (omega arith) (omega arith))

-- the stored numbers stay within the end
put_within : (e i v : ℕ) (xs : List ℕ) → AreWithin e xs → i ≤ length xs → v ≤ e → (k : ℕ) → (k ≡ i) ⊎ ((k < i) ⊎ (i < k)) → get_or (insert xs i v) k 0 ≤ e
put_within e i v xs w b small k (inl q) = rw q (omega (arith, get_or-insert_at xs i v 0 b))
put_within e i v xs w b small k (inr (inl h)) = omega (arith, get_or-insert_below xs i v 0 k h b, w k)
put_within e i v xs w b small k (inr (inr h)) =
    let q : k - 1 + 1 ≡ k = omega arith in
    let left : get_or (insert xs i v) k 0 ≡ get_or xs (k - 1) 0 = rw q at (get_or-insert_above xs i v 0 (k - 1) (omega arith) b) in
    omega (arith, w (k - 1))

taken_within : (e i : ℕ) (xs : List ℕ) → AreWithin e xs → i < length xs → (k : ℕ) → (k < i) ⊎ (i ≤ k) → get_or (remove xs i) k 0 ≤ e
taken_within e i xs w l k (inl h) = omega (arith, get_or-remove_below xs i 0 k h l, w k)
taken_within e i xs w l k (inr h) = omega (arith, get_or-remove_above xs i 0 k h l, w (k + 1))

-- what a call leaves: the stored numbers are sound, and stand for the wanted ones
abbrev pub Leaves : ℕ → ℕ → ℕ → List ℕ → List ℕ → Type 0
Leaves greatest e i stored numbers = IsSound greatest e i stored × (numbers_of e i stored ≡ numbers)

pub raised :
    {greatest e i : ℕ} {xs : List ℕ} (n : ℕ) → IsSound greatest e i xs → e + n ≤ greatest
    → Leaves greatest (e + n) i xs (raised_from (numbers_of e i xs) i n)
raised {greatest} {e} {i} {xs} n sound fits =
    let same = numbers_of_moved (λ x. x + n) e (e + n) i xs (λ k b h. omega (arith, sound.within k)) in (
      record { within = λ k. omega (arith, sound.within k); step_within = sound.step_within; fits = fits; sound = rw same (sound_raised (numbers_of e i xs) e i n sound.sound) },
      same,
    )

pub lowered :
    {greatest e i : ℕ} {xs : List ℕ} (n : ℕ) → IsSound greatest e i xs → CanLower (numbers_of e i xs) e i n
    → Leaves greatest (e - n) i xs (lowered_from (numbers_of e i xs) i n)
lowered {greatest} {e} {i} {xs} n sound can =
    let m = length_numbers_of e i xs in
    let same = numbers_of_moved (λ x. x - n) e (e - n) i xs (λ k b h. omega arith) in
    let kept : (k : ℕ) → (k < i) ⊎ (i ≤ k) → k < length xs → get_or xs k 0 ≤ e - n = λ k side b. elim side [
      | inl h ↦ omega (arith, before_end (numbers_of e i xs) e i n sound.sound can k h, numbers_near e i xs k h)
      | inr h ↦ omega (arith, enough (numbers_of e i xs) e i n sound.sound can k h (omega arith), numbers_far e i xs k h b, sound.within k)
    ] in (
      record {
        within = within_all (e - n) xs (λ k b. kept k (cases_lt k i) b);
        step_within = sound.step_within;
        fits = omega (arith, sound.fits);
        sound = rw same (sound_lowered (numbers_of e i xs) e i n sound.sound can);
      },
      same,
    )

-- x was inserted at place i, stored as v
put_in :
    {greatest e s : ℕ} {xs : List ℕ} (t i x v : ℕ) → IsSound greatest e s xs → CanInsert (numbers_of e s xs) e i x → t ≤ s + 1 → v ≤ e
    → numbers_of e t (insert xs i v) ≡ insert (numbers_of e s xs) i x → Leaves greatest e t (insert xs i v) (insert (numbers_of e s xs) i x)
put_in {greatest} {e} {s} {xs} t i x v sound can moves small same =
    let b : i ≤ length xs = omega (arith, can.within, length_numbers_of e s xs) in (
      record {
        within = λ k. put_within e i v xs sound.within b small k (cases_order k i);
        step_within = omega (arith, length-insert xs i v b, sound.step_within);
        fits = sound.fits;
        sound = rw same (sound_inserted (numbers_of e s xs) e i x sound.sound can);
      },
      same,
    )

-- a number that is stored as it is
pub put_in_near :
    {greatest e s : ℕ} {xs : List ℕ} (i x : ℕ) → IsSound greatest e s xs → i ≤ s → CanInsert (numbers_of e s xs) e i x
    → Leaves greatest e (s + 1) (insert xs i x) (insert (numbers_of e s xs) i x)
put_in_near {greatest} {e} {s} {xs} i x sound near can =
    put_in (s + 1) i x x sound can (omega arith) can.at_most (put_near (λ d. e - d) s xs i x near (omega (arith, can.within, length_numbers_of e s xs)))

-- a number that is stored as its distance to the end
pub put_in_far :
    {greatest e s : ℕ} {xs : List ℕ} (i x : ℕ) → IsSound greatest e s xs → s < i → CanInsert (numbers_of e s xs) e i x
    → Leaves greatest e s (insert xs i (e - x)) (insert (numbers_of e s xs) i x)
put_in_far {greatest} {e} {s} {xs} i x sound far can =
    let back : e - (e - x) ≡ x = omega (arith, can.at_most) in
    put_in s i x (e - x) sound can (omega arith) (omega arith)
    (rw back at (put_far (λ d. e - d) s xs i (e - x) (omega arith) (omega (arith, can.within, length_numbers_of e s xs))))

pub taken_out :
    {greatest e s : ℕ} {xs : List ℕ} (t i : ℕ) → IsSound greatest e s xs → t ≡ s - min 1 (s - i) → i < length (numbers_of e s xs)
    → Leaves greatest e t (remove xs i) (remove (numbers_of e s xs) i)
taken_out {greatest} {e} {s} {xs} t i sound moves l =
    let b : i < length xs = omega (arith, length_numbers_of e s xs) in
    let same : numbers_of e t (remove xs i) ≡ remove (numbers_of e s xs) i =
    elim (cases_lt i s) [
      | inl near ↦ let q : s ≡ t + 1 = omega arith in rw q (taken_near (λ d. e - d) t xs i (omega arith) b)
      | inr far ↦ let q : t ≡ s = omega arith in rw q (taken_far (λ d. e - d) s xs i far b)
    ] in (
      record {
        within = λ k. taken_within e i xs sound.within b k (cases_lt k i);
        step_within = omega (arith, length-remove xs i b, sound.step_within);
        fits = sound.fits;
        sound = rw same (sound_removed (numbers_of e s xs) e i sound.sound l);
      },
      same,
    )
