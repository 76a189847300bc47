-- The mask of the indicators at a place, slot by slot.
use Rattle.decorations.proofs.Names.{◌≡◌, ℕ, zero, suc, ◌+◌, ◌-◌, ◌*◌, ◌^◌, ◌<◌, ◌≤◌, ◌==◌, not, Bool, true, false, cond, List, [], ◌∷◌, ◌++◌, length, map, filter, sum, Option, None, refl, ap, sym, ◌∙◌, ◌%◌, arith, zero-add, append-nil, eq-eqb, pos, range_with_len, map-append, filter-append, get_or_past, cond_both, ne_eqb, at_place, indicators, values_of, mask_of, range-append, filter_range_none, Runs, slot_at, shown, all_shown, IsKept}
use Rattle.decorations.proofs.Shown.{shown_at, zero_past, zero_unused}
use Rattle.decorations.proofs.Values.{shown_length}
use Rattle.std.proofs.lemmas.List.Sums.{sum_by-append}
use Rattle.std.proofs.lemmas.Nat.{pow-add, one_shl}
use Rattle.std.proofs.Math.Pow.{pow_mono}

-- whether an indicator is not 0 at the place
abbrev pub is_on : List (List ℕ) → ℕ → ℕ → Bool
is_on values place k = not (at_place (values_of values k) (pos place) == 0)

-- the bits of the first n indicators
unfoldable pub mask_below : ℕ → List (List ℕ) → ℕ → ℕ
mask_below n values place = sum (map (λ k. 2 ^ k) (filter (is_on values place) (range_with_len 0 n)))

pub mask_none : (values : List (List ℕ)) (place : ℕ) → mask_below 0 values place ≡ 0
unfolding mask_below
mask_none values place = refl

-- the other indicators are 0 at the place
mask_rest : (n : ℕ) (values : List (List ℕ)) (place : ℕ) → n ≤ 32 → ((k : ℕ) → n ≤ k → k < 32 → is_on values place k ≡ false) → mask_below n values place ≡ mask_of values place
unfolding mask_below indicators
mask_rest n values place h off =
    let whole : 32 ≡ n + (32 - n) = omega (arith, h) in
    let p : ℕ → Bool = is_on values place in
    sym
    (ap (λ m. sum (map (λ k. 2 ^ k) (filter p (range_with_len 0 m)))) whole
    ∙ rw (range-append 0 n (32 - n), zero-add n, filter-append p, filter_range_none p n (32 - n) (λ k l m. off k l (omega arith)), append-nil (filter p (range_with_len 0 n))) refl)

zero_off : (values : List (List ℕ)) (place k : ℕ) → 0 ≡ at_place (values_of values k) (pos place) → is_on values place k ≡ false
zero_off values place k e = ap not (ap (λ v. v == 0) (sym e) ∙ eq-eqb 0 0 refl)

-- the value in a slot is that of its indicator
pub slot_value : (size place k value : ℕ) (slots : List (Option (Runs ℕ))) (slot : Option (Runs ℕ)) → k < 32 → slot_at slots k ≡ slot → value ≡ at_place (shown size slot) (pos place) →
    value ≡ at_place (values_of (all_shown size slots) k) (pos place)
slot_value size place k value slots slot h e v = v ∙ sym (ap (λ (vs : List ℕ). at_place vs (pos place)) (shown_at size slots k h ∙ ap (shown size) e))

-- past the last slot
pub mask_slots : (size place : ℕ) (slots : List (Option (Runs ℕ))) → length slots ≤ 32 → mask_below (length slots) (all_shown size slots) place ≡ mask_of (all_shown size slots) place
mask_slots size place slots few =
    mask_rest (length slots) (all_shown size slots) place few
    (λ k past h. zero_off (all_shown size slots) place k (slot_value size place k 0 slots None h (get_or_past slots k None past) (zero_unused size place)))

-- past the end of the text
pub mask_past : (size place : ℕ) (slots : List (Option (Runs ℕ))) → size ≤ place → ((k : ℕ) → IsKept size (slot_at slots k)) → 0 ≡ mask_of (all_shown size slots) place
mask_past size place slots past kept =
    sym (mask_none (all_shown size slots) place)
    ∙ mask_rest 0 (all_shown size slots) place (omega arith)
    (λ k l h.
    let slot = slot_at slots k in
    let long : length (shown size slot) ≡ size = shown_length size slot (kept k) in
    zero_off (all_shown size slots) place k (slot_value size place k 0 slots slot h refl (zero_past (shown size slot) place (omega arith))))

sum_append : (xs ys : List ℕ) → sum (xs ++ ys) ≡ sum xs + sum ys
sum_append xs ys = sum_by-append (λ x. x) xs ys

mask_more : (n : ℕ) (values : List (List ℕ)) (place : ℕ) → mask_below (n + 1) values place ≡ mask_below n values place + cond (is_on values place n) (2 ^ n) 0
unfolding mask_below
mask_more n values place =
    let f : ℕ → ℕ = λ k. 2 ^ k in
    let p : ℕ → Bool = is_on values place in
    let last : sum (map f (filter p (range_with_len n 1))) ≡ cond (p n) (2 ^ n) 0 = cond_both (p n) (n ∷ []) [] (λ l. sum (map f l) ≡ cond (p n) (2 ^ n) 0) (λ e. rw e (omega arith)) (λ e. rw e) in
    rw (range-append 0 n 1, zero-add n, filter-append p, map-append f, sum_append, last)

pub mask_on : (n : ℕ) (values : List (List ℕ)) (place : ℕ) → is_on values place n ≡ true → mask_below (n + 1) values place ≡ mask_below n values place + 2 ^ n
mask_on n values place e = mask_more n values place ∙ ap (λ b. mask_below n values place + cond b (2 ^ n) 0) e

pub mask_off : (n : ℕ) (values : List (List ℕ)) (place : ℕ) → is_on values place n ≡ false → mask_below (n + 1) values place ≡ mask_below n values place
mask_off n values place e = mask_more n values place ∙ ap (λ b. mask_below n values place + cond b (2 ^ n) 0) e ∙ omega arith

mask_bound : (n : ℕ) (values : List (List ℕ)) (place : ℕ) → mask_below n values place < 2 ^ n
mask_bound zero values place = rw (mask_none values place) (omega arith)
mask_bound (suc n) values place =
    let more : suc n ≡ n + 1 = omega arith in
    let double : 2 ^ (n + 1) ≡ 2 ^ n * 2 ^ 1 = pow-add 2 n 1 in
    let before = mask_bound n values place in
    rw (more, mask_more n values place, double) (cond_both (is_on values place n) (2 ^ n) 0 (λ m. mask_below n values place + m < 2 ^ n * 2) (λ _. omega arith) (λ _. omega arith))

-- one more bit fits
pub mask_fits : (n : ℕ) (values : List (List ℕ)) (place : ℕ) → n < 32 → mask_below n values place + 2 ^ n < 2 ^ 32
mask_fits n values place h =
    let double : 2 ^ (n + 1) ≡ 2 ^ n * 2 ^ 1 = pow-add 2 n 1 in
    let few : n + 1 ≤ 32 = omega arith in
    let top : 2 ^ (n + 1) ≤ 2 ^ 32 = pow_mono few in
    omega (arith, mask_bound n values place)

-- what a step of the loop adds
pub mask_step : (n value mask : ℕ) (values : List (List ℕ)) (place : ℕ) → n < 32 → value ≡ at_place (values_of values n) (pos place) → (value ≡ 0 → ⊥) → mask ≡ mask_below n values place → mask + (1 * 2 ^ n) % 2 ^ 32 ≡ mask_below (n + 1) values place
mask_step n value mask values place h e on m =
    let not_zero : is_on values place n ≡ true = ap not (ap (λ v. v == 0) (sym e) ∙ ne_eqb value 0 on) in
    rw (one_shl n 32 h, m) (sym (mask_on n values place not_zero))

pub mask_same : (n value mask : ℕ) (values : List (List ℕ)) (place : ℕ) → value ≡ at_place (values_of values n) (pos place) → value ≡ 0 → mask ≡ mask_below n values place → mask ≡ mask_below (n + 1) values place
mask_same n value mask values place e off m =
    let zero_there : is_on values place n ≡ false = ap not (ap (λ v. v == 0) (sym e) ∙ eq-eqb value 0 off) in
    m ∙ sym (mask_off n values place zero_there)

pub mask_room : (n mask : ℕ) (values : List (List ℕ)) (place : ℕ) → n < 32 → mask ≡ mask_below n values place → mask + (1 * 2 ^ n) % 2 ^ 32 < 2 ^ 32
mask_room n mask values place h m = rw (one_shl n 32 h, m) (mask_fits n values place h)
