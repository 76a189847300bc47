-- Runs of indicators are within the text.
use Rattle.state_plans.proofs.Names.{◌≡◌, ℕ, zero, suc, ◌+◌, ◌<◌, ◌≤◌, ◌^◌, Bool, true, false, cond, List, [], ◌∷◌, length, map, drop, refl, ap, sym, ◌∙◌, arith, length-drop, ℤ, pos, negsuc, ◌==◌, not, filter, sum, slice_index, slice_index_or, range_with_len, AllByRecursion, Request, Planned, answer_number, values_of, run_about, mask_of, indicators}
use Rattle.ed_model.specs.TextPlans.{at_place}
use Rattle.ed_model.specs.StylePlans.{run_length, run_start, run_past, indicator_all_on_for}

length_values : (xs : List (List ℕ)) (i n : ℕ) → AllByRecursion (λ values. length values ≡ n) xs → i < length xs → length (slice_index_or xs i []) ≡ n
length_values [] i n all h = absurd (omega arith)
length_values (x ∷ xs) zero n all h = all.0
length_values (x ∷ xs) (suc i) n all h = length_values xs i n all.1 (omega arith)

run_within : (value : ℕ) (values : List ℕ) → run_length value values ≤ length values
run_within value [] = omega arith
run_within value (v ∷ vs) = go (v == value) (run_within value vs)
  where
    go : (b : Bool) → run_length value vs ≤ length vs → cond b (1 + run_length value vs) 0 ≤ suc (length vs)
    go true h = omega (arith, h)
    go false h = omega arith

run_bounded : (values : List ℕ) (place : ℕ) → place < length values → run_past values place ≤ length values
run_bounded values place h =
    let within = run_within (slice_index values place) (drop place values) in
    let rest = length-drop place values in
    omega arith

pub run_about_bounded : (lists : List (List ℕ)) (i place n : ℕ) (p : ℕ × ℕ) → p ≡ run_about (values_of lists i) place → AllByRecursion (λ values. length values ≡ n) lists
    → i < length lists → place < n → n < 2 ^ 63 → (p.0 < 2 ^ 63) × (p.1 < 2 ^ 63)
run_about_bounded lists i place n p e each among within small =
    let values = values_of lists i in
    let long = length_values lists i n each among in
    let past = run_bounded values place (omega (arith, long)) in
    let start : p.0 ≡ run_start values place = ap (λ (q : ℕ × ℕ). q.0) e in
    let end : p.1 ≡ run_past values place = ap (λ (q : ℕ × ℕ). q.1) e in
    (omega (arith, start), omega (arith, end, past, long))

-- the reply of INDICATORALLONFOR with the mask of a place
answer_on : ℤ → List (List ℕ) → List ℕ → Planned
answer_on w lists ks = answer_number (sum (map (λ k. 2 ^ k) (filter (λ k. not (at_place (slice_index_or lists k []) w == 0)) ks)))

pub all_on : (r : Request) (place mask : ℕ) → mask ≡ mask_of r.document.indicators place → r.message.w ≡ pos place → answer_number mask ≡ indicator_all_on_for r
unfolding indicators answer_on
all_on r place mask e w = ap answer_number e ∙ ap (λ w. answer_on w r.document.indicators (range_with_len 0 32)) (sym w)

pub none_outside : (lists : List (List ℕ)) (n : ℕ) (ks : List ℕ) → sum (map (λ k. 2 ^ k) (filter (λ k. not (at_place (slice_index_or lists k []) (negsuc n) == 0)) ks)) ≡ 0
none_outside lists n [] = refl
none_outside lists n (k ∷ ks) = none_outside lists n ks
