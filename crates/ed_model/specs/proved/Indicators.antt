-- The range in which two lists of values differ, and fills.
use Rattle.std.proofs.Common.{◌≡◌, ◌≢◌, ℕ, zero, suc, ◌+◌, ◌-◌, ◌<◌, ◌≤◌, Bool, true, false, not, List, ◌∷◌, length, get_or, refl, sym, ap, ◌∙◌, arith, Some, None, length-append}
use Rattle.std.specs.Prelude.{◌==◌, filter}
use Rattle.std.specs.List.{range_with_len, last_or}
use Rattle.std.proofs.Math.Nat.{add-zero, zero-add}
use Rattle.std.proofs.lemmas.Bool.{cond_both, eq-eqb, ne_eqb}
use Rattle.std.proofs.lemmas.List.{append-nil, length-take, length-drop, length-replicate}
use Rattle.std.proofs.lemmas.List.Elements.{filter-append}
use Rattle.ed_model.specs.Indicators.{extent, filled, changed_range}
use Rattle.ed_model.specs.proved.Rising.{range-append, filter_range_none}

-- a list differs from itself nowhere
pub nothing_changed : (values : List ℕ) → changed_range values values ≡ None
nothing_changed values =
    ap extent (filter_range_none (λ k. not (get_or values k 0 == get_or values k 0)) 0 (length values)
    (λ k l m. ap not (eq-eqb (get_or values k 0) (get_or values k 0) refl)))

-- a fill changes no length
pub length_filled : (start count value : ℕ) (values : List ℕ) → start + count ≤ length values → length (filled start count value values) ≡ length values
length_filled start count value values h = simp (length-append, length-take, length-drop, length-replicate) (omega arith)

-- The range of all numbers that pass, from the first to the last.

-- the last number of a range passes, so it is the last that does
last_passes : (p : ℕ → Bool) (a n x : ℕ) → p (a + n) ≡ true → last_or (Some x) (filter p (range_with_len a (suc n))) ≡ Some (a + n)
last_passes p a zero x h = let e : a + 0 ≡ a = omega arith in let here : p a ≡ true = ap p (sym e) ∙ h in rw (here, e)
last_passes p a (suc n) x h =
    let e : a + suc n ≡ a + 1 + n = omega arith in
    let last : p (a + 1 + n) ≡ true = ap p (sym e) ∙ h in
    rw e (cond_both (p a) (a ∷ filter p (range_with_len (a + 1) (suc n))) (filter p (range_with_len (a + 1) (suc n))) (λ l. last_or (Some x) l ≡ Some (a + 1 + n)) (λ _. last_passes p (a + 1) n a last) (λ _. last_passes p (a + 1) n x last))

last_behind : (p : ℕ → Bool) (a n : ℕ) → p (a + n) ≡ true → last_or (Some a) (filter p (range_with_len (a + 1) n)) ≡ Some (a + n)
last_behind p a zero h = ap Some (sym (add-zero a))
last_behind p a (suc n) h =
    let e : a + suc n ≡ a + 1 + n = omega arith in
    let last : p (a + 1 + n) ≡ true = ap p (sym e) ∙ h in
    rw e (last_passes p (a + 1) n a last)

extent_is : (p : ℕ → Bool) (a n : ℕ) → p a ≡ true → p (a + n) ≡ true → extent (filter p (range_with_len a (suc n))) ≡ Some (a, suc n)
extent_is p a n first last =
    let count : a + n + 1 - a ≡ suc n = omega arith in
    rw (first, last_behind p a n last, count)

-- all that passes lies between the two
extent_within : (p : ℕ → Bool) (a n r : ℕ) → p a ≡ true → p (a + n) ≡ true → ((k : ℕ) → k < a → p k ≡ false) → ((k : ℕ) → a + suc n ≤ k → p k ≡ false) → extent (filter p (range_with_len 0 (a + (suc n + r)))) ≡ Some (a, suc n)
extent_within p a n r first last before behind =
    rw (range-append 0 a (suc n + r), zero-add a, range-append a (suc n) r, filter-append p, filter-append p, filter_range_none p 0 a (λ k l m. before k (omega arith)), filter_range_none p (a + suc n) r (λ k l m. behind k l), append-nil (filter p (range_with_len a (suc n))))
    (extent_is p a n first last)

-- if two lists differ at `first` and just before `past`, and nowhere outside, this is the range in which they differ
pub changed_between :
    (old new : List ℕ) (first past : ℕ) → length new ≡ length old → first < past → past ≤ length old
    → get_or old first 0 ≢ get_or new first 0 → get_or old (past - 1) 0 ≢ get_or new (past - 1) 0
    → ((k : ℕ) → k < first → get_or new k 0 ≡ get_or old k 0) → ((k : ℕ) → past ≤ k → get_or new k 0 ≡ get_or old k 0)
    → changed_range old new ≡ Some (first, past - first)
changed_between old new first past e some within at_first at_last below above =
    let n = past - first - 1 in
    let p : ℕ → Bool = λ k. not (get_or old k 0 == get_or new k 0) in
    let whole : length old ≡ first + (suc n + (length old - past)) = omega arith in
    let count : suc n ≡ past - first = omega arith in
    let last : first + n ≡ past - 1 = omega arith in
    ap (λ m. extent (filter p (range_with_len 0 m))) whole
    ∙ extent_within p first n (length old - past)
    (differ old new first at_first)
    (ap p last ∙ differ old new (past - 1) at_last)
    (λ k l. agree old new k (below k l))
    (λ k l. agree old new k (above k (omega arith)))
    ∙ ap (λ m. Some (first, m)) count
  where
    differ : (old new : List ℕ) (k : ℕ) → get_or old k 0 ≢ get_or new k 0 → not (get_or old k 0 == get_or new k 0) ≡ true
    differ old new k apart = ap not (ne_eqb (get_or old k 0) (get_or new k 0) apart)

    agree : (old new : List ℕ) (k : ℕ) → get_or new k 0 ≡ get_or old k 0 → not (get_or old k 0 == get_or new k 0) ≡ false
    agree old new k same = ap not (eq-eqb (get_or old k 0) (get_or new k 0) (sym same))
