-- A run that is deleted: what the containers require, and what the two steps leave.
use Rattle.run_styles.proofs.Names.{◌≡◌, ℕ, ◌+◌, ◌-◌, ◌<◌, ◌≤◌, zero, suc, max, List, [], ◌∷◌, ◌++◌, length, get_or, take, drop, map, refl, sym, ap, ◌∙◌, arith, ⊎_elim, take-append-drop, take_all, drop_all, append-nil, drop-drop, take_at, drop-append-add, length-take-le, get_or_default, get_or_past, get_or-append_right, get_or-drop, cases_lt, remove, CanLose, Rise, IsTable, deleted}
use Rattle.std.proofs.lemmas.List.Edits.{length-remove, get_or-remove_below, get_or-remove_above}
use Rattle.run_styles.proofs.Tables.{rise_lt, rise_within, head-map_sub}
use Rattle.run_styles.proofs.ByIndex.{run_top}

-- the starts, once one is removed and its run's text deleted from the run before, or from the first
pub lowered-drop : (S : List ℕ) (end i j n : ℕ) → j ≡ max i 1 → i < length S → 1 < length S → get_or S 0 1 ≡ 0 → get_or S i 0 + n ≡ get_or S (i + 1) end
    → take (j - 1 + 1) (remove S j) ++ map (λ s. s - n) (drop (j - 1 + 1) (remove S j)) ≡ take i S ++ map (λ s. s - n) (drop (i + 1) S)
lowered-drop [] end i j n m h more z whole = absurd (omega (arith, h))
lowered-drop (s ∷ []) end i j n m h more z whole = absurd (omega (arith, more))
lowered-drop (s ∷ s' ∷ S) end zero j n m h more z whole =
    let e : j ≡ 1 = omega (arith, m) in
    let first : s ≡ s' - n = omega (arith, z, whole) in
    rw e (ap (λ x. x ∷ map (λ t. t - n) S) first)
lowered-drop (s ∷ s' ∷ S) end (suc i) j n m h more z whole =
    let e : j ≡ suc i = omega (arith, m) in
    let k : suc i - 1 + 1 ≡ suc i = omega arith in
    let k' : suc i + 1 ≡ suc (suc i) = omega arith in
    let len : length (take (suc i) (s ∷ s' ∷ S)) ≡ suc i = length-take-le (suc i) (s ∷ s' ∷ S) (omega (arith, h)) in
    let front : take (suc i) (remove (s ∷ s' ∷ S) (suc i)) ≡ take (suc i) (s ∷ s' ∷ S) = take_at (take (suc i) (s ∷ s' ∷ S)) (drop (suc (suc i)) (s ∷ s' ∷ S)) (suc i) len in
    let len' : length (take (suc i) (s ∷ s' ∷ S)) + 0 ≡ suc i = omega (arith, len) in
    let back : drop (suc i) (remove (s ∷ s' ∷ S) (suc i)) ≡ drop (suc (suc i)) (s ∷ s' ∷ S) = ap (λ q. drop q (remove (s ∷ s' ∷ S) (suc i))) (sym len') ∙ drop-append-add (take (suc i) (s ∷ s' ∷ S)) (drop (suc (suc i)) (s ∷ s' ∷ S)) 0 in
    ap (λ q. take (q - 1 + 1) (remove (s ∷ s' ∷ S) q) ++ map (λ t. t - n) (drop (q - 1 + 1) (remove (s ∷ s' ∷ S) q))) e
    ∙ ap (λ q. take q (remove (s ∷ s' ∷ S) (suc i)) ++ map (λ t. t - n) (drop q (remove (s ∷ s' ∷ S) (suc i)))) k
    ∙ ap (λ l. l ++ map (λ t. t - n) (drop (suc i) (remove (s ∷ s' ∷ S) (suc i)))) front
    ∙ ap (λ l. take (suc i) (s ∷ s' ∷ S) ++ map (λ t. t - n) l) (back ∙ ap (λ q. drop q (s ∷ s' ∷ S)) (sym k'))

-- that run holds the text, and something of it stays
pub can_lose_run : {V : Type 0} {S : List ℕ} {W : List V} {end : ℕ} (i j n : ℕ) → IsTable S W end → 0 < end → j ≡ max i 1 → i < length S → 1 < length S → get_or S i 0 + n ≡ get_or S (i + 1) end → CanLose (remove S j) end (j - 1) n
can_lose_run {S = S} {end = end} i j n t pos m h more whole =
    let rise : Rise S end = t.rise pos in
    let z : get_or S 0 1 ≡ 0 = t.from_zero in
    let here : j < length S = omega arith in
    let size : length (remove S j) + 1 ≡ length S = length-remove S j here in
    let before : get_or (remove S j) (j - 1) 0 ≡ get_or S (j - 1) 0 = get_or-remove_below S j 0 (j - 1) (omega arith) here in
    let top : get_or S (i + 1) end ≤ end = rise_within S end (i + 1) rise in
    let k : j - 1 + 1 ≡ j = omega arith in
    let next : get_or (remove S j) (j - 1 + 1) 0 ≡ get_or S (j + 1) 0 = ap (λ q. get_or (remove S j) q 0) k ∙ get_or-remove_above S j 0 j (omega arith) here in
    ⊎_elim
    (λ later.
    let e : j ≡ i = omega arith in
    let lower : get_or S (i - 1) 0 < get_or S i end = rise_lt S end (i - 1) i (omega arith) (omega arith) rise in
    let same : get_or S i end ≡ get_or S i 0 = get_or_default S i end 0 h in
    let e' : get_or S (j - 1) 0 ≡ get_or S (i - 1) 0 = ap (λ q. get_or S (q - 1) 0) e in
    record {
      before_next = λ lt.
          let there : get_or S (j + 1) 0 ≡ get_or S (i + 1) end = ap (λ q. get_or S (q + 1) 0) e ∙ get_or_default S (i + 1) 0 end (omega arith) in
          omega arith;
      before_end = omega arith;
    })
    (λ first.
    let e : j ≡ 1 = omega arith in
    let z0 : i ≡ 0 = omega arith in
    let e' : get_or S (j - 1) 0 ≡ get_or S i 0 = ap (λ q. get_or S (q - 1) 0) e ∙ ap (λ q. get_or S q 0) (sym z0) in
    record {
      before_next = λ lt.
          let there : get_or S (j + 1) 0 ≡ get_or S (i + 1 + 1) end = ap (λ q. get_or S (q + 1) 0) e ∙ ap (λ q. get_or S (q + 2) 0) (sym z0) ∙ ap (λ q. get_or S q 0) (omega arith) ∙ get_or_default S (i + 1 + 1) 0 end (omega arith) in
          let lower : get_or S (i + 1) 0 < get_or S (i + 1 + 1) end = rise_lt S end (i + 1) (i + 1 + 1) (omega arith) (omega arith) rise in
          let same : get_or S (i + 1) end ≡ get_or S (i + 1) 0 = get_or_default S (i + 1) end 0 (omega arith) in
          omega arith;
      before_end = omega arith;
    })
    (cases_lt 0 i)

-- a part of a run can be deleted from it
pub can_lose_part : {V : Type 0} {S : List ℕ} {W : List V} {end : ℕ} (i n : ℕ) → IsTable S W end → i < length S → get_or S i 0 + n < get_or S (i + 1) end → CanLose S end i n
can_lose_part {S = S} {end = end} i n t h part =
    let top : get_or S (i + 1) end ≤ end = run_top i t h in
    record {
      before_next = λ lt. let same : get_or S (i + 1) end ≡ get_or S (i + 1) 0 = get_or_default S (i + 1) end 0 lt in omega arith;
      before_end = omega arith;
    }

-- the run with this index exists, as it ends below the end
pub index_within : (S : List ℕ) (end i left : ℕ) → get_or S i end + left ≤ end → 0 < left → i < length S
index_within S end i left h some = ⊎_elim (λ o. o) (λ past. let e = get_or_past S i end past in absurd (omega arith)) (cases_lt i (length S))

module _ {V : Type 0} where
  pub deleted-none : (xs : List V) (p : ℕ) → deleted xs p 0 ≡ xs
  deleted-none xs p = let n : p + 0 ≡ p = omega arith in rw n (take-append-drop p xs)

  deleted_past : (xs : List V) (p k : ℕ) → length xs ≤ p → deleted xs p k ≡ xs
  deleted_past xs p k h = rw (take_all p xs h, drop_all (p + k) xs (omega arith)) (append-nil xs)

  pub deleted-deleted : (xs : List V) (p a b : ℕ) → deleted (deleted xs p a) p b ≡ deleted xs p (a + b)
  deleted-deleted xs p a b = ⊎_elim
      (λ h.
      let len : length (take p xs) ≡ p = length-take-le p xs (omega arith) in
      let len' : p + b ≡ length (take p xs) + b = omega arith in
      let n : (p + a) + b ≡ p + (a + b) = omega arith in
      let front : take p (deleted xs p a) ≡ take p xs = take_at (take p xs) (drop (p + a) xs) p len in
      let back : drop (p + b) (deleted xs p a) ≡ drop (p + (a + b)) xs = ap (λ q. drop q (deleted xs p a)) len' ∙ drop-append-add (take p xs) (drop (p + a) xs) b ∙ drop-drop b (p + a) xs ∙ ap (λ q. drop q xs) n in
      rw (front, back) refl)
      (λ past. ap (λ l. deleted l p b) (deleted_past xs p a past) ∙ deleted_past xs p b past ∙ sym (deleted_past xs p (a + b) past))
      (cases_lt p (length xs))

-- where the next run starts once text was deleted from a run
pub next_shrunk : (S : List ℕ) (end i k : ℕ) → i < length S → get_or (take (i + 1) S ++ map (λ s. s - k) (drop (i + 1) S)) (i + 1) (end - k) ≡ get_or S (i + 1) end - k
next_shrunk S end i k h =
    let len : length (take (i + 1) S) ≡ i + 1 = length-take-le (i + 1) S (omega arith) in
    let none : (i + 1) - (i + 1) ≡ 0 = omega arith in
    let none' : (i + 1) + 0 ≡ i + 1 = omega arith in
    get_or-append_right (take (i + 1) S) (map (λ s. s - k) (drop (i + 1) S)) (i + 1) (i + 1) (end - k) len (omega arith)
    ∙ ap (λ q. get_or (map (λ s. s - k) (drop (i + 1) S)) q (end - k)) none
    ∙ head-map_sub (drop (i + 1) S) end k
    ∙ ap (λ x. x - k) (get_or-drop (i + 1) S 0 end ∙ ap (λ q. get_or S q end) none')
