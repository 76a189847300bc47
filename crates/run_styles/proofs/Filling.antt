-- A range that is set to a value: where it may be widened or trimmed, and the runs that replace it.
use Rattle.run_styles.proofs.Names.{◌≡◌, ◌≢◌, ◌⊎◌, ℕ, ◌+◌, ◌-◌, ◌<◌, ◌≤◌, zero, suc, List, ◌∷◌, ◌++◌, Some, None, length, get_or, take, drop, replicate, sym, ap, ◌∙◌, arith, ⊎_elim, append_assoc, length-append, take-append-drop, take_at, drop_at, length-take-le, length-drop, length-replicate, get_or-append_right, get_or_append_left, get_or-replicate, get_or-take, get_or-drop, get_or_default, get_or_past, same_lists, slice_get-get_or, get_or_from_slice_get, slice_get_past, cases_lt, slice_get, expansion, Rise, IsTable, NeighboursDiffer, filled, IsChangedRange}
use Rattle.run_styles.specs.Changes.{IsTrimmed}
use Rattle.run_styles.proofs.Tables.{rise_lt, rise_within}
use Rattle.run_styles.proofs.Steps.{At, at}
use Rattle.run_styles.proofs.ByIndex.{value_in_run, fill_stands, length_table, run_top}
use Rattle.run_styles.proofs.Neighbours.{differ_next}

module _ {V : Type 0} where
  pub length-filled : (xs : List V) (p n : ℕ) (v : V) → p + n ≤ length xs → length (filled xs p n v) ≡ length xs
  length-filled xs p n v h = omega (arith, length-append (take p xs) (replicate n v ++ drop (p + n) xs), length-append (replicate n v) (drop (p + n) xs), length-take-le p xs (omega arith), length-replicate n v, length-drop (p + n) xs)

  pub get_or-filled_below : (xs : List V) (p n : ℕ) (v : V) (k : ℕ) (d : V) → p + n ≤ length xs → k < p → get_or (filled xs p n v) k d ≡ get_or xs k d
  get_or-filled_below xs p n v k d h below =
      let len = length-take-le p xs (omega arith) in
      get_or_append_left (take p xs) (replicate n v ++ drop (p + n) xs) d k (omega (arith, len)) ∙ get_or-take p xs k d below

  pub get_or-filled_inside : (xs : List V) (p n : ℕ) (v : V) (k : ℕ) (d : V) → p + n ≤ length xs → p ≤ k → k < p + n → get_or (filled xs p n v) k d ≡ v
  get_or-filled_inside xs p n v k d h low high =
      let len = length-take-le p xs (omega arith) in
      let within : k - p < length (replicate n v) = rw (length-replicate n v) (omega arith) in
      get_or-append_right (take p xs) (replicate n v ++ drop (p + n) xs) p k d len low
      ∙ get_or_append_left (replicate n v) (drop (p + n) xs) d (k - p) within
      ∙ get_or-replicate n (k - p) v d (omega arith)

  pub get_or-filled_behind : (xs : List V) (p n : ℕ) (v : V) (k : ℕ) (d : V) → p + n ≤ length xs → p + n ≤ k → get_or (filled xs p n v) k d ≡ get_or xs k d
  get_or-filled_behind xs p n v k d h high =
      let len = length-take-le p xs (omega arith) in
      let e : (p + n) + ((k - p) - n) ≡ k = omega arith in
      get_or-append_right (take p xs) (replicate n v ++ drop (p + n) xs) p k d len (omega arith)
      ∙ get_or-append_right (replicate n v) (drop (p + n) xs) n (k - p) d (length-replicate n v) (omega arith)
      ∙ get_or-drop (p + n) xs ((k - p) - n) d
      ∙ ap (λ j. get_or xs j d) e

  -- a range may be widened over places that have the value
  pub filled_widened : (xs : List V) (p n low m : ℕ) (v : V) → p ≤ low → low + m ≤ p + n → p + n ≤ length xs
      → ((k : ℕ) → p ≤ k → k < low → slice_get xs k ≡ Some v) → ((k : ℕ) → low + m ≤ k → k < p + n → slice_get xs k ≡ Some v)
      → filled xs p n v ≡ filled xs low m v
  filled_widened xs p n low m v h1 h2 h3 before behind =
      same_lists (filled xs p n v) (filled xs low m v) (length-filled xs p n v h3 ∙ sym (length-filled xs low m v (omega arith)))
      (λ k d _. ⊎_elim
      (λ below. get_or-filled_below xs p n v k d h3 below ∙ sym (get_or-filled_below xs low m v k d (omega arith) (omega arith)))
      (λ from. ⊎_elim
      (λ inside. get_or-filled_inside xs p n v k d h3 from inside ∙ sym (⊎_elim
      (λ early. get_or-filled_below xs low m v k d (omega arith) early ∙ get_or_from_slice_get xs k v d (before k from early))
      (λ late. ⊎_elim
      (λ within. get_or-filled_inside xs low m v k d (omega arith) late within)
      (λ past. get_or-filled_behind xs low m v k d (omega arith) past ∙ get_or_from_slice_get xs k v d (behind k past inside))
      (cases_lt k (low + m)))
      (cases_lt k low)))
      (λ past. get_or-filled_behind xs p n v k d h3 past ∙ sym (get_or-filled_behind xs low m v k d (omega arith) (omega arith)))
      (cases_lt k (p + n)))
      (cases_lt k p))

  -- each place of a run has the run's value
  pub slice_get_in_run : {S : List ℕ} {W : List V} {end : ℕ} (i q : ℕ) → IsTable S W end → i < length S → get_or S i 0 ≤ q → q < get_or S (i + 1) end → slice_get (expansion S W end) q ≡ slice_get W i
  slice_get_in_run {S} {W} {end} i q t h low high =
      let a : At W i = at W i (omega (arith, t.paired)) in
      slice_get-get_or (expansion S W end) q a.item (omega (arith, length_table t, run_top i t h))
      ∙ ap Some (value_in_run i q a.item t h low high)
      ∙ sym (slice_get-get_or W i a.item (omega (arith, t.paired)))

  -- the runs from one to another replaced by one, which absorbs neighbours that have its value
  pub replaced : {S : List ℕ} {W : List V} {end : ℕ} (first last from to : ℕ) (v : V) → IsTable S W end → 0 < end → first < last → last ≤ length S
      → (from ≡ first) ⊎ ((from + 1 ≡ first) × (slice_get W from ≡ Some v)) → (to ≡ last) ⊎ ((to ≡ last + 1) × (slice_get W last ≡ Some v)) → to ≤ length S
      → expansion (take (from + 1) S ++ drop to S) (take from W ++ v ∷ drop to W) end ≡ filled (expansion S W end) (get_or S first 0) (get_or S last end - get_or S first 0) v
  replaced {S} {W} {end} first last from to v t pos o h near_first near_last within =
      let paired : length S ≡ length W = t.paired in
      let full : length (expansion S W end) ≡ end = length_table t in
      let rises : Rise S end = t.rise pos in
      let from_le : from ≤ first = ⊎_elim (λ e. omega (arith, e)) (λ p. omega (arith, p.0)) near_first in
      let to_le : last ≤ to = ⊎_elim (λ e. omega (arith, e)) (λ p. omega (arith, p.0)) near_last in
      let upper : get_or S to end ≤ end = rise_within S end to rises in
      let o1 : get_or S from 0 < get_or S to end = rise_lt S end from to (omega arith) (omega arith) rises in
      let o2 : get_or S first 0 < get_or S last end = rise_lt S end first last o h rises in
      let a1 : get_or S from 0 ≤ get_or S first 0 = ⊎_elim (λ e. rw e (omega arith)) (λ p. let lt : get_or S from 0 < get_or S first end = rise_lt S end from first (omega (arith, p.0)) (omega arith) rises in let same = get_or_default S first 0 end (omega arith) in omega arith) near_first in
      let a2 : get_or S last end ≤ get_or S to end = ⊎_elim (λ e. rw e (omega arith)) (λ p. let lt : get_or S last 0 < get_or S to end = rise_lt S end last to (omega (arith, p.0)) (omega arith) rises in let same = get_or_default S last 0 end (omega (arith, p.0)) in omega arith) near_last in
      (fill_stands from to v t pos (omega arith) (omega arith)).list
      ∙ filled_widened (expansion S W end) (get_or S from 0) (get_or S to end - get_or S from 0) (get_or S first 0) (get_or S last end - get_or S first 0) v a1 (omega arith) (omega arith)
      (λ k low high. ⊎_elim (λ e. let same : get_or S from 0 ≡ get_or S first 0 = ap (λ i. get_or S i 0) e in absurd (omega arith))
      (λ p. let next : get_or S (from + 1) end ≡ get_or S first 0 = ap (λ i. get_or S i end) p.0 ∙ get_or_default S first end 0 (omega arith) in slice_get_in_run from k t (omega arith) low (omega arith) ∙ p.1) near_first)
      (λ k low high. ⊎_elim (λ e. let same : get_or S to end ≡ get_or S last end = ap (λ i. get_or S i end) e in absurd (omega arith))
      (λ p. let next : get_or S to end ≡ get_or S (last + 1) end = ap (λ i. get_or S i end) p.0 in let same : get_or S last end ≡ get_or S last 0 = get_or_default S last end 0 (omega (arith, p.0)) in slice_get_in_run last k t (omega (arith, p.0)) (omega arith) (omega arith) ∙ p.1) near_last)

  -- the place behind a run has another value, or there is none
  pub other_behind : {S : List ℕ} {W : List V} {end : ℕ} (i : ℕ) (v : V) → IsTable S W end → 0 < end → i < length S → NeighboursDiffer W → slice_get W i ≡ Some v → slice_get (expansion S W end) (get_or S (i + 1) end) ≢ Some v
  other_behind {S} {W} {end} i v t pos h d e = ⊎_elim
      (λ next. λ found.
      let same : get_or S (i + 1) end ≡ get_or S (i + 1) 0 = get_or_default S (i + 1) end 0 next in
      let high : get_or S (i + 1) 0 < get_or S (i + 1 + 1) end = rise_lt S end (i + 1) (i + 1 + 1) (omega arith) (omega arith) (t.rise pos) in
      let top : get_or S (i + 1 + 1) end ≤ end = rise_within S end (i + 1 + 1) (t.rise pos) in
      differ_next W i v d e (sym (slice_get_in_run (i + 1) (get_or S (i + 1) end) t next (omega arith) (omega arith)) ∙ found))
      (λ past. λ found.
      let full : length (expansion S W end) ≡ end = length_table t in
      let same : get_or S (i + 1) end ≡ end = get_or_past S (i + 1) end past in
      let none : slice_get (expansion S W end) (get_or S (i + 1) end) ≡ None = slice_get_past (expansion S W end) (get_or S (i + 1) end) (omega arith) in
      let wrong : None ≡ Some v = sym none ∙ found in
      cc)
      (cases_lt (i + 1) (length S))

  pub other_before : {S : List ℕ} {W : List V} {end : ℕ} (i : ℕ) (v : V) → IsTable S W end → 0 < end → i < length S → 0 < get_or S i 0 → NeighboursDiffer W → slice_get W i ≡ Some v → slice_get (expansion S W end) (get_or S i 0 - 1) ≢ Some v
  other_before {S} {W} {end} zero v t pos h some d e =
      let zero_first : get_or S 0 1 ≡ 0 = t.from_zero in
      let same : get_or S 0 1 ≡ get_or S 0 0 = get_or_default S 0 1 0 h in
      absurd (omega arith)
  other_before {S} {W} {end} (suc j) v t pos h some d e =
      λ found.
      let n : j + 1 ≡ suc j = omega arith in
      let low : get_or S j 0 < get_or S (suc j) end = rise_lt S end j (suc j) (omega arith) (omega arith) (t.rise pos) in
      let same : get_or S (suc j) end ≡ get_or S (suc j) 0 = get_or_default S (suc j) end 0 h in
      let next : get_or S (j + 1) end ≡ get_or S (suc j) end = ap (λ k. get_or S k end) n in
      let top : get_or S (suc j) end ≤ end = rise_within S end (suc j) (t.rise pos) in
      let there : slice_get W (j + 1) ≡ Some v = ap (λ k. slice_get W k) n ∙ e in
      differ_next W j v d (sym (slice_get_in_run j (get_or S (suc j) 0 - 1) t (omega arith) (omega arith) (omega arith)) ∙ found) there

  pub filled-none : (xs : List V) (p : ℕ) (v : V) → filled xs p 0 v ≡ xs
  filled-none xs p v = let n : p + 0 ≡ p = omega arith in rw n (take-append-drop p xs)

  -- nothing changes if the value is there already
  pub filled_same : (xs : List V) (p n : ℕ) (v : V) → p + n ≤ length xs → ((k : ℕ) → p ≤ k → k < p + n → slice_get xs k ≡ Some v) → filled xs p n v ≡ xs
  filled_same xs p n v h there =
      filled_widened xs p n (p + n) 0 v (omega arith) (omega arith) h there (λ k low high. absurd (omega arith)) ∙ filled-none xs (p + n) v

  -- a run joined with the one before it, which has the same value
  pub joined : {S : List ℕ} {W : List V} {end : ℕ} (k : ℕ) (v : V) → IsTable S W end → 0 < k → k < length S → slice_get W (k - 1) ≡ Some v → slice_get W k ≡ Some v
      → expansion (take (k - 1 + 1) S ++ drop (k + 1) S) (take (k - 1) W ++ v ∷ drop (k + 1) W) end ≡ expansion S W end
  joined {S} {W} {end} k v t some h before here =
      let pos : 0 < end = ⊎_elim (λ o. o) (λ z. let one = t.single (omega arith) in absurd (omega arith)) (cases_lt 0 end) in
      let full : length (expansion S W end) ≡ end = length_table t in
      let upper : get_or S (k + 1) end ≤ end = run_top k t h in
      let o1 : get_or S (k - 1) 0 < get_or S (k + 1) end = rise_lt S end (k - 1) (k + 1) (omega arith) (omega arith) (t.rise pos) in
      let same : get_or S (k - 1 + 1) end ≡ get_or S k 0 = ap (λ i. get_or S i end) (omega arith) ∙ get_or_default S k end 0 h in
      (fill_stands (k - 1) (k + 1) v t pos (omega arith) (omega arith)).list
      ∙ filled_same (expansion S W end) (get_or S (k - 1) 0) (get_or S (k + 1) end - get_or S (k - 1) 0) v (omega arith) (λ q low high. ⊎_elim
      (λ first. slice_get_in_run (k - 1) q t (omega arith) low (omega arith) ∙ before)
      (λ second. slice_get_in_run k q t h second (omega arith) ∙ here)
      (cases_lt q (get_or S k 0)))

  -- a range trimmed to the places that change
  pub trimmed : (xs : List V) (place count low high : ℕ) (v : V) → place + count ≤ length xs → place ≤ low → low < place + count → high ≤ place + count
      → ((k : ℕ) → place ≤ k → k < low → slice_get xs k ≡ Some v) → slice_get xs low ≢ Some v
      → ((k : ℕ) → high ≤ k → k < place + count → slice_get xs k ≡ Some v) → (0 < high → slice_get xs (high - 1) ≢ Some v)
      → IsTrimmed xs place count v (low, high)
  trimmed xs place count low high v within h1 h2 h3 before first behind last =
      let o : low < high = ⊎_elim (λ o. o) (λ o. absurd (first (behind low o h2))) (cases_lt low high) in
      record {
        some = o;
        within = omega arith;
        enough = filled_widened xs place count low (high - low) v h1 (omega arith) within before (λ k from to. behind k (omega arith) to);
        first = first;
        last = last (omega arith);
      }

  -- a trimmed range is the smallest that holds what changes
  pub changed_is : (xs : List V) (place count low high : ℕ) (v : V) → IsTrimmed xs place count v (low, high) → IsChangedRange xs (filled xs low (high - low) v) (low, high - low)
  changed_is xs place count low high v t =
      let o : low < high = t.some in
      let top : high ≤ length xs = t.within in
      let n : low + (high - low) ≡ high = omega arith in
      let n' : low + (high - low) - 1 ≡ high - 1 = omega arith in
      let len : length (filled xs low (high - low) v) ≡ length xs = length-filled xs low (high - low) v (omega arith) in
      let at_low : slice_get (filled xs low (high - low) v) low ≡ Some v = slice_get-get_or (filled xs low (high - low) v) low v (omega arith) ∙ ap Some (get_or-filled_inside xs low (high - low) v low v (omega arith) (omega arith) (omega arith)) in
      let at_high : slice_get (filled xs low (high - low) v) (high - 1) ≡ Some v = slice_get-get_or (filled xs low (high - low) v) (high - 1) v (omega arith) ∙ ap Some (get_or-filled_inside xs low (high - low) v (high - 1) v (omega arith) (omega arith) (omega arith)) in
      record {
        some = omega arith;
        within = omega arith;
        before = take_at (take low xs) (replicate (high - low) v ++ drop (low + (high - low)) xs) low (length-take-le low xs (omega arith));
        behind = drop_behind xs low (high - low) v (omega arith);
        first = λ e. t.first (sym e ∙ at_low);
        last = λ e. t.last (ap (λ k. slice_get xs k) (sym n') ∙ sym e ∙ ap (λ k. slice_get (filled xs low (high - low) v) k) n' ∙ at_high);
      }
    where
      drop_behind : (xs : List V) (p n : ℕ) (v : V) → p + n ≤ length xs → drop (p + n) (filled xs p n v) ≡ drop (p + n) xs
      drop_behind xs p n v h =
          let len : length (take p xs ++ replicate n v) ≡ p + n = length-append (take p xs) (replicate n v) ∙ omega (arith, length-take-le p xs (omega arith), length-replicate n v) in
          ap (λ l. drop (p + n) l) (sym (append_assoc (take p xs) (replicate n v) (drop (p + n) xs))) ∙ drop_at (take p xs ++ replicate n v) (drop (p + n) xs) (p + n) len
