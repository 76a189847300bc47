-- The steps of the code by the index of a run, as their contracts state them.
use Rattle.run_styles.proofs.Names.{◌≡◌, ℕ, ◌+◌, ◌-◌, ◌<◌, ◌≤◌, zero, suc, List, [], ◌∷◌, ◌++◌, length, get_or, take, drop, map, replicate, Some, slice_get, slice_get-get_or, get_or_from_slice_get, refl, sym, ap, ◌∙◌, arith, append_assoc, append-nil, length-append, subst, drop-drop, take-append-drop, ⊎_elim, take_at, drop_at, drop-append-add, length-take-le, length-drop, get_or-append_right, get_or_append_left, get_or-replicate, length-replicate, drop_all, get_or-drop, get_or_default, get_or_past, nil_from_length, take_all, CanStart, cases_lt, set, take_more_set, drop-set-lt, insert, remove, expansion, Rise, IsTable, inserted, deleted, filled}
use Rattle.run_styles.proofs.Tables.{expansion-append, length-expansion, rise_left, rise_right, rise_lt, rise_within}
use Rattle.run_styles.proofs.Pieces.{length_front}
use Rattle.run_styles.proofs.Steps.{At, at, Stands, stands_at, Parts, parts, split_parts, fill_parts, grow_parts, shrink_parts, drop_parts}

-- what comes behind a seam, without its first item
pub remove-seam : {X : Type 0} (xs : List X) (f k : ℕ) → f ≤ k → k < length xs → remove (take f xs ++ drop k xs) f ≡ take f xs ++ drop (k + 1) xs
remove-seam xs f k le h =
    let n : length (take f xs) ≡ f = length-take-le f xs (omega arith) in
    let n1 : length (take f xs) + 1 ≡ suc f = omega arith in
    let front : take f (take f xs ++ drop k xs) ≡ take f xs = take_at (take f xs) (drop k xs) f n in
    let back : drop (suc f) (take f xs ++ drop k xs) ≡ drop (k + 1) xs = ap (λ m. drop m (take f xs ++ drop k xs)) (sym n1) ∙ drop-append-add (take f xs) (drop k xs) 1 ∙ drop-drop 1 k xs in
    rw (front, back) refl

-- how many items that are
pub length-seam : {X : Type 0} (xs : List X) (f k : ℕ) → f ≤ k → k ≤ length xs → length (take f xs ++ drop k xs) + (k - f) ≡ length xs
length-seam xs f k le h = omega (arith, length-append (take f xs) (drop k xs), length-take-le f xs (omega arith), length-drop k xs)

pub drop_split_starts : (S : List ℕ) (i q : ℕ) → i < length S → drop (i + 1 + 1) (insert S (i + 1) q) ≡ drop (i + 1) S
drop_split_starts S i q h =
    let e = drop-drop 1 (i + 1) (insert S (i + 1) q) in
    sym e ∙ ap (λ l. drop 1 l) (drop_at (take (i + 1) S) (q ∷ drop (i + 1) S) (i + 1) (length-take-le (i + 1) S (omega arith)))

-- a place at or behind a run's start, and before the start of each later run, lies before the run's end
pub run_end : (S : List ℕ) (end q i : ℕ) → ((k : ℕ) → i < k → k < length S → q < get_or S k 0) → q < end → q < get_or S (i + 1) end
run_end S end q i last top = ⊎_elim (λ h. rw (get_or_default S (i + 1) end 0 h) (last (i + 1) (omega arith) h)) (λ h. rw (get_or_past S (i + 1) end h) top) (cases_lt (i + 1) (length S))

-- text inserted into the last run moves no start
pub raised_last : (S : List ℕ) (k : ℕ) → 0 < length S → take (length S - 1 + 1) S ++ map (λ s. s + k) (drop (length S - 1 + 1) S) ≡ S
raised_last S k h =
    let n : length S - 1 + 1 ≡ length S = omega arith in
    rw (n, take_all (length S) S (omega arith), drop_all (length S) S (omega arith)) (append-nil S)

module _ {V : Type 0} where
  pub length_table : {S : List ℕ} {W : List V} {end : ℕ} → IsTable S W end → length (expansion S W end) ≡ end
  length_table {S = []} {W} {end} t = absurd (omega (arith, t.from_zero))
  length_table {S = s ∷ S} {W} {end = zero} t = empty S W t.from_zero (t.single refl) t.paired
    where
      empty : (S : List ℕ) (W : List V) → s ≡ 0 → suc (length S) ≡ 1 → suc (length S) ≡ length W → length (expansion (s ∷ S) W 0) ≡ 0
      empty [] [] z one e = refl
      empty [] (w ∷ W) z one e = rw z refl
      empty (s' ∷ S) W z one e = absurd (omega (arith, one))
  length_table {S = s ∷ S} {W} {end = suc n} t =
      let paired : length (s ∷ S) ≡ length W = t.paired in
      let l = length-expansion (s ∷ S) W (suc n) paired (t.rise (omega arith)) in
      let z : s ≡ 0 = t.from_zero in
      omega (arith, l, z)

  -- a run ends at the end of the table or before it
  pub run_top : {S : List ℕ} {W : List V} {end : ℕ} (i : ℕ) → IsTable S W end → i < length S → get_or S (i + 1) end ≤ end
  run_top {S} {W} {end = zero} i t h = let one : length S ≡ 1 = t.single refl in let past : get_or S (i + 1) 0 ≡ 0 = get_or_past S (i + 1) 0 (omega arith) in omega arith
  run_top {S} {W} {end = suc n} i t h = rise_within S (suc n) (i + 1) (t.rise (omega arith))

  -- two tables of one list end at the same place
  pub same_end : {S S' : List ℕ} {W W' : List V} {end end' : ℕ} → IsTable S W end → IsTable S' W' end' → expansion S W end ≡ expansion S' W' end' → end ≡ end'
  same_end t t' e = sym (length_table t) ∙ ap length e ∙ length_table t'

  -- a run of a list that is not empty has a place
  pub run_some : {S : List ℕ} {W : List V} {end : ℕ} (i : ℕ) → IsTable S W end → 0 < end → i < length S → get_or S i 0 < get_or S (i + 1) end
  run_some {S} {W} {end} i t pos h = rise_lt S end i (i + 1) (omega arith) (omega arith) (t.rise pos)

  -- the run of an empty list starts where it ends
  pub run_order : {S : List ℕ} {W : List V} {end : ℕ} (i : ℕ) → IsTable S W end → i < length S → get_or S i 0 ≤ get_or S (i + 1) end
  run_order {S} {W} {end = zero} i t h =
      let one : length S ≡ 1 = t.single refl in
      let z : i ≡ 0 = omega arith in
      let first : get_or S i 0 ≡ 0 = ap (λ q. get_or S q 0) z ∙ get_or_default S 0 0 1 (omega arith) ∙ t.from_zero in
      omega arith
  run_order {S} {W} {end = suc n} i t h = let lt = run_some i t (omega arith) h in omega arith

  -- each place of a run has the run's value
  pub value_in_run : {S : List ℕ} {W : List V} {end : ℕ} (i q : ℕ) (d : V) → IsTable S W end → i < length S → get_or S i 0 ≤ q → q < get_or S (i + 1) end → get_or (expansion S W end) q d ≡ get_or W i d
  value_in_run {S} {W} {end} i q d t h low high =
      let top = run_top i t h in
      let p : Parts S W end i = parts i t h in
      let pos : 0 < end = omega arith in
      let start : get_or S i 0 ≡ p.s = p.start in
      let next : get_or (drop (i + 1) S) 0 end ≡ get_or S (i + 1) end = p.next in
      let rises : Rise (take i S ++ p.s ∷ drop (i + 1) S) end = p.table.rise pos in
      let left : Rise (take i S) p.s = rise_left (take i S) (p.s ∷ drop (i + 1) S) end rises in
      let front : length (expansion (take i S) (take i W) p.s) ≡ p.s = length_front (take i S) (take i W) p.s (drop (i + 1) S) p.fronts left p.table.from_zero in
      let n : ℕ = get_or (drop (i + 1) S) 0 end - p.s in
      let inside : q - p.s < length (replicate (get_or (drop (i + 1) S) 0 end - p.s) p.v) = rw (length-replicate (get_or (drop (i + 1) S) 0 end - p.s) p.v) (omega arith) in
      let inside' : q - p.s < get_or (drop (i + 1) S) 0 end - p.s = omega arith in
      ap (λ l. get_or l q d) (sym p.list ∙ expansion-append (take i S) (p.s ∷ drop (i + 1) S) (take i W) (p.v ∷ drop (i + 1) W) end p.fronts)
      ∙ get_or-append_right (expansion (take i S) (take i W) p.s) (replicate (get_or (drop (i + 1) S) 0 end - p.s) p.v ++ expansion (drop (i + 1) S) (drop (i + 1) W) end) p.s q d front (omega arith)
      ∙ get_or_append_left (replicate (get_or (drop (i + 1) S) 0 end - p.s) p.v) (expansion (drop (i + 1) S) (drop (i + 1) W) end) d (q - p.s) inside
      ∙ get_or-replicate (get_or (drop (i + 1) S) 0 end - p.s) (q - p.s) p.v d inside'
      ∙ sym (p.read d)

  pub split_stands : {S : List ℕ} {W : List V} {end : ℕ} (i q : ℕ) → IsTable S W end → 0 < end → i < length S → get_or S i 0 < q → q < get_or S (i + 1) end
      → Stands (insert S (i + 1) q) (take (i + 1) W ++ drop i W) end (expansion S W end)
  split_stands {S} {W} {end} i q t pos h low high =
      let p : Parts S W end i = parts i t h in
      let start : get_or S i 0 ≡ p.s = p.start in
      let next : get_or (drop (i + 1) S) 0 end ≡ get_or S (i + 1) end = p.next in
      let es : insert S (i + 1) q ≡ take i S ++ p.s ∷ q ∷ drop (i + 1) S = ap (λ l. l ++ q ∷ drop (i + 1) S) p.starts_front ∙ append_assoc (take i S) (p.s ∷ []) (q ∷ drop (i + 1) S) in
      let ew : take (i + 1) W ++ drop i W ≡ take i W ++ p.v ∷ p.v ∷ drop (i + 1) W = ap (λ l. l ++ drop i W) p.values_front ∙ ap (λ l. (take i W ++ p.v ∷ []) ++ l) p.values_rest ∙ append_assoc (take i W) (p.v ∷ []) (p.v ∷ drop (i + 1) W) in
      let P : List V → Type 0 = λ l. Stands (insert S (i + 1) q) (take (i + 1) W ++ drop i W) end l in
      subst P p.list (stands_at _ _ _ _ end _ es ew (split_parts (take i S) p.s q (drop (i + 1) S) (take i W) p.v (drop (i + 1) W) end p.fronts pos p.table (omega arith) (omega arith)))

  -- an item inserted behind itself
  pub split_values : (W : List V) (i : ℕ) (v : V) → i < length W → v ≡ get_or W i v → (take (i + 1) W ++ v ∷ []) ++ drop (i + 1) W ≡ take (i + 1) W ++ drop i W
  split_values W i v h e =
      let a : At W i = at W i h in
      let here : v ≡ a.item = e ∙ a.read v in
      append_assoc (take (i + 1) W) (v ∷ []) (drop (i + 1) W) ∙ ap (λ l. take (i + 1) W ++ l) (ap (λ x. x ∷ drop (i + 1) W) here ∙ sym a.rest)

  -- what comes behind a run that was cut in two
  pub drop_split_values : (W : List V) (i : ℕ) → i < length W → drop (i + 1) (take (i + 1) W ++ drop i W) ≡ drop i W
  drop_split_values W i h = drop_at (take (i + 1) W) (drop i W) (i + 1) (length-take-le (i + 1) W (omega arith))

  pub drop_split_values_more : (W : List V) (i : ℕ) → i < length W → drop (i + 1 + 1) (take (i + 1) W ++ drop i W) ≡ drop (i + 1) W
  drop_split_values_more W i h =
      let e = drop-drop 1 (i + 1) (take (i + 1) W ++ drop i W) in
      sym e ∙ ap (λ l. drop 1 l) (drop_split_values W i h) ∙ drop-drop 1 i W

  pub fill_stands : {S : List ℕ} {W : List V} {end : ℕ} (a b : ℕ) (v : V) → IsTable S W end → 0 < end → a < b → b ≤ length S
      → Stands (take (a + 1) S ++ drop b S) (take a W ++ v ∷ drop b W) end (filled (expansion S W end) (get_or S a 0) (get_or S b end - get_or S a 0) v)
  fill_stands {S} {W} {end} a b v t pos o h =
      let p : Parts S W end a = parts a t (omega arith) in
      let paired : length S ≡ length W = t.paired in
      let start : get_or S a 0 ≡ p.s = p.start in
      let k1 : (a + 1) + (b - (a + 1)) ≡ b = omega arith in
      let k2 : a + (b - a) ≡ b = omega arith in
      let ms : List ℕ = take (b - (a + 1)) (drop (a + 1) S) in
      let us : List V = take (b - a) (drop a W) in
      let eb : drop (a + 1) S ≡ take (b - (a + 1)) (drop (a + 1) S) ++ drop b S = sym (take-append-drop (b - (a + 1)) (drop (a + 1) S)) ∙ ap (λ l. take (b - (a + 1)) (drop (a + 1) S) ++ l) (drop-drop (b - (a + 1)) (a + 1) S ∙ ap (λ k. drop k S) k1) in
      let ec : drop a W ≡ take (b - a) (drop a W) ++ drop b W = sym (take-append-drop (b - a) (drop a W)) ∙ ap (λ l. take (b - a) (drop a W) ++ l) (drop-drop (b - a) a W ∙ ap (λ k. drop k W) k2) in
      let none : b + 0 ≡ b = omega arith in
      let last : get_or (drop b S) 0 end ≡ get_or S b end = get_or-drop b S 0 end ∙ ap (λ k. get_or S k end) none in
      let es : S ≡ take a S ++ p.s ∷ (take (b - (a + 1)) (drop (a + 1) S) ++ drop b S) = p.starts ∙ ap (λ l. take a S ++ p.s ∷ l) eb in
      let ew : W ≡ take a W ++ (take (b - a) (drop a W) ++ drop b W) = sym (take-append-drop a W) ∙ ap (λ l. take a W ++ l) ec in
      let lm : length (take (b - (a + 1)) (drop (a + 1) S)) ≡ b - (a + 1) = length-take-le (b - (a + 1)) (drop (a + 1) S) (omega (arith, length-drop (a + 1) S)) in
      let lu : length (take (b - a) (drop a W)) ≡ b - a = length-take-le (b - a) (drop a W) (omega (arith, length-drop a W)) in
      let P : List ℕ → Type 0 = λ l. IsTable l W end in
      let Q : List V → Type 0 = λ l. IsTable (take a S ++ p.s ∷ (take (b - (a + 1)) (drop (a + 1) S) ++ drop b S)) l end in
      let table = subst Q ew (subst P es t) in
      let list : expansion (take a S ++ p.s ∷ (take (b - (a + 1)) (drop (a + 1) S) ++ drop b S)) (take a W ++ (take (b - a) (drop a W) ++ drop b W)) end ≡ expansion S W end
      = ap (λ l. expansion l (take a W ++ (take (b - a) (drop a W) ++ drop b W)) end) (sym es) ∙ ap (λ l. expansion S l end) (sym ew) in
      let fill = fill_parts (take a S) p.s (take (b - (a + 1)) (drop (a + 1) S)) (drop b S) (take a W) (take (b - a) (drop a W)) v (drop b W) end p.fronts (omega (arith, lm, lu)) pos table in
      let front : take (a + 1) S ++ drop b S ≡ take a S ++ p.s ∷ drop b S = ap (λ l. l ++ drop b S) p.starts_front ∙ append_assoc (take a S) (p.s ∷ []) (drop b S) in
      let same : filled (expansion (take a S ++ p.s ∷ (take (b - (a + 1)) (drop (a + 1) S) ++ drop b S)) (take a W ++ (take (b - a) (drop a W) ++ drop b W)) end) p.s (get_or (drop b S) 0 end - p.s) v
      ≡ filled (expansion S W end) (get_or S a 0) (get_or S b end - get_or S a 0) v = rw (list, last, start) refl in
      let R : List V → Type 0 = λ l. Stands (take (a + 1) S ++ drop b S) (take a W ++ v ∷ drop b W) end l in
      subst R same (stands_at _ _ _ _ end _ front refl fill)

  pub united_values : (W : List V) (from to : ℕ) (v : V) → from < to → from < length W → take (from + 1) (set W from v) ++ drop (from + 1 + (to - from - 1)) (set W from v) ≡ take from W ++ v ∷ drop to W
  united_values W from to v o h =
      let n : from + 1 + (to - from - 1) ≡ to = omega arith in
      rw (n, take_more_set W from v h, drop-set-lt to W from v o) (append_assoc (take from W) (v ∷ []) (drop to W))

  -- text inserted into a run, which is the only one of its table or has others before or behind it
  pub grow_stands : {S : List ℕ} {W : List V} {end : ℕ} (i q k : ℕ) (v : V) → IsTable S W end → i < length S → 0 < k → get_or S i 0 ≤ q → q ≤ get_or S (i + 1) end → slice_get W i ≡ Some v
      → Stands (take (i + 1) S ++ map (λ s. s + k) (drop (i + 1) S)) W (end + k) (inserted (expansion S W end) q k v)
  grow_stands {S} {W} {end} i q k v t h more low high e =
      let p : Parts S W end i = parts i t h in
      let start : get_or S i 0 ≡ p.s = p.start in
      let next : get_or (drop (i + 1) S) 0 end ≡ get_or S (i + 1) end = p.next in
      let here : p.v ≡ v = sym (p.read v) ∙ get_or_from_slice_get W i v v e in
      let left : Rise (take i S) p.s = left_rises S end i p.s t.single t.rise h p.starts in
      let right : 0 < end → Rise (p.s ∷ drop (i + 1) S) end = λ pos. rise_right (take i S) (p.s ∷ drop (i + 1) S) end (p.table.rise pos) in
      let none : end ≡ 0 → drop (i + 1) S ≡ [] = λ z. let one : length S ≡ 1 = t.single z in drop_all (i + 1) S (omega arith) in
      let grown = grow_parts (take i S) p.s (drop (i + 1) S) (take i W) p.v (drop (i + 1) W) end q k p.fronts left right none more p.table (omega arith) (omega arith) in
      let es : take (i + 1) S ++ map (λ s. s + k) (drop (i + 1) S) ≡ take i S ++ p.s ∷ map (λ s. s + k) (drop (i + 1) S) = ap (λ l. l ++ map (λ s. s + k) (drop (i + 1) S)) p.starts_front ∙ append_assoc (take i S) (p.s ∷ []) (map (λ s. s + k) (drop (i + 1) S)) in
      let list : inserted (expansion (take i S ++ p.s ∷ drop (i + 1) S) (take i W ++ p.v ∷ drop (i + 1) W) end) q k p.v ≡ inserted (expansion S W end) q k v = rw (p.list, here) refl in
      let R : List V → Type 0 = λ l. Stands (take (i + 1) S ++ map (λ s. s + k) (drop (i + 1) S)) W (end + k) l in
      subst R list (stands_at _ _ _ _ (end + k) _ es p.values grown)
    where
      left_rises : (S : List ℕ) (end i s : ℕ) → (end ≡ 0 → length S ≡ 1) → (0 < end → Rise S end) → i < length S → S ≡ take i S ++ s ∷ drop (i + 1) S → Rise (take i S) s
      left_rises S zero i s single rise h e = let one : length S ≡ 1 = single refl in let z : i ≡ 0 = omega arith in rw z tt
      left_rises S (suc n) i s single rise h e = let P : List ℕ → Type 0 = λ l. Rise l (suc n) in rise_left (take i S) (s ∷ drop (i + 1) S) (suc n) (subst P e (rise (omega arith)))

  pub grow_table : {S : List ℕ} {W : List V} {end : ℕ} (i k : ℕ) → IsTable S W end → i < length S → 0 < k → IsTable (take (i + 1) S ++ map (λ s. s + k) (drop (i + 1) S)) W (end + k)
  grow_table {S} {W} i k t h more =
      let a : At W i = at W i (omega (arith, t.paired)) in
      (grow_stands i (get_or S i 0) k a.item t h more (omega arith) (run_order i t h) (slice_get-get_or W i a.item (omega (arith, t.paired)) ∙ ap Some (a.read a.item))).table

  pub shrink_stands : {S : List ℕ} {W : List V} {end : ℕ} (i q k : ℕ) → IsTable S W end → i < length S → get_or S i 0 + k < get_or S (i + 1) end → get_or S i 0 ≤ q → q + k ≤ get_or S (i + 1) end
      → Stands (take (i + 1) S ++ map (λ s. s - k) (drop (i + 1) S)) W (end - k) (deleted (expansion S W end) q k)
  shrink_stands {S} {W} {end} i q k t h stays low high =
      let pos : 0 < end = omega (arith, run_top i t h) in
      let p : Parts S W end i = parts i t h in
      let start : get_or S i 0 ≡ p.s = p.start in
      let next : get_or (drop (i + 1) S) 0 end ≡ get_or S (i + 1) end = p.next in
      let shrunk = shrink_parts (take i S) p.s (drop (i + 1) S) (take i W) p.v (drop (i + 1) W) end q k p.fronts pos p.table (omega arith) (omega arith) (omega arith) in
      let es : take (i + 1) S ++ map (λ s. s - k) (drop (i + 1) S) ≡ take i S ++ p.s ∷ map (λ s. s - k) (drop (i + 1) S) = ap (λ l. l ++ map (λ s. s - k) (drop (i + 1) S)) p.starts_front ∙ append_assoc (take i S) (p.s ∷ []) (map (λ s. s - k) (drop (i + 1) S)) in
      let R : List V → Type 0 = λ l. Stands (take (i + 1) S ++ map (λ s. s - k) (drop (i + 1) S)) W (end - k) (deleted l q k) in
      subst R p.list (stands_at _ _ _ _ (end - k) _ es p.values shrunk)

  -- the only run, emptied
  pub clear_table : {S : List ℕ} {W : List V} {end : ℕ} → IsTable S W end → length S ≡ 1 → IsTable S W 0
  clear_table t one = record {
    paired = t.paired;
    from_zero = t.from_zero;
    rise = λ pos. absurd (omega (arith, pos));
    single = λ _. one;
  }

  pub cleared : {S : List ℕ} {W : List V} {end : ℕ} (i k : ℕ) → IsTable S W end → length S ≡ 1 → i < length S → end ≤ get_or S i end + k → expansion S W 0 ≡ deleted (expansion S W end) (get_or S i end) k
  cleared {S} {W} {end} i k t one h all =
      let z : i ≡ 0 = omega arith in
      let first : get_or S i end ≡ 0 = ap (λ q. get_or S q end) z ∙ get_or_default S 0 end 1 (omega arith) ∙ t.from_zero in
      let none : expansion S W 0 ≡ [] = nil_from_length (expansion S W 0) (length_table (clear_table t one)) in
      let gone : drop (0 + k) (expansion S W end) ≡ [] = drop_all (0 + k) (expansion S W end) (omega (arith, length_table t)) in
      rw (first, none, gone) refl

  pub drop_stands : {S : List ℕ} {W : List V} {end : ℕ} (i k : ℕ) → IsTable S W end → 0 < end → i < length S → 1 < length S → get_or S i 0 + k ≡ get_or S (i + 1) end
      → Stands (take i S ++ map (λ s. s - k) (drop (i + 1) S)) (take i W ++ drop (i + 1) W) (end - k) (deleted (expansion S W end) (get_or S i 0) k)
  drop_stands {S} {W} {end} i k t pos h more whole =
      let p : Parts S W end i = parts i t h in
      let start : get_or S i 0 ≡ p.s = p.start in
      let next : get_or (drop (i + 1) S) 0 end ≡ get_or S (i + 1) end = p.next in
      let size : 0 < length (take i S) + length (drop (i + 1) S) = omega (arith, length-take-le i S (omega arith), length-drop (i + 1) S) in
      let dropped = drop_parts (take i S) p.s (drop (i + 1) S) (take i W) p.v (drop (i + 1) W) end k p.fronts pos size p.table (omega arith) in
      let list : deleted (expansion (take i S ++ p.s ∷ drop (i + 1) S) (take i W ++ p.v ∷ drop (i + 1) W) end) p.s k ≡ deleted (expansion S W end) (get_or S i 0) k = rw (p.list, start) refl in
      let R : List V → Type 0 = λ l. Stands (take i S ++ map (λ s. s - k) (drop (i + 1) S)) (take i W ++ drop (i + 1) W) (end - k) l in
      subst R list dropped

  -- what comes behind a seam
  pub drop_seam : (W : List V) (i k : ℕ) → i ≤ length W → drop i (take i W ++ drop k W) ≡ drop k W
  drop_seam W i k h = drop_at (take i W) (drop k W) i (length-take-le i W h)

  pub runs_some : {S : List ℕ} {W : List V} {end : ℕ} → IsTable S W end → 0 < length S
  runs_some {S = []} t = absurd (omega (arith, t.from_zero))
  runs_some {S = s ∷ S} t = omega arith

  pub last_run : {S : List ℕ} {W : List V} {end : ℕ} (i : ℕ) → IsTable S W end → i + 1 ≡ length S → (i < length S) × (get_or S i 0 ≤ length (expansion S W end)) × (length (expansion S W end) ≤ get_or S (i + 1) end)
  last_run {S} {W} {end} i t e =
      let past : get_or S (i + 1) end ≡ end = get_or_past S (i + 1) end (omega arith) in
      let order : get_or S i 0 ≤ get_or S (i + 1) end = run_order i t (omega arith) in
      (omega arith, omega (arith, length_table t), omega (arith, length_table t))

  pub zero_start : {S : List ℕ} {W : List V} {end : ℕ} → IsTable S W end → get_or S 0 0 ≡ 0
  zero_start {S} t = get_or_default S 0 0 1 (runs_some t) ∙ t.from_zero

  -- one more start at each end
  pub first_starts : {S : List ℕ} {W : List V} {end : ℕ} (k : ℕ) → IsTable S W end → insert (take (0 + 1) S ++ map (λ s. s + k) (drop (0 + 1) S)) 1 k ≡ 0 ∷ map (λ s. s + k) S
  first_starts {S = []} k t = absurd (omega (arith, t.from_zero))
  first_starts {S = s ∷ S} k t =
      let z : s ≡ 0 = t.from_zero in
      let e : s + k ≡ k = omega arith in
      rw (e, z) refl

  pub last_starts : {S : List ℕ} {W : List V} {end : ℕ} (k : ℕ) → IsTable S W end → insert (take (length S - 1 + 1) S ++ map (λ s. s + k) (drop (length S - 1 + 1) S)) (length S) end ≡ S ++ end ∷ []
  last_starts {S} {W} {end} k t =
      ap (λ l. insert l (length S) end) (raised_last S k (runs_some t)) ∙ rw (take_all (length S) S (omega arith), drop_all (length S) S (omega arith)) refl

  pub last_values : {S : List ℕ} {W : List V} {end : ℕ} (v : V) → IsTable S W end → (take (length S) W ++ v ∷ []) ++ drop (length S) W ≡ W ++ v ∷ []
  last_values {S} {W} v t =
      let paired : length S ≡ length W = t.paired in
      rw (take_all (length S) W (omega arith), drop_all (length S) W (omega arith)) (append-nil (W ++ v ∷ []))

-- a partition can be inserted at the end of the text that was there
pub can_start_last : {V : Type 0} {S : List ℕ} {W : List V} {end : ℕ} (k : ℕ) → IsTable S W end → 0 < end → CanStart (take (length S - 1 + 1) S ++ map (λ s. s + k) (drop (length S - 1 + 1) S)) (end + k) (length S) end
can_start_last {S = S} {end = end} k t pos =
    let some : 0 < length S = runs_some t in
    let lower : get_or S (length S - 1) 0 < get_or S (length S) end = rise_lt S end (length S - 1) (length S) (omega arith) (omega arith) (t.rise pos) in
    let past : get_or S (length S) end ≡ end = get_or_past S (length S) end (omega arith) in
    rw (raised_last S k some) (record {
      not_first = some;
      within = omega arith;
      behind = omega arith;
      before = λ h. absurd (omega arith);
      at_most = omega arith;
    })
