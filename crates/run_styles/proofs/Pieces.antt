-- What each step of the code does to the list that the runs stand for. A table is written as the runs before a run,
-- that run, and those behind it.
use Rattle.run_styles.proofs.Names.{◌≡◌, ℕ, ◌+◌, ◌-◌, ◌≤◌, suc, List, [], ◌∷◌, ◌++◌, length, get_or, take, drop, map, replicate, refl, sym, ap, ◌∙◌, arith, append_assoc, append-nil, length-replicate, replicate-append-replicate, take-append-le, drop-append-le, take-replicate, drop-replicate, take-append-add, drop-append-add, expansion, Rise, inserted, deleted, filled}
use Rattle.run_styles.proofs.Tables.{expansion-append, length-expansion, expansion-map_add, head-map_add, rise_le, rise_above}

module _ {V : Type 0} where
  -- a list cut inside the middle one of three parts, which has one value
  take_inside : (A C : List V) (n q : ℕ) (v : V) → length A ≤ q → q ≤ length A + n → take q (A ++ (replicate n v ++ C)) ≡ A ++ replicate (q - length A) v
  take_inside A C n q v low high =
      let e : q ≡ length A + (q - length A) = omega arith in
      let within : q - length A ≤ length (replicate n v) = rw (length-replicate n v) (omega arith) in
      let within' : q - length A ≤ n = omega arith in
      ap (λ k. take k (A ++ (replicate n v ++ C))) e
      ∙ take-append-add A (replicate n v ++ C) (q - length A)
      ∙ ap (λ t. A ++ t) (take-append-le (q - length A) (replicate n v) C within ∙ take-replicate (q - length A) n v within')

  drop_inside : (A C : List V) (n q : ℕ) (v : V) → length A ≤ q → q ≤ length A + n → drop q (A ++ (replicate n v ++ C)) ≡ replicate (n - (q - length A)) v ++ C
  drop_inside A C n q v low high =
      let e : q ≡ length A + (q - length A) = omega arith in
      let within : q - length A ≤ length (replicate n v) = rw (length-replicate n v) (omega arith) in
      ap (λ k. drop k (A ++ (replicate n v ++ C))) e
      ∙ drop-append-add A (replicate n v ++ C) (q - length A)
      ∙ drop-append-le (q - length A) (replicate n v) C within
      ∙ ap (λ t. t ++ C) (drop-replicate (q - length A) n v)

  -- a list that has a run of one value in its middle, and three edits of that run
  pub insert_inside : (A C : List V) (n q k : ℕ) (v : V) → length A ≤ q → q ≤ length A + n
      → inserted (A ++ (replicate n v ++ C)) q k v ≡ A ++ (replicate (n + k) v ++ C)
  insert_inside A C n q k v low high =
      let e : (q - length A) + (k + (n - (q - length A))) ≡ n + k = omega arith in
      rw (
        take_inside A C n q v low high,
        drop_inside A C n q v low high,
        append_assoc A (replicate (q - length A) v) (replicate k v ++ (replicate (n - (q - length A)) v ++ C)),
        ← append_assoc (replicate k v) (replicate (n - (q - length A)) v) C,
        replicate-append-replicate k (n - (q - length A)) v,
        ← append_assoc (replicate (q - length A) v) (replicate (k + (n - (q - length A))) v) C,
        replicate-append-replicate (q - length A) (k + (n - (q - length A))) v,
        e,
      ) refl

  pub delete_inside : (A C : List V) (n q k : ℕ) (v : V) → length A ≤ q → q + k ≤ length A + n
      → deleted (A ++ (replicate n v ++ C)) q k ≡ A ++ (replicate (n - k) v ++ C)
  delete_inside A C n q k v low high =
      let high' : q ≤ length A + n = omega arith in
      let low' : length A ≤ q + k = omega arith in
      let e : (q - length A) + (n - ((q + k) - length A)) ≡ n - k = omega arith in
      rw (
        take_inside A C n q v low high',
        drop_inside A C n (q + k) v low' high,
        append_assoc A (replicate (q - length A) v) (replicate (n - ((q + k) - length A)) v ++ C),
        ← append_assoc (replicate (q - length A) v) (replicate (n - ((q + k) - length A)) v) C,
        replicate-append-replicate (q - length A) (n - ((q + k) - length A)) v,
        e,
      ) refl

  pub fill_middle : (A M C : List V) (s n : ℕ) (v : V) → length A ≡ s → length M ≡ n → filled (A ++ (M ++ C)) s n v ≡ A ++ (replicate n v ++ C)
  fill_middle A M C s n v eA eM =
      let t : take (length A + 0) (A ++ (M ++ C)) ≡ A = take-append-add A (M ++ C) 0 ∙ append-nil A in
      let d : drop (length M + 0) (M ++ C) ≡ C = drop-append-add M C 0 in
      let s0 : s ≡ length A + 0 = omega arith in
      let s1 : s + n ≡ length A + (length M + 0) = omega arith in
      ap (λ k. take k (A ++ (M ++ C)) ++ (replicate n v ++ drop (s + n) (A ++ (M ++ C)))) s0
      ∙ ap (λ k. take (length A + 0) (A ++ (M ++ C)) ++ (replicate n v ++ drop k (A ++ (M ++ C)))) s1
      ∙ rw (t, drop-append-add A (M ++ C) (length M + 0), d) refl

-- a table's front: its first start is 0, so its values reach up to the next start
module _ {V : Type 0} where
  pub length_front : (xs : List ℕ) (vs : List V) (s : ℕ) (ys : List ℕ) → length xs ≡ length vs → Rise xs s → get_or (xs ++ s ∷ ys) 0 1 ≡ 0 → length (expansion xs vs s) ≡ s
  length_front [] vs s ys e h z = sym z
  length_front (x ∷ xs) vs s ys e h z = let l = length-expansion (x ∷ xs) vs s e h in omega (arith, l)

  -- a run cut in two, or two runs of the same value joined
  pub expansion-merge : (xs : List ℕ) (s p : ℕ) (ys : List ℕ) (vs : List V) (v : V) (ws : List V) (end : ℕ) → length xs ≡ length vs → s ≤ p → p ≤ get_or ys 0 end
      → expansion (xs ++ s ∷ p ∷ ys) (vs ++ v ∷ v ∷ ws) end ≡ expansion (xs ++ s ∷ ys) (vs ++ v ∷ ws) end
  expansion-merge xs s p ys vs v ws end e low high =
      let n : (p - s) + (get_or ys 0 end - p) ≡ get_or ys 0 end - s = omega arith in
      expansion-append xs (s ∷ p ∷ ys) vs (v ∷ v ∷ ws) end e
      ∙ ap (λ t. expansion xs vs s ++ t) (sym (append_assoc (replicate (p - s) v) (replicate (get_or ys 0 end - p) v) (expansion ys ws end)) ∙ ap (λ t. t ++ expansion ys ws end) (replicate-append-replicate (p - s) (get_or ys 0 end - p) v ∙ ap (λ k. replicate k v) n))
      ∙ sym (expansion-append xs (s ∷ ys) vs (v ∷ ws) end e)

  -- the runs from s on, up to those behind them, made one
  pub expansion-fill : (xs : List ℕ) (s : ℕ) (ms ys : List ℕ) (vs us : List V) (v : V) (ws : List V) (end : ℕ) → length xs ≡ length vs → suc (length ms) ≡ length us
      → Rise xs s → Rise (s ∷ ms) (get_or ys 0 end) → get_or (xs ++ s ∷ (ms ++ ys)) 0 1 ≡ 0
      → expansion (xs ++ s ∷ ys) (vs ++ v ∷ ws) end ≡ filled (expansion (xs ++ s ∷ (ms ++ ys)) (vs ++ (us ++ ws)) end) s (get_or ys 0 end - s) v
  expansion-fill xs s ms ys vs us v ws end e e' hx hm z =
      let front = length_front xs vs s (ms ++ ys) e hx z in
      let le = rise_le (s ∷ ms) (get_or ys 0 end) hm in
      let mid = length-expansion (s ∷ ms) us (get_or ys 0 end) e' hm in
      let mid' : length (expansion (s ∷ ms) us (get_or ys 0 end)) ≡ get_or ys 0 end - s = omega (arith, mid) in
      expansion-append xs (s ∷ ys) vs (v ∷ ws) end e
      ∙ sym (fill_middle (expansion xs vs s) (expansion (s ∷ ms) us (get_or ys 0 end)) (expansion ys ws end) s (get_or ys 0 end - s) v front mid')
      ∙ ap (λ t. filled t s (get_or ys 0 end - s) v) (sym (expansion-append xs (s ∷ (ms ++ ys)) vs (us ++ ws) end e ∙ ap (λ t. expansion xs vs s ++ t) (expansion-append (s ∷ ms) ys us ws end e')))

  -- text inserted into a run
  pub expansion-grow : (xs : List ℕ) (s : ℕ) (ys : List ℕ) (vs : List V) (v : V) (ws : List V) (end q k : ℕ) → length xs ≡ length vs → Rise xs s → get_or (xs ++ s ∷ ys) 0 1 ≡ 0 → s ≤ q → q ≤ get_or ys 0 end
      → expansion (xs ++ s ∷ map (λ t. t + k) ys) (vs ++ v ∷ ws) (end + k) ≡ inserted (expansion (xs ++ s ∷ ys) (vs ++ v ∷ ws) end) q k v
  expansion-grow xs s ys vs v ws end q k e hx z low high =
      let front = length_front xs vs s ys e hx z in
      let low' : length (expansion xs vs s) ≤ q = omega (arith, front) in
      let high' : q ≤ length (expansion xs vs s) + (get_or ys 0 end - s) = omega (arith, front) in
      let n : (get_or ys 0 end + k) - s ≡ (get_or ys 0 end - s) + k = omega arith in
      expansion-append xs (s ∷ map (λ t. t + k) ys) vs (v ∷ ws) (end + k) e
      ∙ rw (head-map_add ys end k, expansion-map_add ys ws end k, n) refl
      ∙ sym (insert_inside (expansion xs vs s) (expansion ys ws end) (get_or ys 0 end - s) q k v low' high')
      ∙ ap (λ t. inserted t q k v) (sym (expansion-append xs (s ∷ ys) vs (v ∷ ws) end e))

  -- text deleted from a run
  pub expansion-shrink : (xs : List ℕ) (s : ℕ) (ys : List ℕ) (vs : List V) (v : V) (ws : List V) (end q k : ℕ) → length xs ≡ length vs → Rise xs s → Rise ys end → get_or (xs ++ s ∷ ys) 0 1 ≡ 0 → s ≤ q → q + k ≤ get_or ys 0 end
      → expansion (xs ++ s ∷ map (λ t. t - k) ys) (vs ++ v ∷ ws) (end - k) ≡ deleted (expansion (xs ++ s ∷ ys) (vs ++ v ∷ ws) end) q k
  expansion-shrink xs s ys vs v ws end q k e hx hy z low high =
      let front = length_front xs vs s ys e hx z in
      let le = rise_le ys end hy in
      let low' : length (expansion xs vs s) ≤ q = omega (arith, front) in
      let high' : q + k ≤ length (expansion xs vs s) + (get_or ys 0 end - s) = omega (arith, front) in
      let within : k ≤ get_or ys 0 end = omega arith in
      let up : map (λ t. t + k) (map (λ t. t - k) ys) ≡ ys = rise_above ys end k within hy in
      let top : (end - k) + k ≡ end = omega arith in
      let hd : get_or (map (λ t. t - k) ys) 0 (end - k) + k ≡ get_or ys 0 end = sym (head-map_add (map (λ t. t - k) ys) (end - k) k) ∙ rw (up, top) refl in
      let n : get_or (map (λ t. t - k) ys) 0 (end - k) - s ≡ (get_or ys 0 end - s) - k = omega (arith, hd) in
      let rest : expansion (map (λ t. t - k) ys) ws (end - k) ≡ expansion ys ws end = sym (expansion-map_add (map (λ t. t - k) ys) ws (end - k) k) ∙ rw (up, top) refl in
      expansion-append xs (s ∷ map (λ t. t - k) ys) vs (v ∷ ws) (end - k) e
      ∙ rw (n, rest) refl
      ∙ sym (delete_inside (expansion xs vs s) (expansion ys ws end) (get_or ys 0 end - s) q k v low' high')
      ∙ ap (λ t. deleted t q k) (sym (expansion-append xs (s ∷ ys) vs (v ∷ ws) end e))

  -- a run deleted with its text
  pub expansion-drop : (xs : List ℕ) (s : ℕ) (ys : List ℕ) (vs : List V) (v : V) (ws : List V) (end k : ℕ) → length xs ≡ length vs → Rise xs s → Rise ys end → get_or (xs ++ s ∷ ys) 0 1 ≡ 0 → s + k ≡ get_or ys 0 end
      → expansion (xs ++ map (λ t. t - k) ys) (vs ++ ws) (end - k) ≡ deleted (expansion (xs ++ s ∷ ys) (vs ++ v ∷ ws) end) s k
  expansion-drop xs s ys vs v ws end k e hx hy z high =
      let le = rise_le ys end hy in
      let within : k ≤ get_or ys 0 end = omega arith in
      let up : map (λ t. t + k) (map (λ t. t - k) ys) ≡ ys = rise_above ys end k within hy in
      let top : (end - k) + k ≡ end = omega arith in
      let hd : get_or (map (λ t. t - k) ys) 0 (end - k) + k ≡ get_or ys 0 end = sym (head-map_add (map (λ t. t - k) ys) (end - k) k) ∙ rw (up, top) refl in
      let hd' : get_or (map (λ t. t - k) ys) 0 (end - k) ≡ s = omega (arith, hd) in
      let none : s - s ≡ 0 = omega arith in
      let h' : s + k ≤ get_or ys 0 end = omega arith in
      let shrunk = expansion-shrink xs s ys vs v ws end s k e hx hy z (omega arith) h' in
      expansion-append xs (map (λ t. t - k) ys) vs ws (end - k) e
      ∙ rw (hd') refl
      ∙ ap (λ n. expansion xs vs s ++ (replicate n v ++ expansion (map (λ t. t - k) ys) ws (end - k))) (sym none)
      ∙ ap (λ n. expansion xs vs s ++ (replicate (n - s) v ++ expansion (map (λ t. t - k) ys) ws (end - k))) (sym hd')
      ∙ sym (expansion-append xs (s ∷ map (λ t. t - k) ys) vs (v ∷ ws) (end - k) e)
      ∙ shrunk
