-- Each step of the code, by the index of a run: the table that it leaves, and the list that this table stands for.
use Rattle.run_styles.proofs.Names.{◌≡◌, ℕ, ◌+◌, ◌-◌, ◌<◌, ◌≤◌, zero, suc, List, [], ◌∷◌, ◌++◌, length, get_or, take, drop, map, refl, sym, ap, ◌∙◌, arith, length-append, subst, length-take-le, length-map, take_more, drop_more, get_or-drop, take_all, drop_all, expansion, Rise, IsTable, inserted, deleted, filled}
use Rattle.std.proofs.lemmas.List.{take-append-drop}
use Rattle.run_styles.proofs.Tables.{expansion-append, length-expansion, expansion-map_add, head-append, head-map_add, rise_le, rise_left, rise_right, rise_join, rise-map_add, rise-map_sub, head-map_sub, rise_positive}
use Rattle.run_styles.proofs.Pieces.{expansion-merge, expansion-fill, expansion-grow, expansion-shrink, expansion-drop}

-- an item of a list, and the list round it
pub record At {X : Type 0} (xs : List X) (i : ℕ) : Type 0 where
  pub item : X
  pub whole : xs ≡ take i xs ++ item ∷ drop (i + 1) xs
  pub front : take (i + 1) xs ≡ take i xs ++ item ∷ []
  pub rest : drop i xs ≡ item ∷ drop (i + 1) xs
  pub read : (d : X) → get_or xs i d ≡ item

at_default : {X : Type 0} (xs : List X) (i : ℕ) (d : X) → i < length xs → At xs i
at_default xs i d h =
    let rest : drop i xs ≡ get_or xs i d ∷ drop (i + 1) xs = drop_more xs i d h in
    record {
      item = get_or xs i d;
      whole = sym (take-append-drop i xs) ∙ ap (λ t. take i xs ++ t) rest;
      front = take_more xs i d h;
      rest = rest;
      read = λ e. head_of (sym (drop_more xs i e h) ∙ rest);
    }
  where
    head_of : {X : Type 0} {x y : X} {xs ys : List X} → x ∷ xs ≡ y ∷ ys → x ≡ y
    head_of e = cc

pub at : {X : Type 0} (xs : List X) (i : ℕ) → i < length xs → At xs i
at [] i h = absurd (omega (arith, h))
at (x ∷ xs) i h = at_default (x ∷ xs) i x h

-- the table is sound, and stands for the list
pub record Stands {V : Type 0} (S : List ℕ) (W : List V) (end : ℕ) (xs : List V) : Type 0 where
  pub table : IsTable S W end
  pub list : expansion S W end ≡ xs

module _ {V : Type 0} where
  pub stands_at : (S S' : List ℕ) (W W' : List V) (end : ℕ) (xs : List V) → S ≡ S' → W ≡ W' → Stands S' W' end xs → Stands S W end xs
  stands_at S S' W W' end xs e f h =
      let P : List ℕ → Type 0 = λ s. Stands s W end xs in
      let Q : List V → Type 0 = λ w. Stands S' w end xs in
      subst P (sym e) (subst Q (sym f) h)

  -- a run cut in two: both runs, side by side
  pub split_parts : (xs : List ℕ) (s p : ℕ) (ys : List ℕ) (vs : List V) (v : V) (ws : List V) (end : ℕ) → length xs ≡ length vs → 0 < end
      → IsTable (xs ++ s ∷ ys) (vs ++ v ∷ ws) end → s < p → p < get_or ys 0 end
      → Stands (xs ++ s ∷ p ∷ ys) (vs ++ v ∷ v ∷ ws) end (expansion (xs ++ s ∷ ys) (vs ++ v ∷ ws) end)
  split_parts xs s p ys vs v ws end e pos t low high =
      let rises : Rise (xs ++ s ∷ ys) end = t.rise pos in
      let right : Rise (s ∷ ys) end = rise_right xs (s ∷ ys) end rises in
      let left : Rise xs s = rise_left xs (s ∷ ys) end rises in
      let paired : length (xs ++ s ∷ ys) ≡ length (vs ++ v ∷ ws) = t.paired in
      record {
        table = record {
          paired = omega (arith, length-append xs (s ∷ ys), length-append vs (v ∷ ws), length-append xs (s ∷ p ∷ ys), length-append vs (v ∷ v ∷ ws));
          from_zero = head-append xs (s ∷ p ∷ ys) 1 ∙ sym (head-append xs (s ∷ ys) 1) ∙ t.from_zero;
          rise = λ _. rise_join xs (s ∷ p ∷ ys) end left (low, (high, right.1));
          single = λ z. absurd (omega (arith, z));
        };
        list = expansion-merge xs s p ys vs v ws end e (omega arith) (omega arith);
      }

  -- runs from one on joined into one
  pub fill_parts : (xs : List ℕ) (s : ℕ) (ms ys : List ℕ) (vs us : List V) (v : V) (ws : List V) (end : ℕ) → length xs ≡ length vs → suc (length ms) ≡ length us → 0 < end
      → IsTable (xs ++ s ∷ (ms ++ ys)) (vs ++ (us ++ ws)) end
      → Stands (xs ++ s ∷ ys) (vs ++ v ∷ ws) end (filled (expansion (xs ++ s ∷ (ms ++ ys)) (vs ++ (us ++ ws)) end) s (get_or ys 0 end - s) v)
  fill_parts xs s ms ys vs us v ws end e e' pos t =
      let rises : Rise (xs ++ s ∷ (ms ++ ys)) end = t.rise pos in
      let right : Rise ((s ∷ ms) ++ ys) end = rise_right xs (s ∷ (ms ++ ys)) end rises in
      let left : Rise xs s = rise_left xs (s ∷ (ms ++ ys)) end rises in
      let mid : Rise (s ∷ ms) (get_or ys 0 end) = rise_left (s ∷ ms) ys end right in
      let behind : Rise ys end = rise_right (s ∷ ms) ys end right in
      let below : get_or ms 0 (get_or ys 0 end) ≤ get_or ys 0 end = rise_le ms (get_or ys 0 end) mid.1 in
      let paired : length (xs ++ s ∷ (ms ++ ys)) ≡ length (vs ++ (us ++ ws)) = t.paired in
      record {
        table = record {
          paired = omega (arith, length-append xs (s ∷ (ms ++ ys)), length-append ms ys, length-append vs (us ++ ws), length-append us ws, length-append xs (s ∷ ys), length-append vs (v ∷ ws));
          from_zero = head-append xs (s ∷ ys) 1 ∙ sym (head-append xs (s ∷ (ms ++ ys)) 1) ∙ t.from_zero;
          rise = λ _. rise_join xs (s ∷ ys) end left (omega (arith, mid.0), behind);
          single = λ z. absurd (omega (arith, z));
        };
        list = expansion-fill xs s ms ys vs us v ws end e e' left mid t.from_zero;
      }

  -- text inserted into a run, which may be that of an empty list
  pub grow_parts : (xs : List ℕ) (s : ℕ) (ys : List ℕ) (vs : List V) (v : V) (ws : List V) (end q k : ℕ) → length xs ≡ length vs → Rise xs s → (0 < end → Rise (s ∷ ys) end) → (end ≡ 0 → ys ≡ []) → 0 < k
      → IsTable (xs ++ s ∷ ys) (vs ++ v ∷ ws) end → s ≤ q → q ≤ get_or ys 0 end
      → Stands (xs ++ s ∷ map (λ t. t + k) ys) (vs ++ v ∷ ws) (end + k) (inserted (expansion (xs ++ s ∷ ys) (vs ++ v ∷ ws) end) q k v)
  grow_parts xs s ys vs v ws end q k e left right none pos t low high =
      let paired : length (xs ++ s ∷ ys) ≡ length (vs ++ v ∷ ws) = t.paired in
      record {
        table = record {
          paired = omega (arith, length-append xs (s ∷ ys), length-append vs (v ∷ ws), length-append xs (s ∷ map (λ t. t + k) ys), length-map ys (λ t. t + k));
          from_zero = head-append xs (s ∷ map (λ t. t + k) ys) 1 ∙ sym (head-append xs (s ∷ ys) 1) ∙ t.from_zero;
          rise = λ _. rise_join xs (s ∷ map (λ t. t + k) ys) (end + k) left (rw (head-map_add ys end k) (omega arith), rises_behind end right none);
          single = λ z. absurd (omega (arith, z));
        };
        list = expansion-grow xs s ys vs v ws end q k e left t.from_zero low high;
      }
    where
      rises_behind : (end : ℕ) → (0 < end → Rise (s ∷ ys) end) → (end ≡ 0 → ys ≡ []) → Rise (map (λ t. t + k) ys) (end + k)
      rises_behind zero right none = let P : List ℕ → Type 0 = λ l. Rise (map (λ t. t + k) l) (zero + k) in subst P (sym (none refl)) tt
      rises_behind (suc n) right none = rise-map_add ys (suc n) k (right (omega arith)).1

  -- text deleted from a run, of which something stays
  pub shrink_parts : (xs : List ℕ) (s : ℕ) (ys : List ℕ) (vs : List V) (v : V) (ws : List V) (end q k : ℕ) → length xs ≡ length vs → 0 < end
      → IsTable (xs ++ s ∷ ys) (vs ++ v ∷ ws) end → s + k < get_or ys 0 end → s ≤ q → q + k ≤ get_or ys 0 end
      → Stands (xs ++ s ∷ map (λ t. t - k) ys) (vs ++ v ∷ ws) (end - k) (deleted (expansion (xs ++ s ∷ ys) (vs ++ v ∷ ws) end) q k)
  shrink_parts xs s ys vs v ws end q k e pos t stays low high =
      let rises : Rise (xs ++ s ∷ ys) end = t.rise pos in
      let right : Rise (s ∷ ys) end = rise_right xs (s ∷ ys) end rises in
      let left : Rise xs s = rise_left xs (s ∷ ys) end rises in
      let le : get_or ys 0 end ≤ end = rise_le ys end right.1 in
      let paired : length (xs ++ s ∷ ys) ≡ length (vs ++ v ∷ ws) = t.paired in
      record {
        table = record {
          paired = omega (arith, length-append xs (s ∷ ys), length-append vs (v ∷ ws), length-append xs (s ∷ map (λ t. t - k) ys), length-map ys (λ t. t - k));
          from_zero = head-append xs (s ∷ map (λ t. t - k) ys) 1 ∙ sym (head-append xs (s ∷ ys) 1) ∙ t.from_zero;
          rise = λ _. rise_join xs (s ∷ map (λ t. t - k) ys) (end - k) left (rw (head-map_sub ys end k) (omega arith), rise-map_sub ys end k (omega arith) right.1);
          single = λ z. absurd (omega (arith, z));
        };
        list = expansion-shrink xs s ys vs v ws end q k e left right.1 t.from_zero low high;
      }

  -- a run deleted with its text, if there is another
  pub drop_parts : (xs : List ℕ) (s : ℕ) (ys : List ℕ) (vs : List V) (v : V) (ws : List V) (end k : ℕ) → length xs ≡ length vs → 0 < end → 0 < length xs + length ys
      → IsTable (xs ++ s ∷ ys) (vs ++ v ∷ ws) end → s + k ≡ get_or ys 0 end
      → Stands (xs ++ map (λ t. t - k) ys) (vs ++ ws) (end - k) (deleted (expansion (xs ++ s ∷ ys) (vs ++ v ∷ ws) end) s k)
  drop_parts xs s ys vs v ws end k e pos more t high =
      let rises : Rise (xs ++ s ∷ ys) end = t.rise pos in
      let right : Rise (s ∷ ys) end = rise_right xs (s ∷ ys) end rises in
      let left : Rise xs s = rise_left xs (s ∷ ys) end rises in
      let le : get_or ys 0 end ≤ end = rise_le ys end right.1 in
      let paired : length (xs ++ s ∷ ys) ≡ length (vs ++ v ∷ ws) = t.paired in
      let behind : Rise (map (λ t. t - k) ys) (end - k) = rise-map_sub ys end k (omega arith) right.1 in
      let hd : s ≡ get_or (map (λ t. t - k) ys) 0 (end - k) = rw (head-map_sub ys end k) (omega arith) in
      let P : ℕ → Type 0 = λ p. Rise xs p in
      let all : Rise (xs ++ map (λ t. t - k) ys) (end - k) = rise_join xs (map (λ t. t - k) ys) (end - k) (subst P hd left) behind in
      let size : 0 < length (xs ++ map (λ t. t - k) ys) = omega (arith, length-append xs (map (λ t. t - k) ys), length-map ys (λ t. t - k)) in
      let above : 0 < end - k = rise_positive (xs ++ map (λ t. t - k) ys) (end - k) size all in
      record {
        table = record {
          paired = omega (arith, length-append xs (s ∷ ys), length-append vs (v ∷ ws), length-append xs (map (λ t. t - k) ys), length-append vs ws, length-map ys (λ t. t - k));
          from_zero = zero_first xs ys more t.from_zero high;
          rise = λ _. all;
          single = λ z. absurd (omega (arith, z));
        };
        list = expansion-drop xs s ys vs v ws end k e left right.1 t.from_zero high;
      }
    where
      zero_first : (xs ys : List ℕ) → 0 < length xs + length ys → get_or (xs ++ s ∷ ys) 0 1 ≡ 0 → s + k ≡ get_or ys 0 end → get_or (xs ++ map (λ t. t - k) ys) 0 1 ≡ 0
      zero_first [] [] more z high = absurd (omega (arith, more))
      zero_first [] (y ∷ ys) more z high = omega (arith, z, high)
      zero_first (x ∷ xs) ys more z high = z

  -- one more run before the first
  pub first_parts : {S : List ℕ} {W : List V} {end : ℕ} (v : V) (k : ℕ) → IsTable S W end → 0 < end → 0 < k
      → Stands (0 ∷ map (λ t. t + k) S) (v ∷ W) (end + k) (inserted (expansion S W end) 0 k v)
  first_parts {S = []} {W} {end} v k t pos more = absurd (omega (arith, t.from_zero))
  first_parts {S = s ∷ S} {W} {end} v k t pos more =
      let paired : suc (length S) ≡ length W = t.paired in
      let z : s ≡ 0 = t.from_zero in
      let n : (s + k) - 0 ≡ k = omega arith in
      record {
        table = record {
          paired = omega (arith, length-map S (λ t. t + k));
          from_zero = refl;
          rise = λ _. (omega arith, rise-map_add (s ∷ S) end k (t.rise pos));
          single = λ e. absurd (omega (arith, e));
        };
        list = rw (n, expansion-map_add (s ∷ S) W end k) refl;
      }

  -- one more run behind the last
  pub last_parts : {S : List ℕ} {W : List V} {end : ℕ} (v : V) (k : ℕ) → IsTable S W end → 0 < end → 0 < k
      → Stands (S ++ end ∷ []) (W ++ v ∷ []) (end + k) (inserted (expansion S W end) end k v)
  last_parts {S = []} {W} {end} v k t pos more = absurd (omega (arith, t.from_zero))
  last_parts {S = s ∷ S} {W} {end} v k t pos more =
      let paired : suc (length S) ≡ length W = t.paired in
      let z : s ≡ 0 = t.from_zero in
      let n : (end + k) - end ≡ k = omega arith in
      let all : length (expansion (s ∷ S) W end) ≡ end = let l = length-expansion (s ∷ S) W end paired (t.rise pos) in omega (arith, l) in
      let front : take end (expansion (s ∷ S) W end) ≡ expansion (s ∷ S) W end = take_all end (expansion (s ∷ S) W end) (omega arith) in
      let none : drop end (expansion (s ∷ S) W end) ≡ [] = drop_all end (expansion (s ∷ S) W end) (omega arith) in
      record {
        table = record {
          paired = omega (arith, length-append (s ∷ S) (end ∷ []), length-append W (v ∷ []));
          from_zero = z;
          rise = λ _. rise_join (s ∷ S) (end ∷ []) (end + k) (t.rise pos) (omega arith, tt);
          single = λ e. absurd (omega (arith, e));
        };
        list = expansion-append (s ∷ S) (end ∷ []) W (v ∷ []) (end + k) paired ∙ rw (front, none, n) refl;
      }

-- a table at one of its runs
pub record Parts {V : Type 0} (S : List ℕ) (W : List V) (end i : ℕ) : Type 0 where
  pub s : ℕ
  pub v : V
  pub starts : S ≡ take i S ++ s ∷ drop (i + 1) S
  pub values : W ≡ take i W ++ v ∷ drop (i + 1) W
  pub fronts : length (take i S) ≡ length (take i W)
  pub table : IsTable (take i S ++ s ∷ drop (i + 1) S) (take i W ++ v ∷ drop (i + 1) W) end
  pub list : expansion (take i S ++ s ∷ drop (i + 1) S) (take i W ++ v ∷ drop (i + 1) W) end ≡ expansion S W end
  pub start : get_or S i 0 ≡ s
  pub next : get_or (drop (i + 1) S) 0 end ≡ get_or S (i + 1) end
  pub starts_front : take (i + 1) S ≡ take i S ++ s ∷ []
  pub values_front : take (i + 1) W ≡ take i W ++ v ∷ []
  pub values_rest : drop i W ≡ v ∷ drop (i + 1) W
  pub read : (d : V) → get_or W i d ≡ v

module _ {V : Type 0} where
  pub parts : {S : List ℕ} {W : List V} {end : ℕ} (i : ℕ) → IsTable S W end → i < length S → Parts S W end i
  parts {S} {W} {end} i t h =
      let paired : length S ≡ length W = t.paired in
      let h' : i < length W = omega arith in
      let a : At S i = at S i h in
      let b : At W i = at W i h' in
      let P : List ℕ → Type 0 = λ l. IsTable l W end in
      let Q : List V → Type 0 = λ l. IsTable (take i S ++ a.item ∷ drop (i + 1) S) l end in
      let none : (i + 1) + 0 ≡ i + 1 = omega arith in
      record {
        s = a.item;
        v = b.item;
        starts = a.whole;
        values = b.whole;
        fronts = length-take-le i S (omega arith) ∙ sym (length-take-le i W (omega arith));
        table = subst Q b.whole (subst P a.whole t);
        list = ap (λ l. expansion l (take i W ++ b.item ∷ drop (i + 1) W) end) (sym a.whole) ∙ ap (λ l. expansion S l end) (sym b.whole);
        start = a.read 0;
        next = get_or-drop (i + 1) S 0 end ∙ ap (λ k. get_or S k end) none;
        starts_front = a.front;
        values_front = b.front;
        values_rest = b.rest;
        read = b.read;
      }
