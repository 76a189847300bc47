-- The cells of a block as a list.
use Rattle.split_vector.proofs.Names.{◌≡◌, ℕ, zero, suc, ◌+◌, ◌-◌, ◌<◌, ◌≤◌, Bool, true, false, List, [], ◌∷◌, ◌++◌, map, length, get_or, take, drop, set, replicate, Option, Some, None, refl, sym, ap, ◌∙◌, arith, length-append, length-take, length-drop, take-append-drop, append_assoc, length-map, length-replicate, map-append, take-map, drop-map, drop-drop, cells_of, ◌⊎◌, inl, inr}
use Rattle.split_vector.specs.Cells.{Hold, Run, beside, run_start}

module _ {X : Type 0} where
  abbrev pub empty : Option X
  empty = None

  -- n empty cells
  abbrev pub none : ℕ → List (Option X)
  none n = replicate n None

  pub cells_long : (xs : List X) (n : ℕ) (ys : List X) → length (cells_of xs n ys) ≡ length xs + n + length ys
  cells_long xs n ys =
      omega (arith, length-append (map Some xs) (none n ++ map Some ys), length-append (none n) (map Some ys), length-map xs Some, length-map ys Some, length-replicate n empty)

  pub cells_set_push : (xs : List X) (n : ℕ) (ys : List X) (i : ℕ) (x : X) → i ≡ length xs → 0 < n → set (cells_of xs n ys) i (Some x) ≡ cells_of (xs ++ x ∷ []) (n - 1) ys
  cells_set_push [] zero ys i x e some = absurd (omega arith)
  cells_set_push [] (suc n) ys zero x e some = let less : n ≡ suc n - 1 = omega arith in ap (λ m. Some x ∷ (none m ++ map Some ys)) less
  cells_set_push [] (suc n) ys (suc i) x e some = absurd (omega (arith, e))
  cells_set_push (a ∷ xs) n ys zero x e some = absurd (omega (arith, e))
  cells_set_push (a ∷ xs) n ys (suc i) x e some = ap (λ l. Some a ∷ l) (cells_set_push xs n ys i x (omega (arith, e)) some)

  pub cells_set_left : (xs : List X) (n : ℕ) (ys : List X) (i : ℕ) (x : X) → i < length xs → set (cells_of xs n ys) i (Some x) ≡ cells_of (set xs i x) n ys
  cells_set_left [] n ys i x lt = absurd (omega arith)
  cells_set_left (a ∷ xs) n ys zero x lt = refl
  cells_set_left (a ∷ xs) n ys (suc i) x lt = ap (λ l. Some a ∷ l) (cells_set_left xs n ys i x (omega arith))

  set_past : (zs bs : List (Option X)) (i k : ℕ) (v : Option X) → i ≡ length zs + k → set (zs ++ bs) i v ≡ zs ++ set bs k v
  set_past [] bs i k v e = ap (λ j. set bs j v) (omega (arith, e))
  set_past (a ∷ zs) bs zero k v e = absurd (omega (arith, e))
  set_past (a ∷ zs) bs (suc i) k v e = ap (λ l. a ∷ l) (set_past zs bs i k v (omega (arith, e)))

  set_map : (ys : List X) (i : ℕ) (x : X) → set (map Some ys) i (Some x) ≡ map Some (set ys i x)
  set_map [] i x = refl
  set_map (y ∷ ys) zero x = refl
  set_map (y ∷ ys) (suc i) x = ap (λ l. Some y ∷ l) (set_map ys i x)

  pub cells_set_right : (xs : List X) (n : ℕ) (ys : List X) (i : ℕ) (x : X) → length xs + n ≤ i → set (cells_of xs n ys) i (Some x) ≡ cells_of xs n (set ys (i - (length xs + n)) x)
  cells_set_right xs n ys i x le =
      let k = i - (length xs + n) in
      set_past (map Some xs) (none n ++ map Some ys) i (n + k) (Some x) (omega (arith, length-map xs Some))
      ∙ ap (λ l. map Some xs ++ l) (set_past (none n) (map Some ys) (n + k) k (Some x) (omega (arith, length-replicate n empty)) ∙ ap (λ l. none n ++ l) (set_map ys k x))

  -- the items left of the place and from it on, as cells
  parted : (xs : List X) (i : ℕ) → map Some xs ≡ map Some (take i xs) ++ map Some (drop i xs)
  parted xs i = ap (map Some) (sym (take-append-drop i xs)) ∙ map-append Some (take i xs) (drop i xs)

  -- the cells around the gap, with the items that lie in reach of it
  abbrev pub around : List X → ℕ → List X → ℕ → ℕ → List (Option X)
  around xs n ys i j = map Some (drop i xs) ++ (none n ++ map Some (take j ys))

  pub cells_around : (xs : List X) (n : ℕ) (ys : List X) (i j : ℕ) → cells_of xs n ys ≡ map Some (take i xs) ++ (around xs n ys i j ++ map Some (drop j ys))
  cells_around xs n ys i j =
      let a = map Some (take i xs) in let b = map Some (drop i xs) in let c = map Some (take j ys) in let d = map Some (drop j ys) in
      ap (λ l. l ++ (none n ++ map Some ys)) (parted xs i) ∙ ap (λ l. a ++ b ++ (none n ++ l)) (parted ys j) ∙ append_assoc a b (none n ++ (c ++ d))
      ∙ ap (λ l. a ++ l) (ap (λ l. b ++ l) (sym (append_assoc (none n) c d)) ∙ sym (append_assoc b (none n ++ c) d))

  pub around_long : (xs : List X) (n : ℕ) (ys : List X) (i j : ℕ) → i ≤ length xs → j ≤ length ys → length (around xs n ys i j) ≡ n + (length xs - i) + j
  around_long xs n ys i j p q =
      let b = map Some (drop i xs) in let c = map Some (take j ys) in
      omega (arith, length-append b (none n ++ c), length-append (none n) c, length-map (drop i xs) Some, length-map (take j ys) Some, length-replicate n empty, length-drop i xs, length-take j ys)

  -- the cells as a row of four: the items before the run, the run and the gap in their order, and the items behind
  abbrev pub spread : Bool → Run X → List (Option X)
  spread true p = map Some p.0 ++ (map Some p.1 ++ (none p.2 ++ map Some p.3))
  spread false p = map Some p.0 ++ (none p.2 ++ (map Some p.1 ++ map Some p.3))

  -- the run stands apart from the items that lie on its side of the gap
  joined : (on_left : Bool) (p : Run X) → cells_of (beside on_left p).0 (beside on_left p).1 (beside on_left p).2 ≡ spread on_left p
  joined true p = ap (λ l. l ++ (none p.2 ++ map Some p.3)) (map-append Some p.0 p.1) ∙ append_assoc (map Some p.0) (map Some p.1) (none p.2 ++ map Some p.3)
  joined false p = ap (λ l. map Some p.0 ++ (none p.2 ++ l)) (map-append Some p.1 p.3)

  pub cells_spread : (on_left : Bool) (p : Run X) (xs : List X) (n : ℕ) (ys : List X) → Hold xs n ys (beside on_left p) → cells_of xs n ys ≡ spread on_left p
  cells_spread on_left p xs n ys h = (λ j. cells_of (h.0 j) (h.1 j) (h.2 j)) ∙ joined on_left p

  -- how many cells there are, wherever the run lies
  pub spread_long : (on_left : Bool) (p : Run X) → length (spread on_left p) ≡ length p.0 + length p.1 + p.2 + length p.3
  spread_long true p =
      let a = map Some p.0 in let b = map Some p.1 in let c = map Some p.3 in
      omega (arith, length-append a (b ++ (none p.2 ++ c)), length-append b (none p.2 ++ c), length-append (none p.2) c, length-map p.0 Some, length-map p.1 Some, length-map p.3 Some, length-replicate p.2 empty)
  spread_long false p =
      let a = map Some p.0 in let b = map Some p.1 in let c = map Some p.3 in
      omega (arith, length-append a (none p.2 ++ (b ++ c)), length-append (none p.2) (b ++ c), length-append b c, length-map p.0 Some, length-map p.1 Some, length-map p.3 Some, length-replicate p.2 empty)

  -- the run begins at the end of the gap, or before
  pub run_starts : (on_left : Bool) (p : Run X) → run_start on_left p ≤ length p.0 + p.2
  run_starts true p = omega arith
  run_starts false p = omega arith

  set_end : (n : ℕ) (ys : List X) (i : ℕ) (x : X) → i + 1 ≡ n → set (none n ++ map Some ys) i (Some x) ≡ none (n - 1) ++ map Some (x ∷ ys)
  set_end zero ys i x e = absurd (omega (arith, e))
  set_end (suc zero) ys zero x e = refl
  set_end (suc (suc n)) ys zero x e = absurd (omega (arith, e))
  set_end (suc zero) ys (suc i) x e = absurd (omega (arith, e))
  set_end (suc (suc n)) ys (suc i) x e =
      let less : suc (suc n - 1) ≡ suc (suc n) - 1 = omega arith in
      ap (λ l. empty ∷ l) (set_end (suc n) ys i x (omega (arith, e))) ∙ ap (λ k. none k ++ map Some (x ∷ ys)) less

  pub cells_set_last : (xs : List X) (n : ℕ) (ys : List X) (i : ℕ) (x : X) → i + 1 ≡ length xs + n → 0 < n → set (cells_of xs n ys) i (Some x) ≡ cells_of xs (n - 1) (x ∷ ys)
  cells_set_last xs n ys i x e some =
      set_past (map Some xs) (none n ++ map Some ys) i (n - 1) (Some x) (omega (arith, e, some, length-map xs Some)) ∙ ap (λ l. map Some xs ++ l) (set_end n ys (n - 1) x (omega arith))

  pub left_run : (xs : List X) (n : ℕ) (ys : List X) → take (length xs) (cells_of xs n ys) ≡ map Some xs
  left_run [] n ys = refl
  left_run (x ∷ xs) n ys = ap (λ l. Some x ∷ l) (left_run xs n ys)

  past_none : (n : ℕ) (ys : List X) → drop n (none n ++ map Some ys) ≡ map Some ys
  past_none zero ys = refl
  past_none (suc n) ys = past_none n ys

  past_left : (xs : List X) (n i : ℕ) (ys : List X) → i ≡ length xs + n → drop i (cells_of xs n ys) ≡ map Some ys
  past_left [] n i ys e = ap (λ k. drop k (none n ++ map Some ys)) (omega (arith, e)) ∙ past_none n ys
  past_left (x ∷ xs) n zero ys e = absurd (omega (arith, e))
  past_left (x ∷ xs) n (suc i) ys e = past_left xs n i ys (omega (arith, e))

  take_all : (ys : List X) → take (length ys) (map Some ys) ≡ map Some ys
  take_all [] = refl
  take_all (y ∷ ys) = ap (λ l. Some y ∷ l) (take_all ys)

  pub right_run : (xs : List X) (n : ℕ) (ys : List X) → take (length ys) (drop (length xs + n) (cells_of xs n ys)) ≡ map Some ys
  right_run xs n ys = ap (take (length ys)) (past_left xs n (length xs + n) ys refl) ∙ take_all ys

  -- the cell of the item at a place, left of the gap and right of it
  item_left : (xs : List X) (n : ℕ) (ys : List X) (i : ℕ) → i < length xs → take 1 (drop i (cells_of xs n ys)) ≡ map Some (take 1 (drop i (xs ++ ys)))
  item_left [] n ys i lt = absurd (omega arith)
  item_left (x ∷ xs) n ys zero lt = refl
  item_left (x ∷ xs) n ys (suc i) lt = item_left xs n ys i (omega arith)

  item_right : (xs : List X) (n : ℕ) (ys : List X) (i : ℕ) → length xs ≤ i → take 1 (drop (i + n) (cells_of xs n ys)) ≡ map Some (take 1 (drop i (xs ++ ys)))
  item_right [] n ys i le =
      ap (λ k. take 1 (drop k (none n ++ map Some ys))) (let e : i + n ≡ n + i = omega arith in e) ∙ ap (take 1) (sym (drop-drop i n (none n ++ map Some ys)) ∙ ap (drop i) (past_none n ys) ∙ drop-map Some i ys) ∙ take-map Some 1 (drop i ys)
  item_right (x ∷ xs) n ys zero le = absurd (omega arith)
  item_right (x ∷ xs) n ys (suc i) le = let e : suc i + n ≡ suc (i + n) = omega arith in ap (λ k. take 1 (drop k (cells_of (x ∷ xs) n ys))) e ∙ item_right xs n ys i (omega arith)

  -- the cell p of the item at a place
  pub item_cell : (xs : List X) (n : ℕ) (ys : List X) (i p : ℕ) → ((p ≡ i) × (i < length xs)) ⊎ ((p ≡ i + n) × (length xs ≤ i))
      → take 1 (drop p (cells_of xs n ys)) ≡ map Some (take 1 (drop i (xs ++ ys)))
  item_cell xs n ys i p (inl h) = ap (λ k. take 1 (drop k (cells_of xs n ys))) h.0 ∙ item_left xs n ys i h.1
  item_cell xs n ys i p (inr h) = ap (λ k. take 1 (drop k (cells_of xs n ys))) h.0 ∙ item_right xs n ys i h.1

  -- the one cell of a run that is read as one item
  pub sole : (cs : List (Option X)) (xs : List X) (x : X) → take 1 cs ≡ map Some xs → 0 < length xs → x ≡ get_or xs 0 x → take 1 cs ≡ Some x ∷ []
  sole cs [] x e some is = absurd (omega arith)
  sole [] (y ∷ ys) x e some is = cc
  sole (c ∷ cs) (y ∷ ys) x e some is = cc

  pub read_one : (xs : List X) (i : ℕ) (x : X) → take 1 (drop i xs) ≡ x ∷ [] → x ≡ get_or xs i x
  read_one [] zero x e = refl
  read_one [] (suc i) x e = refl
  read_one (y ∷ ys) zero x e = cc
  read_one (y ∷ ys) (suc i) x e = read_one ys i x e

  somes : List (Option X) → List X
  somes [] = []
  somes (None ∷ cs) = somes cs
  somes (Some x ∷ cs) = x ∷ somes cs

  somes_map : (xs : List X) → somes (map Some xs) ≡ xs
  unfolding somes
  somes_map [] = refl
  somes_map (x ∷ xs) = ap (λ l. x ∷ l) (somes_map xs)

  pub somes_inj : (xs ys : List X) → map Some xs ≡ map Some ys → xs ≡ ys
  somes_inj xs ys e = sym (somes_map xs) ∙ ap somes e ∙ somes_map ys
