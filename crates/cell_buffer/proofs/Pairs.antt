-- Bytes and styles as cells: `paired` with take, drop, ++ and the words of the definitions.
use Rattle.cell_buffer.proofs.Names.{◌≡◌, ◌≤◌, ◌<◌, ◌+◌, ◌-◌, ℕ, zero, suc, List, [], ◌∷◌, ◌++◌, length, take, drop, set, replicate, get_or, ◌⊎◌, inl, inr, refl, ap, sym, ◌∙◌, arith, append_assoc, Some, min, slice_get, length-take-le, length-drop, length-append, length-take, length-replicate, set_at, append-nil, take_all, drop_all, drop_more, drop-drop, take-append-drop, bytes_of, styles_of, plain_cell, plain_cells, Insert, edited_cells, inserted, deleted, paired, overwritten}
use Rattle.std.proofs.Math.Nat.{min-eq_left, min-eq_right}
use Rattle.std.proofs.lemmas.Bool.{cases_lt}
use Rattle.ed_model.specs.Changes.{restyled}

-- bytes without a stored style
pub plain_pairs : (bs : List ℕ) → paired bs [] ≡ plain_cells bs
plain_pairs [] = refl
plain_pairs (b ∷ bs) = ap (λ t. plain_cell b ∷ t) (plain_pairs bs)

pub pairs_length : (bs ss : List ℕ) → length (paired bs ss) ≡ length bs
pairs_length [] ss = refl
pairs_length (b ∷ bs) [] = ap suc (pairs_length bs [])
pairs_length (b ∷ bs) (s ∷ ss) = ap suc (pairs_length bs ss)

pub pairs_bytes : (bs ss : List ℕ) → bytes_of (paired bs ss) ≡ bs
pairs_bytes [] ss = refl
pairs_bytes (b ∷ bs) [] = ap (λ t. b ∷ t) (pairs_bytes bs [])
pairs_bytes (b ∷ bs) (s ∷ ss) = ap (λ t. b ∷ t) (pairs_bytes bs ss)

plain_styles : (bs : List ℕ) → styles_of (paired bs []) ≡ replicate (length bs) 0
plain_styles [] = refl
plain_styles (b ∷ bs) = ap (λ t. 0 ∷ t) (plain_styles bs)

-- the stored styles, and behind them those that are 0
pub pairs_styles : (bs ss : List ℕ) → length ss ≤ length bs → styles_of (paired bs ss) ≡ ss ++ replicate (length bs - length ss) 0
pairs_styles [] [] l = refl
pairs_styles [] (s ∷ ss) l = absurd (omega arith)
pairs_styles (b ∷ bs) [] l =
    let all : length (b ∷ bs) ≡ length (b ∷ bs) - 0 = omega arith in
    plain_styles (b ∷ bs) ∙ ap (λ n. replicate n 0) all
pairs_styles (b ∷ bs) (s ∷ ss) l =
    let rest : length bs - length ss ≡ suc (length bs) - suc (length ss) = omega arith in
    ap (λ t. s ∷ t) (pairs_styles bs ss (omega arith)) ∙ ap (λ n. s ∷ ss ++ replicate n 0) rest

take_none : (n : ℕ) → take {A = ℕ} n [] ≡ []
take_none zero = refl
take_none (suc n) = refl

drop_none : (n : ℕ) → drop {A = ℕ} n [] ≡ []
drop_none zero = refl
drop_none (suc n) = refl

pub pairs_taken : (n : ℕ) (bs ss : List ℕ) → take n (paired bs ss) ≡ paired (take n bs) (take n ss)
pairs_taken zero bs ss = refl
pairs_taken (suc n) [] ss = refl
pairs_taken (suc n) (b ∷ bs) [] = ap (λ t. plain_cell b ∷ t) (pairs_taken n bs [] ∙ ap (paired (take n bs)) (take_none n))
pairs_taken (suc n) (b ∷ bs) (s ∷ ss) = ap (λ t. record { byte = b; style = s } ∷ t) (pairs_taken n bs ss)

pub pairs_dropped : (n : ℕ) (bs ss : List ℕ) → drop n (paired bs ss) ≡ paired (drop n bs) (drop n ss)
pairs_dropped zero bs ss = refl
pairs_dropped (suc n) [] ss = refl
pairs_dropped (suc n) (b ∷ bs) [] = pairs_dropped n bs [] ∙ ap (paired (drop n bs)) (drop_none n)
pairs_dropped (suc n) (b ∷ bs) (s ∷ ss) = pairs_dropped n bs ss

pub pairs_joined : (bs ss cs ts : List ℕ) → length ss ≡ length bs → paired (bs ++ cs) (ss ++ ts) ≡ paired bs ss ++ paired cs ts
pairs_joined [] [] cs ts h = refl
pairs_joined [] (s ∷ ss) cs ts h = absurd (omega arith)
pairs_joined (b ∷ bs) [] cs ts h = absurd (omega arith)
pairs_joined (b ∷ bs) (s ∷ ss) cs ts h = ap (λ t. record { byte = b; style = s } ∷ t) (pairs_joined bs ss cs ts (omega arith))

-- bytes behind those with a stored style
pub pairs_behind : (bs ss cs : List ℕ) → length ss ≤ length bs → paired (bs ++ cs) ss ≡ paired bs ss ++ paired cs []
pairs_behind [] [] cs l = refl
pairs_behind [] (s ∷ ss) cs l = absurd (omega arith)
pairs_behind (b ∷ bs) [] cs l = ap (λ t. plain_cell b ∷ t) (pairs_behind bs [] cs (omega arith))
pairs_behind (b ∷ bs) (s ∷ ss) cs l = ap (λ t. record { byte = b; style = s } ∷ t) (pairs_behind bs ss cs (omega arith))

-- it makes no difference whether a style that is 0 is stored
pub zeros_stored : (bs ss : List ℕ) (n : ℕ) → paired bs (ss ++ replicate n 0) ≡ paired bs ss
zeros_stored [] ss n = refl
zeros_stored (b ∷ bs) [] zero = refl
zeros_stored (b ∷ bs) [] (suc n) = ap (λ t. plain_cell b ∷ t) (zeros_stored bs [] n)
zeros_stored (b ∷ bs) (s ∷ ss) n = ap (λ t. record { byte = b; style = s } ∷ t) (zeros_stored bs ss n)

-- styles set on the first cells
pub restyled_pairs : (new bs ss : List ℕ) → length ss ≤ length bs → length new ≤ length ss → restyled new (paired bs ss) ≡ paired bs (new ++ drop (length new) ss)
restyled_pairs [] bs ss h l = refl
restyled_pairs (x ∷ new) bs [] h l = absurd (omega arith)
restyled_pairs (x ∷ new) [] (s ∷ ss) h l = absurd (omega arith)
restyled_pairs (x ∷ new) (b ∷ bs) (s ∷ ss) h l = ap (λ t. record { byte = b; style = x } ∷ t) (restyled_pairs new bs ss (omega arith) (omega arith))

-- a read
pub read_item : (xs : List ℕ) (i x : ℕ) → i < length xs → x ≡ get_or xs i x → slice_get xs i ≡ Some x
read_item [] i x h e = absurd (omega arith)
read_item (y ∷ xs) zero x h e = ap Some (sym e)
read_item (y ∷ xs) (suc i) x h e = read_item xs i x (omega arith) e

pub stored_style_read : (bs ss : List ℕ) (i x : ℕ) → i < length bs → i < length ss → x ≡ get_or ss i x → slice_get (styles_of (paired bs ss)) i ≡ Some x
stored_style_read [] ss i x l h e = absurd (omega arith)
stored_style_read (b ∷ bs) [] i x l h e = absurd (omega arith)
stored_style_read (b ∷ bs) (s ∷ ss) zero x l h e = ap Some (sym e)
stored_style_read (b ∷ bs) (s ∷ ss) (suc i) x l h e = stored_style_read bs ss i x (omega arith) (omega arith) e

pub zero_style_read : (bs ss : List ℕ) (i : ℕ) → i < length bs → length ss ≤ i → slice_get (styles_of (paired bs ss)) i ≡ Some 0
zero_style_read [] ss i l h = absurd (omega arith)
zero_style_read (b ∷ bs) [] zero l h = refl
zero_style_read (b ∷ bs) [] (suc i) l h = zero_style_read bs [] i (omega arith) (omega arith)
zero_style_read (b ∷ bs) (s ∷ ss) zero l h = absurd (omega arith)
zero_style_read (b ∷ bs) (s ∷ ss) (suc i) l h = zero_style_read bs ss i (omega arith) (omega arith)

-- the first n items of two lists, both at least as long
same_front : (n : ℕ) (bs ss : List ℕ) → n ≤ length ss → length ss ≤ length bs → length (take n ss) ≡ length (take n bs)
same_front n bs ss l h = omega (arith, length-take-le n bs (omega arith), length-take-le n ss l)

-- bytes are inserted among those with a stored style, with style 0
pub inserted_among : (bs ss new : List ℕ) (p n : ℕ) → length ss ≤ length bs → n ≡ length new → p ≤ length ss →
    paired (inserted bs p new) (inserted ss p (replicate n 0)) ≡ edited_cells (Insert p new) (paired bs ss)
inserted_among bs ss new p n h e l =
    let long : length (take p ss ++ replicate n 0) ≡ length (take p bs ++ new) =
    omega (arith, same_front p bs ss l h, length-append (take p ss) (replicate n 0), length-append (take p bs) new, length-replicate {A = ℕ} n 0) in
    rw (pairs_joined (take p bs ++ new) (take p ss ++ replicate n 0) (drop p bs) (drop p ss) long)
    (rw (pairs_joined (take p bs) (take p ss) new (replicate n 0) (same_front p bs ss l h))
    (rw (zeros_stored new [] n, plain_pairs new, ← pairs_taken p bs ss, ← pairs_dropped p bs ss)))

-- bytes are inserted behind those
pub inserted_behind : (bs ss new : List ℕ) (p : ℕ) → length ss ≤ p → p ≤ length bs →
    paired (inserted bs p new) ss ≡ edited_cells (Insert p new) (paired bs ss)
inserted_behind bs ss new p h l =
    let front : length ss ≤ length (take p bs) = omega (arith, length-take-le p bs l) in
    let longer : length ss ≤ length (take p bs ++ new) = omega (arith, length-append (take p bs) new, front) in
    let all : take p ss ≡ ss = take_all p ss h in
    let none : drop p ss ≡ [] = drop_all p ss h in
    rw (pairs_behind (take p bs ++ new) ss (drop p bs) longer, pairs_behind (take p bs) ss new front, plain_pairs new)
    (rw (pairs_taken p bs ss, pairs_dropped p bs ss, all, none))

-- cells are deleted, with the styles that are stored for them
pub deleted_pairs : (bs ss : List ℕ) (p n : ℕ) → length ss ≤ length bs → p ≤ length ss →
    paired (deleted bs p n) (deleted ss p n) ≡ take p (paired bs ss) ++ drop (p + n) (paired bs ss)
deleted_pairs bs ss p n h l =
    rw (pairs_joined (take p bs) (take p ss) (drop (p + n) bs) (drop (p + n) ss) (same_front p bs ss l h))
    (rw (← pairs_taken p bs ss, ← pairs_dropped (p + n) bs ss))

dropped_alike : (ss : List ℕ) (p n m : ℕ) → m ≡ min n (length ss - p) → p ≤ length ss → (length ss - p < n) ⊎ (n ≤ length ss - p) → drop (p + m) ss ≡ drop (p + n) ss
dropped_alike ss p n m e l (inl more) =
    let all : m ≡ length ss - p = e ∙ min-eq_right (omega arith) in
    drop_all (p + m) ss (omega arith) ∙ sym (drop_all (p + n) ss (omega arith))
dropped_alike ss p n m e l (inr fewer) = ap (λ k. drop (p + k) ss) (e ∙ min-eq_left fewer)

-- no more are deleted than there are
pub deleted_all : (ss : List ℕ) (p n m : ℕ) → m ≡ min n (length ss - p) → p ≤ length ss → deleted ss p m ≡ deleted ss p n
deleted_all ss p n m e l = ap (λ t. take p ss ++ t) (dropped_alike ss p n m e l (cases_lt (length ss - p) n))

-- cells are deleted behind those with a stored style
pub deleted_behind : (bs ss : List ℕ) (p n : ℕ) → length ss ≤ p → p ≤ length bs →
    paired (deleted bs p n) ss ≡ take p (paired bs ss) ++ drop (p + n) (paired bs ss)
deleted_behind bs ss p n h l =
    let front : length ss ≤ length (take p bs) = omega (arith, length-take-le p bs l) in
    let all : take p ss ≡ ss = take_all p ss h in
    let none : drop (p + n) ss ≡ [] = drop_all (p + n) ss (omega arith) in
    rw (pairs_behind (take p bs) ss (drop (p + n) bs) front)
    (rw (pairs_taken p bs ss, pairs_dropped (p + n) bs ss, all, none))

-- one more item written
pub overwritten_push : (xs done : List ℕ) (start i a : ℕ) → length done ≡ i → start + i < length xs →
    set (overwritten xs start done) (start + i) a ≡ overwritten xs start (done ++ a ∷ [])
overwritten_push xs done start i a h l =
    let front : length (take start xs ++ done) ≡ start + i = omega (arith, length-append (take start xs) done, length-take-le start xs (omega arith)) in
    let next : drop (start + length done) xs ≡ get_or xs (start + i) 0 ∷ drop (start + i + 1) xs =
    ap (λ k. drop (start + k) xs) h ∙ drop_more xs (start + i) 0 l in
    let end : start + i + 1 ≡ start + length (done ++ a ∷ []) = omega (arith, length-append done (a ∷ [])) in
    ap (λ t. set (take start xs ++ done ++ t) (start + i) a) next
    ∙ set_at (take start xs ++ done) (get_or xs (start + i) 0) (drop (start + i + 1) xs) a (start + i) front
    ∙ rw (← end) (simp append_assoc)

pub overwritten_length : (xs new : List ℕ) (start : ℕ) → start + length new ≤ length xs → length (overwritten xs start new) ≡ length xs
overwritten_length xs new start l = simp (length-append, length-take, length-drop) (omega arith)

-- the styles of some cells written
pub overwritten_pairs : (bs ss new : List ℕ) (start : ℕ) → length ss ≤ length bs → start + length new ≤ length ss →
    paired bs (overwritten ss start new) ≡ take start (paired bs ss) ++ restyled new (drop start (paired bs ss))
overwritten_pairs bs ss new start h l =
    let behind : length (drop start ss) ≤ length (drop start bs) = omega (arith, length-drop start ss, length-drop start bs) in
    let rest : restyled new (drop start (paired bs ss)) ≡ paired (drop start bs) (new ++ drop (start + length new) ss) =
    rw (pairs_dropped start bs ss) (restyled_pairs new (drop start bs) (drop start ss) behind (omega (arith, length-drop start ss)) ∙ ap (λ t. paired (drop start bs) (new ++ t)) (drop-drop (length new) start ss)) in
    rw (rest, pairs_taken start bs ss, ← pairs_joined (take start bs) (take start ss) (drop start bs) (new ++ drop (start + length new) ss) (same_front start bs ss (omega arith) h), take-append-drop start bs)
    (simp append_assoc)

-- nothing written
pub overwritten_none : (xs : List ℕ) (start : ℕ) → overwritten xs start [] ≡ xs
overwritten_none xs start =
    let place : start + 0 ≡ start = omega arith in
    rw (append-nil (take start xs), place) (take-append-drop start xs)
