-- The smallest range with all changed styles, when one style after another is written.
use Rattle.cell_buffer.proofs.Names.{◌≡◌, ◌<◌, ◌+◌, ◌-◌, ℕ, zero, suc, List, [], ◌∷◌, ◌++◌, length, take, drop, get_or, Bool, true, false, refl, eq-eqb, ap, ap₂, sym, ◌∙◌, arith, append_assoc, Option, Some, if◌then◌else◌, not, ◌==◌, slice_index, unwrap_or, filter, length-append, length-take-le, drop_more, take-append-drop, append-nil, changed_places, changed_range, extent, nothing_changed, set, overwritten, range_of, range_with, widened}
use Rattle.split_vector.specs.Split.{Split}
use Rattle.cell_buffer.proofs.Pairs.{overwritten_none, overwritten_push}
use Rattle.std.specs.List.{range_with_len, last_or}

-- the places at which two lists differ, the first of their items standing at the place k
abbrev differing : ℕ → List ℕ → List ℕ → List ℕ
differing k [] ys = []
differing k (x ∷ xs) [] = []
differing k (x ∷ xs) (y ∷ ys) = if not (x == y) then k ∷ differing (k + 1) xs ys else differing (k + 1) xs ys

read_behind : (pre : List ℕ) (x : ℕ) (xs : List ℕ) (k : ℕ) → length pre ≡ k → slice_index (pre ++ x ∷ xs) k ≡ x
read_behind [] x xs zero e = refl
read_behind [] x xs (suc k) e = absurd (omega arith)
read_behind (p ∷ pre) x xs zero e = absurd (omega arith)
read_behind (p ∷ pre) x xs (suc k) e = read_behind pre x xs k (omega arith)

-- one more item in front
moved_on : (pre : List ℕ) (x : ℕ) (xs : List ℕ) → (pre ++ x ∷ []) ++ xs ≡ pre ++ x ∷ xs
moved_on pre x xs = simp append_assoc

one_more : (pre : List ℕ) (x k : ℕ) → length pre ≡ k → length (pre ++ x ∷ []) ≡ k + 1
one_more pre x k e = simp length-append (omega arith)

places_behind : (xs ys pre qre : List ℕ) (k : ℕ) → length pre ≡ k → length qre ≡ k → length ys ≡ length xs →
    filter (λ j. not (slice_index (pre ++ xs) j == slice_index (qre ++ ys) j)) (range_with_len k (length xs)) ≡ differing k xs ys
places_behind [] ys pre qre k p q l = refl
places_behind (x ∷ xs) [] pre qre k p q l = absurd (omega arith)
places_behind (x ∷ xs) (y ∷ ys) pre qre k p q l =
    let rest : filter (λ j. not (slice_index (pre ++ x ∷ xs) j == slice_index (qre ++ y ∷ ys) j)) (range_with_len (k + 1) (length xs)) ≡ differing (k + 1) xs ys =
    ap₂ (λ us vs. filter (λ j. not (slice_index us j == slice_index vs j)) (range_with_len (k + 1) (length xs))) (sym (moved_on pre x xs)) (sym (moved_on qre y ys))
    ∙ places_behind xs ys (pre ++ x ∷ []) (qre ++ y ∷ []) (k + 1) (one_more pre x k p) (one_more qre y k q) (omega arith) in
    rw (read_behind pre x xs k p, read_behind qre y ys k q, rest)

places : (xs ys : List ℕ) → length ys ≡ length xs → changed_places xs ys ≡ differing 0 xs ys
places xs ys l = places_behind xs ys [] [] 0 refl refl l

if_in_front : (b : Bool) (k : ℕ) (xs ys : List ℕ) → (if b then k ∷ (xs ++ ys) else (xs ++ ys)) ≡ (if b then k ∷ xs else xs) ++ ys
if_in_front true k xs ys = refl
if_in_front false k xs ys = refl

differing_joined : (xs ys us vs : List ℕ) (k : ℕ) → length ys ≡ length xs → differing k (xs ++ us) (ys ++ vs) ≡ differing k xs ys ++ differing (k + length xs) us vs
differing_joined [] [] us vs k l = ap (λ j. differing j us vs) (omega arith)
differing_joined [] (y ∷ ys) us vs k l = absurd (omega arith)
differing_joined (x ∷ xs) [] us vs k l = absurd (omega arith)
differing_joined (x ∷ xs) (y ∷ ys) us vs k l =
    let place : k + 1 + length xs ≡ k + suc (length xs) = omega arith in
    let rest = differing_joined xs ys us vs (k + 1) (omega arith) ∙ ap (λ j. differing (k + 1) xs ys ++ differing j us vs) place in
    ap (λ t. if not (x == y) then k ∷ t else t) rest ∙ if_in_front (not (x == y)) k (differing (k + 1) xs ys) (differing (k + suc (length xs)) us vs)

same_differs_nowhere : (xs : List ℕ) (k : ℕ) → differing k xs xs ≡ []
same_differs_nowhere [] k = refl
same_differs_nowhere (x ∷ xs) k = rw (eq-eqb x x refl, same_differs_nowhere xs (k + 1))

last_of : (ps : List ℕ) (p : ℕ) (o : Option ℕ) → last_or o (ps ++ p ∷ []) ≡ Some p
last_of [] p o = refl
last_of (q ∷ ps) p o = last_of ps p (Some q)

extent_widened : (ps : List ℕ) (p : ℕ) → extent (ps ++ p ∷ []) ≡ widened p (extent ps)
extent_widened [] p = ap (λ n. Some (p, n)) (omega arith)
extent_widened (q ∷ ps) p = ap (λ o. Some (q, unwrap_or o q + 1 - q)) (last_of ps p (Some q))

-- what differs if one item differs, and nothing behind it
differing_at : (x y k : ℕ) (xs ys back : List ℕ) → length ys ≡ length xs → length xs ≡ k →
    differing 0 (xs ++ x ∷ back) (ys ++ y ∷ back) ≡ differing 0 xs ys ++ (if not (x == y) then k ∷ [] else [])
differing_at x y k xs ys back l e =
    let place : 0 + length xs ≡ k = omega arith in
    let rest : differing k (x ∷ back) (y ∷ back) ≡ (if not (x == y) then k ∷ [] else []) = ap (λ t. if not (x == y) then k ∷ t else t) (same_differs_nowhere back (k + 1)) in
    differing_joined xs ys (x ∷ back) (y ∷ back) 0 l ∙ ap (λ j. differing 0 xs ys ++ differing j (x ∷ back) (y ∷ back)) place ∙ ap (λ t. differing 0 xs ys ++ t) rest

range_by : (b : Bool) (ps : List ℕ) (k : ℕ) → extent (ps ++ (if not b then k ∷ [] else [])) ≡ (if b then extent ps else widened k (extent ps))
range_by true ps k = ap extent (append-nil ps)
range_by false ps k = extent_widened ps k

range_at : (x y k : ℕ) (xs ys back : List ℕ) → length ys ≡ length xs → length xs ≡ k →
    changed_range (xs ++ x ∷ back) (ys ++ y ∷ back) ≡ (if x == y then extent (differing 0 xs ys) else widened k (extent (differing 0 xs ys)))
range_at x y k xs ys back l e =
    ap extent (places (xs ++ x ∷ back) (ys ++ y ∷ back) (simp length-append (omega arith)) ∙ differing_at x y k xs ys back l e)
    ∙ range_by (x == y) (differing 0 xs ys) k

range_before : (x k : ℕ) (xs ys back : List ℕ) → length ys ≡ length xs → length xs ≡ k →
    changed_range (xs ++ x ∷ back) (ys ++ x ∷ back) ≡ extent (differing 0 xs ys)
range_before x k xs ys back l e = range_at x x k xs ys back l e ∙ ap (λ b. if b then extent (differing 0 xs ys) else widened k (extent (differing 0 xs ys))) (eq-eqb x x refl)

-- one more item written behind those that are written
pub range_more : (xs done : List ℕ) (start i a : ℕ) → length done ≡ i → start + i < length xs →
    changed_range xs (overwritten xs start (done ++ a ∷ []))
    ≡ (if slice_index (overwritten xs start done) (start + i) == a then changed_range xs (overwritten xs start done) else widened (start + i) (changed_range xs (overwritten xs start done)))
range_more xs done start i a h l =
    let k = start + i in
    let x = get_or xs k 0 in
    let back = drop (k + 1) xs in
    let front = take k xs in
    let written = take start xs ++ done in
    let front_length : length front ≡ k = length-take-le k xs (omega arith) in
    let written_length : length written ≡ length front = omega (arith, front_length, length-append (take start xs) done, length-take-le start xs (omega arith)) in
    let next : drop k xs ≡ x ∷ back = drop_more xs k 0 l in
    let before : xs ≡ front ++ x ∷ back = sym (take-append-drop k xs) ∙ ap (λ t. front ++ t) next in
    let now : overwritten xs start done ≡ written ++ x ∷ back =
    ap (λ j. take start xs ++ done ++ drop (start + j) xs) h ∙ ap (λ t. take start xs ++ done ++ t) next ∙ simp append_assoc in
    let end : start + length (done ++ a ∷ []) ≡ k + 1 = omega (arith, length-append done (a ∷ [])) in
    let then_ : overwritten xs start (done ++ a ∷ []) ≡ written ++ a ∷ back =
    ap (λ j. take start xs ++ (done ++ a ∷ []) ++ drop j xs) end ∙ simp append_assoc in
    let was : slice_index (overwritten xs start done) k ≡ x = ap (λ t. slice_index t k) now ∙ read_behind written x back k (written_length ∙ front_length) in
    let so_far : changed_range xs (overwritten xs start done) ≡ extent (differing 0 front written) =
    ap₂ changed_range before now ∙ range_before x k front written back written_length front_length in
    rw (was, so_far) (ap₂ changed_range before then_ ∙ range_at x a k front written back written_length front_length)

-- what stands behind both lists alike plays no part
pub range_in_front : (xs ys zs : List ℕ) → length ys ≡ length xs → changed_range (xs ++ zs) (ys ++ zs) ≡ changed_range xs ys
range_in_front xs ys zs l =
    ap extent (places (xs ++ zs) (ys ++ zs) (simp length-append (omega arith))
    ∙ differing_joined xs ys zs zs 0 l
    ∙ ap (λ t. differing 0 xs ys ++ t) (same_differs_nowhere zs (0 + length xs))
    ∙ append-nil (differing 0 xs ys)
    ∙ sym (places xs ys l))

-- the loop of `overwrite`: so many items are written, the range of those that changed is known, and nothing moved
pub record Written (start : ℕ) (done : List ℕ) (ends : ℕ × ℕ) (old now : Split ℕ) : Type 0 where
  pub items : now.items ≡ overwritten old.items start done
  pub changed : range_of ends ≡ changed_range old.items now.items
  pub rest : now ≡ record old { items = now.items }

pub written_none : (start : ℕ) (old : Split ℕ) → Written start [] (0, 0) old old
written_none start old = record { items = sym (overwritten_none old.items start); changed = sym (nothing_changed old.items); rest = refl }

-- one more item
pub written_more : (start i a : ℕ) (done more : List ℕ) (ends ends' : ℕ × ℕ) (old now next : Split ℕ) → Written start done ends old now → next ≡ record now { items = set now.items (start + i) a } →
    range_of ends' ≡ range_with now.items (start + i) a (range_of ends) → length done ≡ i → start + i < length old.items → more ≡ done ++ a ∷ [] → Written start more ends' old next
written_more start i a done more ends ends' old now next w e r h l m =
    let items : next.items ≡ overwritten old.items start (done ++ a ∷ []) = ap (λ s. s.items) e ∙ ap (λ xs. set xs (start + i) a) w.items ∙ overwritten_push old.items done start i a h l in
    record {
      items = items ∙ ap (λ t. overwritten old.items start t) (sym m);
      changed = r ∙ rw (w.items, w.changed, w.items, items) (sym (range_more old.items done start i a h l));
      rest = e ∙ ap (λ (s : Split ℕ). record s { items = set now.items (start + i) a }) w.rest ∙ ap (λ xs. record old { items = xs }) (sym (ap (λ s. s.items) e));
    }
