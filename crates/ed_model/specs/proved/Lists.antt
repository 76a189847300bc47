-- Elements of lists: of two lists appended, of the front of a list, and of its rest.
use Rattle.std.proofs.Common.{ℕ, zero, suc, ◌≡◌, ◌+◌, ◌-◌, ◌<◌, ◌≤◌, min, List, [], ◌∷◌, ◌++◌, length, get_or, take, drop, remove, slice_get, slice_range, Some, refl, ap, sym, ◌∙◌, arith, add-one, zero-add, le_refl, append_assoc, length-append}
use Rattle.std.proofs.lemmas.List.{take_at, drop_at, length-take, length-take-le, length-drop, get_or-take, get_or-drop}
use Rattle.std.proofs.lemmas.List.Edits.{remove-append_right}

-- the elements of the first of two appended lists
pub slice_get_append_left : {X : Type 0} (xs ys : List X) (i : ℕ) → i < length xs → slice_get (xs ++ ys) i ≡ slice_get xs i
slice_get_append_left [] ys i h = absurd (omega arith)
slice_get_append_left (x ∷ xs) ys zero h = refl
slice_get_append_left (x ∷ xs) ys (suc i) h = slice_get_append_left xs ys i (omega arith)

-- the elements of the second of two appended lists
pub slice_get_append_right : {X : Type 0} (xs ys : List X) (i j : ℕ) → j ≡ length xs + i → slice_get (xs ++ ys) j ≡ slice_get ys i
slice_get_append_right [] ys i j e = rw (e, zero-add i)
slice_get_append_right (x ∷ xs) ys i zero e = absurd (omega arith)
slice_get_append_right (x ∷ xs) ys i (suc j) e = slice_get_append_right xs ys i j (omega arith)

-- the elements of the front of a list
pub slice_get_take : {X : Type 0} (n : ℕ) (xs : List X) (i : ℕ) → i < n → slice_get (take n xs) i ≡ slice_get xs i
slice_get_take zero xs i h = absurd (omega arith)
slice_get_take (suc n) [] i h = refl
slice_get_take (suc n) (x ∷ xs) zero h = refl
slice_get_take (suc n) (x ∷ xs) (suc i) h = slice_get_take n xs i (omega arith)

-- the elements of the rest of a list
pub slice_get_drop : {X : Type 0} (n : ℕ) (xs : List X) (i j : ℕ) → j ≡ n + i → slice_get (drop n xs) i ≡ slice_get xs j
slice_get_drop zero xs i j e = rw (e, zero-add i)
slice_get_drop (suc n) [] i j e = refl
slice_get_drop (suc n) (x ∷ xs) i zero e = absurd (omega arith)
slice_get_drop (suc n) (x ∷ xs) i (suc j) e = slice_get_drop n xs i j (omega arith)

-- an index into a range of a list, moved by the range's start, is an index into the list
pub within_part : (xs : List ℕ) (from to k : ℕ) → k < length (slice_range xs from to) → (k < to - from) × (from + k < length xs)
within_part xs from to k h =
    let size : length (slice_range xs from to) ≡ min (to - from) (length xs - from) = simp (length-take, length-drop) in
    (omega arith, omega arith)

-- .. and the range has there the element that the list has
pub read_part : (xs : List ℕ) (from to k : ℕ) → k < length (slice_range xs from to) → get_or (slice_range xs from to) k 0 ≡ get_or xs (from + k) 0
read_part xs from to k h = get_or-take (to - from) (drop from xs) k 0 (within_part xs from to k h).0 ∙ get_or-drop from xs k 0

-- elements inserted after a front are between the front and the rest
pub inserted_between : (p : ℕ) (front new rest : List ℕ) → length front ≡ p → take p (front ++ rest) ++ new ++ drop p (front ++ rest) ≡ front ++ (new ++ rest)
inserted_between p front new rest e =
    let a = take_at front rest p e in
    let b = drop_at front rest p e in
    rw (a, b) (append_assoc front new rest)

-- as many elements as the range is long, if it is in the list
pub length_slice : {X : Type 0} (xs : List X) (start count : ℕ) → start + count ≤ length xs → length (slice_range xs start (start + count)) ≡ count
length_slice xs start count h = simp (length-take, length-drop) (omega arith)

-- the front stays the front, whatever is behind it
pub front_kept : {X : Type 0} (n : ℕ) (xs ys : List X) → n ≤ length xs → take n (take n xs ++ ys) ≡ take n xs
front_kept n xs ys h = take_at (take n xs) ys n (length-take-le n xs h)

-- .. and that rest is behind it
pub behind_kept : {X : Type 0} (n : ℕ) (xs ys : List X) → n ≤ length xs → drop n (take n xs ++ ys) ≡ ys
behind_kept n xs ys h = drop_at (take n xs) ys n (length-take-le n xs h)

-- the element at index `i` is the first of those from `i` on
pub drop_at_index : {X : Type 0} (i : ℕ) (xs : List X) (x : X) → slice_get xs i ≡ Some x → drop i xs ≡ x ∷ drop (suc i) xs
drop_at_index i [] x e = absurd (cc)
drop_at_index zero (y ∷ ys) x e = let same : y ≡ x = cc in ap (λ z. z ∷ ys) same
drop_at_index (suc i) (y ∷ ys) x e = drop_at_index i ys x e

drop_suc : (n : ℕ) (xs : List ℕ) → drop 1 (drop n xs) ≡ drop (suc n) xs
drop_suc zero xs = refl
drop_suc (suc n) [] = refl
drop_suc (suc n) (x ∷ xs) = drop_suc n xs

-- one more element is removed behind a front
pub removed_next : (xs : List ℕ) (first n : ℕ) → first ≤ n → n < length xs → remove (take first xs ++ drop n xs) first ≡ take first xs ++ drop (n + 1) xs
removed_next xs first n h l =
    let size : length (take first xs) ≡ first = length-take-le first xs (omega arith) in
    let none : first - first ≡ 0 = omega arith in
    rw (remove-append_right (take first xs) (drop n xs) first first size (le_refl first), none, add-one) (ap (λ l. take first xs ++ l) (drop_suc n xs))

-- an element deleted behind a front
pub deleted_between : (p : ℕ) (front : List ℕ) (b : ℕ) (rest : List ℕ) → length front ≡ p → take p (front ++ b ∷ rest) ++ drop (p + 1) (front ++ b ∷ rest) ≡ front ++ rest
deleted_between p front b rest e =
    let before : take p (front ++ b ∷ rest) ≡ front = take_at front (b ∷ rest) p e in
    let behind : drop (p + 1) (front ++ b ∷ rest) ≡ rest =
    ap (drop (p + 1)) (sym (append_assoc front (b ∷ []) rest)) ∙ drop_at (front ++ b ∷ []) rest (p + 1) (simp length-append (omega arith)) in
    ap (λ l. l ++ drop (p + 1) (front ++ b ∷ rest)) before ∙ ap (λ l. front ++ l) behind
