-- The bytes and the stored styles as cells: how both are read and changed.
use Rattle.cell_buffer.proofs.Names.{◌≡◌, ◌≤◌, ◌<◌, ◌+◌, ◌-◌, ℕ, List, [], ◌∷◌, ◌++◌, length, take, drop, replicate, get_or, ap, ap₂, sym, ◌∙◌, arith, Some, min, slice_get, slice_range, length-append, length-take, length-drop, length-map, length-replicate, take_all, drop_all, take-append-le, drop-append-le, bytes_of, styles_of, plain_cells, Insert, edited_cells, changed_range, inserted, deleted, paired, overwritten}
use Rattle.std.proofs.Common.{append-nil}
use Rattle.ed_model.specs.Text.{Cell}
use Rattle.std.proofs.Math.Seq.{take-append-add, drop-append-add}
use Rattle.cell_buffer.proofs.Pairs.{pairs_length, pairs_bytes, pairs_styles, plain_pairs, zeros_stored, read_item, deleted_pairs, deleted_all, overwritten_length}
use Rattle.cell_buffer.proofs.Changed.{range_in_front}

-- Reads.

pub cells_byte : (bs ss : List ℕ) (i x : ℕ) → i < length bs → x ≡ get_or bs i x → slice_get (bytes_of (paired bs ss)) i ≡ Some x
cells_byte bs ss i x l e = ap (λ t. slice_get t i) (pairs_bytes bs ss) ∙ read_item bs i x l e

pub plain_where_none_stored : (bs ss : List ℕ) → length ss ≡ 0 → paired bs ss ≡ plain_cells (bytes_of (paired bs ss))
plain_where_none_stored bs [] e = plain_pairs bs ∙ ap plain_cells (sym (pairs_bytes bs []))
plain_where_none_stored bs (s ∷ ss) e = absurd (omega arith)

-- zeros are stored behind the stored styles
pub stored_further : (bs ss : List ℕ) (k n : ℕ) → k ≡ length ss → paired bs (inserted ss k (replicate n 0)) ≡ paired bs ss
stored_further bs ss k n e =
    let front : take k ss ≡ ss = take_all k ss (omega arith) in
    let back : drop k ss ≡ [] = drop_all k ss (omega arith) in
    ap₂ (λ xs ys. paired bs (xs ++ replicate n 0 ++ ys)) front back
    ∙ ap (paired bs) (append-nil (ss ++ replicate n 0))
    ∙ zeros_stored bs ss n

pub stored_length : (ss : List ℕ) (k n : ℕ) → k ≤ length ss → length (inserted ss k (replicate n 0)) ≡ length ss + n
stored_length ss k n e = simp (length-append, length-take, length-drop, length-replicate) (omega arith)

-- Insertions.

pub inserted_length : (bs new : List ℕ) (p : ℕ) → p ≤ length bs → length (inserted bs p new) ≡ length bs + length new
inserted_length bs new p l = simp (length-append, length-take, length-drop) (omega arith)

pub inserted_cells_length : (bs ss new : List ℕ) (p : ℕ) → p ≤ length bs →
    length (edited_cells (Insert p new) (paired bs ss)) ≡ length (paired bs ss) + length new
inserted_cells_length bs ss new p l = simp (length-append, length-take, length-drop, length-map) (omega (arith, pairs_length bs ss))

-- Deletions.

pub shrunk : (bs : List ℕ) (p n : ℕ) → p + n ≤ length bs → length (deleted bs p n) + n ≡ length bs
shrunk bs p n l = simp (length-append, length-take, length-drop) (omega arith)

pub deleted_among : (bs ss : List ℕ) (p n m : ℕ) → length ss ≤ length bs → p ≤ length ss → m ≡ min n (length ss - p) →
    paired (deleted bs p n) (deleted ss p m) ≡ take p (paired bs ss) ++ drop (p + n) (paired bs ss)
deleted_among bs ss p n m h l e = ap (paired (deleted bs p n)) (deleted_all ss p n m e l) ∙ deleted_pairs bs ss p n h l

pub deleted_cells_length : (bs ss : List ℕ) (p n : ℕ) → p + n ≤ length bs →
    length (take p (paired bs ss) ++ drop (p + n) (paired bs ss)) + n ≡ length (paired bs ss)
deleted_cells_length bs ss p n l = simp (length-append, length-take, length-drop) (omega (arith, pairs_length bs ss))

-- Styles.

pub changed_of_stored : (bs ss new : List ℕ) (start : ℕ) → length ss ≤ length bs → start + length new ≤ length ss →
    changed_range ss (overwritten ss start new) ≡ changed_range (styles_of (paired bs ss)) (styles_of (paired bs (overwritten ss start new)))
changed_of_stored bs ss new start h l =
    let same : length (overwritten ss start new) ≡ length ss = overwritten_length ss new start l in
    let zeros : List ℕ = replicate (length bs - length ss) 0 in
    let count : length bs - length (overwritten ss start new) ≡ length bs - length ss = ap (λ k. length bs - k) same in
    let now : styles_of (paired bs (overwritten ss start new)) ≡ overwritten ss start new ++ zeros =
    pairs_styles bs (overwritten ss start new) (omega (arith, same)) ∙ ap (λ k. overwritten ss start new ++ replicate k 0) count in
    sym (ap₂ changed_range (pairs_styles bs ss h) now ∙ range_in_front ss (overwritten ss start new) zeros same)

-- A range of two lists that stand one behind the other.

pub text_seen : (bs ss : List ℕ) (cells : List Cell) → paired bs ss ≡ cells → bs ≡ bytes_of cells
text_seen bs ss cells e = sym (pairs_bytes bs ss) ∙ ap bytes_of e

pub range_before : (xs ys : List ℕ) (start past : ℕ) → start ≤ past → past ≤ length xs → slice_range xs start past ≡ slice_range (xs ++ ys) start past
range_before xs ys start past l h =
    let inside : start ≤ length xs = omega arith in
    let fits : past - start ≤ length (drop start xs) = omega (arith, length-drop start xs) in
    rw (drop-append-le start xs ys inside, take-append-le (past - start) (drop start xs) ys fits)

pub range_behind : (xs ys : List ℕ) (start past : ℕ) → length xs ≤ start → start ≤ past →
    slice_range ys (start - length xs) (past - length xs) ≡ slice_range (xs ++ ys) start past
range_behind xs ys start past l h =
    let place : start ≡ length xs + (start - length xs) = omega arith in
    let count : past - length xs - (start - length xs) ≡ past - start = omega arith in
    let back : drop start (xs ++ ys) ≡ drop (start - length xs) ys = ap (λ j. drop j (xs ++ ys)) place ∙ drop-append-add xs ys (start - length xs) in
    rw (back, count)

pub range_across : (xs ys : List ℕ) (start past : ℕ) → start ≤ length xs → length xs ≤ past →
    slice_range xs start (length xs) ++ take (past - length xs) ys ≡ slice_range (xs ++ ys) start past
range_across xs ys start past l h =
    let all : take (length xs - start) (drop start xs) ≡ drop start xs = take_all (length xs - start) (drop start xs) (omega (arith, length-drop start xs)) in
    let count : past - start ≡ length (drop start xs) + (past - length xs) = omega (arith, length-drop start xs) in
    rw (all, drop-append-le start xs ys l, count, take-append-add (drop start xs) ys (past - length xs))
