-- The numbers of a mask, one after the other, and markers with them.
use Rattle.document.proofs.Names.{◌≡◌, ◌≢◌, ◌≤◌, ◌<◌, ℕ, zero, suc, ◌+◌, ◌-◌, ◌/◌, ◌%◌, ◌^◌, cond, List, [], ◌∷◌, ◌++◌, length, filter, refl, ap, sym, ◌∙◌, arith, append_assoc, length-append, length-set, marker_count, range_with_len, slice_set, eq-eqb, ne_eqb, set-get_or, get_or-set_same, append-nil, has_bit, numbers_in, Marker, Row, fresh_row, with_markers, new_markers, with_new_markers, KeptRows, row_at, numbers_of, with_more_markers, after_change, document_in, kept_in}
use Rattle.std.proofs.lemmas.List.Sums.{sum_by-set}
use Rattle.line_rows.specs.Kept.{HasRoomForMarkers}
use Rattle.ed_model.specs.declared.plan.DocumentChange.TheVariants.{AddMarkers}
use Rattle.document.specs.declared.kept.Document.TheInside.{Inside}

-- those from a number on
unfoldable pub numbers_from : ℕ → ℕ → List ℕ
numbers_from mask number = filter (has_bit mask) (range_with_len number (32 - number))

pub from_the_first : (mask : ℕ) → numbers_from mask 0 ≡ numbers_of mask
unfolding numbers_from numbers_of
from_the_first mask = refl

pub numbers_are : (mask : ℕ) → numbers_of mask ≡ numbers_in mask
unfolding numbers_of
numbers_are mask = refl

next_numbers : (mask number : ℕ) → number < 32 → numbers_from mask number ≡ cond (has_bit mask number) (number ∷ numbers_from mask (number + 1)) (numbers_from mask (number + 1))
unfolding numbers_from
next_numbers mask number below =
    let left : 32 - number ≡ suc (32 - (number + 1)) = omega arith in
    rw left refl

pub next_is_in : (mask number : ℕ) → number < 32 → (mask / 2 ^ number) % 2 ≡ 1 → numbers_from mask number ≡ number ∷ numbers_from mask (number + 1)
next_is_in mask number below e =
    next_numbers mask number below
    ∙ ap (λ b. cond b (number ∷ numbers_from mask (number + 1)) (numbers_from mask (number + 1))) (eq-eqb ((mask / 2 ^ number) % 2) 1 e)

pub next_is_out : (mask number : ℕ) → number < 32 → (mask / 2 ^ number) % 2 ≢ 1 → numbers_from mask number ≡ numbers_from mask (number + 1)
next_is_out mask number below e =
    next_numbers mask number below
    ∙ ap (λ b. cond b (number ∷ numbers_from mask (number + 1)) (numbers_from mask (number + 1))) (ne_eqb ((mask / 2 ^ number) % 2) 1 e)

pub none_from_the_end : (mask number : ℕ) → 32 ≤ number → numbers_from mask number ≡ []
unfolding numbers_from
none_from_the_end mask number past =
    let left : 32 - number ≡ 0 = omega arith in
    rw left refl

-- How many markers, lines and handles there are with them.

length_new : (handle : ℕ) (numbers : List ℕ) → length (new_markers handle numbers) ≡ length numbers
length_new handle [] = refl
length_new handle (n ∷ ns) = ap suc (length_new (handle + 1) ns)

count_more : (line : ℕ) (numbers : List ℕ) (k : KeptRows) → line < length k.rows → marker_count (with_more_markers line numbers k).rows ≡ marker_count k.rows + length numbers
count_more line numbers k within =
    let row : Row = row_at k.rows line in
    let more : List Marker = row.markers ++ new_markers k.next_handle numbers in
    omega (arith, sum_by-set (λ (r : Row). length r.markers) k.rows line (record row { markers = more }) fresh_row within, length-append row.markers (new_markers k.next_handle numbers), length_new k.next_handle numbers)

-- what is left of the markers fits where all of them did
pub still_fit :
    (line : ℕ) (left all : List ℕ) (now was : KeptRows) → with_more_markers line left now ≡ with_more_markers line all was → line < length was.rows → HasRoomForMarkers (length all) was → was.next_handle + length all < 2 ^ 32
    → (line < length now.rows) × HasRoomForMarkers (length left) now × (now.next_handle + length left < 2 ^ 32)
still_fit line left all now was is within room handles =
    let lines : length now.rows ≡ length was.rows = sym (length-set now.rows line _) ∙ ap (λ (k : KeptRows). length k.rows) is ∙ length-set was.rows line _ in
    let inside : line < length now.rows = omega arith in
    let markers = ap (λ (k : KeptRows). marker_count k.rows) is in
    let capacity = ap (λ (k : KeptRows). k.capacity.markers) is in
    let next = ap (λ (k : KeptRows). k.next_handle) is in
    (inside, omega (arith, markers, capacity, room, count_more line left now inside, count_more line all was within), omega (arith, next, handles))

set_twice : (rows : List Row) (line : ℕ) (a b : Row) → slice_set (slice_set rows line a) line b ≡ slice_set rows line b
set_twice [] line a b = refl
set_twice (row ∷ rows) zero a b = refl
set_twice (row ∷ rows) (suc line) a b = ap (λ rest. row ∷ rest) (set_twice rows line a b)

-- one marker and then others
pub one_more : (line number : ℕ) (numbers : List ℕ) (k : KeptRows) → line < length k.rows → with_more_markers line numbers (with_more_markers line (number ∷ []) k) ≡ with_more_markers line (number ∷ numbers) k
one_more line number numbers k within =
    let row : Row = row_at k.rows line in
    let marker : Marker = record { handle = k.next_handle; number = number } in
    let more : Row = record row { markers = row.markers ++ marker ∷ [] } in
    let rows : List Row = slice_set k.rows line more in
    let others : List Marker = new_markers (k.next_handle + 1) numbers in
    let there : row_at rows line ≡ more = get_or-set_same k.rows line more fresh_row within in
    let rows_are : with_markers line ((row_at rows line).markers ++ others) rows ≡ with_markers line (row.markers ++ marker ∷ others) k.rows =
    ap (λ (r : Row). slice_set rows line (record r { markers = r.markers ++ others })) there ∙ set_twice k.rows line more (record row { markers = (row.markers ++ marker ∷ []) ++ others })
    ∙ ap (λ (ms : List Marker). slice_set k.rows line (record row { markers = ms })) (append_assoc row.markers (marker ∷ []) others) in
    let handle : (k.next_handle + 1) + length numbers ≡ k.next_handle + suc (length numbers) = omega arith in
    ap (λ (rs : List Row). record k { rows = rs; next_handle = (k.next_handle + 1) + length numbers }) rows_are
    ∙ ap (λ n. record k { rows = with_markers line (row.markers ++ marker ∷ others) k.rows; next_handle = n }) handle

-- none
pub none_more : (line : ℕ) (k : KeptRows) → with_more_markers line [] k ≡ k
none_more line k =
    let row : Row = row_at k.rows line in
    let rows_are : with_markers line (row.markers ++ []) k.rows ≡ k.rows =
    ap (λ (ms : List Marker). slice_set k.rows line (record row { markers = ms })) (append-nil row.markers) ∙ set-get_or k.rows line fresh_row in
    let handle : k.next_handle + 0 ≡ k.next_handle = omega arith in
    ap (λ (rs : List Row). record k { rows = rs; next_handle = k.next_handle + 0 }) rows_are
    ∙ ap (λ n. record k { next_handle = n }) handle

-- the document with them
pub document_with_markers : (d : Inside) (line mask : ℕ) (rows : KeptRows) → rows ≡ with_more_markers line (numbers_of mask) d.parts.rows → kept_in (record d { parts = record d.parts { rows = rows } }) ≡ after_change [] (AddMarkers line mask) (kept_in d)
document_with_markers d line mask rows is =
    ap (λ (new : KeptRows). kept_in (record d { parts = record d.parts { rows = new } })) is
    ∙ ap (λ (ns : List ℕ). record (kept_in d) { document = with_new_markers line ns (document_in d) }) (numbers_are mask)
