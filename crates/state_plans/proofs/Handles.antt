-- The handle of a marker is below the next handle.
use Rattle.state_plans.proofs.Names.{◌≡◌, ℕ, zero, suc, Bool, true, false, cond, List, [], ◌∷◌, length, map, refl, arith, ℤ, pos, negsuc, ◌==◌, ◌||◌, None, find, filter, slice_index_or, range_with_len, list_any, within, Row, Marker, fresh_row, Request, line_total, row_at, has_handle, line_of_handle, IsSoundRequest, outside}
use Rattle.ed_model.specs.SoundLaws.{occurrences, handles_in}
use Rattle.ed_model.specs.proved.Requests.{request_document}
use Rattle.ed_model.specs.proved.Finding.{occurrences_append}

none_found : {X : Type 0} (test : X → Bool) (xs : List X) → ((x : X) → test x ≡ false) → find test xs ≡ None
none_found test [] fails = refl
none_found test (x ∷ xs) fails = rw (fails x) (none_found test xs fails)

negative : (n : ℕ) (markers : List Marker) → list_any (has_handle (negsuc n)) markers ≡ false
negative n [] = refl
negative n (m ∷ ms) = negative n ms

absent : (n : ℕ) (markers : List Marker) → occurrences n (map (λ (m : Marker). m.handle) markers) ≡ 0 → list_any (has_handle (pos n)) markers ≡ false
absent n [] e = refl
absent n (m ∷ ms) e = go (m.handle == n) (absent n ms) e
  where
    rest : List ℕ
    rest = filter (λ k. k == n) (map (λ (m : Marker). m.handle) ms)

    go : (b : Bool) → (length rest ≡ 0 → list_any (has_handle (pos n)) ms ≡ false) → length (cond b (m.handle ∷ rest) rest) ≡ 0 → (b || list_any (has_handle (pos n)) ms) ≡ false
    go true h e = absurd (omega (arith, e))
    go false h e = h e

absent_at : (n : ℕ) (rows : List Row) (line : ℕ) → occurrences n (handles_in rows) ≡ 0 → list_any (has_handle (pos n)) (slice_index_or rows line fresh_row).markers ≡ false
absent_at n [] line e = refl
absent_at n (row ∷ rows) zero e =
    let both = occurrences_append n (map (λ (m : Marker). m.handle) row.markers) (handles_in rows) in absent n row.markers (omega arith)
absent_at n (row ∷ rows) (suc line) e =
    let both = occurrences_append n (map (λ (m : Marker). m.handle) row.markers) (handles_in rows) in absent_at n rows line (omega arith)

absent_in : (r : Request) → IsSoundRequest r → (w : ℤ) → within 0 r.document.next_handle w ≡ None → (line : ℕ) → list_any (has_handle w) (row_at r line).markers ≡ false
absent_in r s (negsuc n) e line = negative n (row_at r line).markers
absent_in r s (pos n) e line =
    let far = outside r.document.next_handle n e in
    absent_at n r.document.rows line ((request_document r s).handles_below n (omega (arith, far)))

pub no_handle : (r : Request) → IsSoundRequest r → within 0 r.document.next_handle r.message.w ≡ None → line_of_handle r ≡ None
no_handle r s e = none_found (λ line. list_any (has_handle r.message.w) (row_at r line).markers) (range_with_len 0 (line_total r)) (absent_in r s r.message.w e)
