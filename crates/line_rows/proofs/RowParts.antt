-- Rows of lines, and the lists of their parts.
use Rattle.line_rows.proofs.Names.{◌≡◌, ◌+◌, ◌-◌, ℕ, zero, suc, ℤ, pos, List, [], ◌∷◌, ◌++◌, length, take, drop, replicate, flat_map, refl, sym, ap, ◌∙◌, arith, slice_range, length-append, length-take, length-drop, length-replicate, Marker, Row, base_level, fresh_row, rows_together, LineEdit, Come, Join, Restart, after_edit, after_edits, first_or, rows_of, markers_together}

rows-take : (n : ℕ) (ms : List (List Marker)) (ls : List ℕ) (ss : List ℤ) → take n (rows_of ms ls ss) ≡ rows_of (take n ms) (take n ls) (take n ss)
rows-take zero ms ls ss = refl
rows-take (suc n) [] ls ss = refl
rows-take (suc n) (m ∷ ms) [] ss = refl
rows-take (suc n) (m ∷ ms) (l ∷ ls) [] = refl
rows-take (suc n) (m ∷ ms) (l ∷ ls) (s ∷ ss) = let row : Row = record { markers = m; level = l; state = s } in ap (λ rows. row ∷ rows) (rows-take n ms ls ss)

rows-drop : (n : ℕ) (ms : List (List Marker)) (ls : List ℕ) (ss : List ℤ) → length ms ≡ length ls → length ms ≡ length ss → drop n (rows_of ms ls ss) ≡ rows_of (drop n ms) (drop n ls) (drop n ss)
rows-drop zero ms ls ss e f = refl
rows-drop (suc n) [] ls ss e f = refl
rows-drop (suc n) (m ∷ ms) [] ss e f = absurd (omega arith)
rows-drop (suc n) (m ∷ ms) (l ∷ ls) [] e f = absurd (omega arith)
rows-drop (suc n) (m ∷ ms) (l ∷ ls) (s ∷ ss) e f = rows-drop n ms ls ss (omega arith) (omega arith)

rows-append : (ms ms' : List (List Marker)) (ls ls' : List ℕ) (ss ss' : List ℤ) → length ms ≡ length ls → length ms ≡ length ss → rows_of (ms ++ ms') (ls ++ ls') (ss ++ ss') ≡ rows_of ms ls ss ++ rows_of ms' ls' ss'
rows-append [] ms' [] ls' [] ss' e f = refl
rows-append [] ms' [] ls' (s ∷ ss) ss' e f = absurd (omega arith)
rows-append [] ms' (l ∷ ls) ls' ss ss' e f = absurd (omega arith)
rows-append (m ∷ ms) ms' [] ls' ss ss' e f = absurd (omega arith)
rows-append (m ∷ ms) ms' (l ∷ ls) ls' [] ss' e f = absurd (omega arith)
rows-append (m ∷ ms) ms' (l ∷ ls) ls' (s ∷ ss) ss' e f = let row : Row = record { markers = m; level = l; state = s } in ap (λ rows. row ∷ rows) (rows-append ms ms' ls ls' ss ss' (omega arith) (omega arith))

rows-replicate : (n : ℕ) → rows_of (replicate n []) (replicate n base_level) (replicate n (pos 0)) ≡ replicate n fresh_row
rows-replicate zero = refl
rows-replicate (suc n) = ap (λ rows. fresh_row ∷ rows) (rows-replicate n)

rows_markers : (ms : List (List Marker)) (ls : List ℕ) (ss : List ℤ) → length ms ≡ length ls → length ms ≡ length ss → flat_map (λ (r : Row). r.markers) (rows_of ms ls ss) ≡ markers_together ms
rows_markers [] ls ss e f = refl
rows_markers (m ∷ ms) [] ss e f = absurd (omega arith)
rows_markers (m ∷ ms) (l ∷ ls) [] e f = absurd (omega arith)
rows_markers (m ∷ ms) (l ∷ ls) (s ∷ ss) e f = ap (λ rest. m ++ rest) (rows_markers ms ls ss (omega arith) (omega arith))

rows_meet : (ms : List (List Marker)) (ls : List ℕ) (ss : List ℤ) → length ms ≡ length ls → length ms ≡ length ss →
    rows_together (rows_of ms ls ss) ∷ [] ≡ rows_of (markers_together ms ∷ []) (first_or base_level ls ∷ []) (first_or (pos 0) ss ∷ [])
rows_meet [] [] [] e f = refl
rows_meet [] [] (s ∷ ss) e f = absurd (omega arith)
rows_meet [] (l ∷ ls) ss e f = absurd (omega arith)
rows_meet (m ∷ ms) [] ss e f = absurd (omega arith)
rows_meet (m ∷ ms) (l ∷ ls) [] e f = absurd (omega arith)
rows_meet (m ∷ ms) (l ∷ ls) (s ∷ ss) e f =
    ap (λ all. let row : Row = record { markers = all; level = l; state = s } in row ∷ []) (ap (λ rest. m ++ rest) (rows_markers ms ls ss (omega arith) (omega arith)))

same_take : {A B : Type 0} (n : ℕ) (xs : List A) (ys : List B) → length xs ≡ length ys → length (take n xs) ≡ length (take n ys)
same_take n xs ys e = length-take n xs ∙ ap (λ m. Prim.Native.Nat.min n m) e ∙ sym (length-take n ys)

same_drop : {A B : Type 0} (n : ℕ) (xs : List A) (ys : List B) → length xs ≡ length ys → length (drop n xs) ≡ length (drop n ys)
same_drop n xs ys e = length-drop n xs ∙ ap (λ m. m - n) e ∙ sym (length-drop n ys)

same_edit : {A B : Type 0} (t : List A → A) (u : List B → B) (edit : LineEdit) (xs : List A) (ys : List B) → length xs ≡ length ys → length (after_edit t xs edit) ≡ length (after_edit u ys edit)
same_edit t u (Come line count) xs ys e = simp (length-append, length-take, length-drop, length-replicate) (omega arith)
same_edit t u (Join line count) xs ys e = simp (length-append, length-take, length-drop) (omega arith)
same_edit t u Restart xs ys e = refl

rows_edited : (edit : LineEdit) (ms : List (List Marker)) (ls : List ℕ) (ss : List ℤ) → length ms ≡ length ls → length ms ≡ length ss →
    after_edit rows_together (rows_of ms ls ss) edit ≡ rows_of (after_edit markers_together ms edit) (after_edit (first_or base_level) ls edit) (after_edit (first_or (pos 0)) ss edit)
rows_edited (Come line count) ms ls ss e f =
    let none : List Marker = [] in
    let same : length (replicate count none) ≡ length (replicate count base_level) = length-replicate count none ∙ sym (length-replicate count base_level) in
    let same' : length (replicate count none) ≡ length (replicate count (pos 0)) = length-replicate count none ∙ sym (length-replicate count (pos 0)) in
    sym (rows-append (take line ms) (replicate count [] ++ drop line ms) (take line ls) (replicate count base_level ++ drop line ls) (take line ss) (replicate count (pos 0) ++ drop line ss) (same_take line ms ls e) (same_take line ms ss f)
    ∙ ap (λ rest. rows_of (take line ms) (take line ls) (take line ss) ++ rest)
    (rows-append (replicate count []) (drop line ms) (replicate count base_level) (drop line ls) (replicate count (pos 0)) (drop line ss) same same'
    ∙ ap (λ fresh. fresh ++ rows_of (drop line ms) (drop line ls) (drop line ss)) (rows-replicate count)
    ∙ ap (λ rest. replicate count fresh_row ++ rest) (sym (rows-drop line ms ls ss e f)))
    ∙ ap (λ front. front ++ (replicate count fresh_row ++ drop line (rows_of ms ls ss))) (sym (rows-take line ms ls ss)))
rows_edited (Join line count) ms ls ss e f =
    let end = line + (count + 1) in
    let few = end - line in
    let ms' = drop line ms in
    let ls' = drop line ls in
    let ss' = drop line ss in
    let e' : length ms' ≡ length ls' = same_drop line ms ls e in
    let f' : length ms' ≡ length ss' = same_drop line ms ss f in
    let meet : rows_together (slice_range (rows_of ms ls ss) line end) ∷ [] ≡ rows_of (markers_together (take few ms') ∷ []) (first_or base_level (take few ls') ∷ []) (first_or (pos 0) (take few ss') ∷ []) =
    ap (λ rows. rows_together (take few rows) ∷ []) (rows-drop line ms ls ss e f) ∙ ap (λ rows. rows_together rows ∷ []) (rows-take few ms' ls' ss')
    ∙ rows_meet (take few ms') (take few ls') (take few ss') (same_take few ms' ls' e') (same_take few ms' ss' f') in
    sym (rows-append (take line ms) (markers_together (take few ms') ∷ drop end ms) (take line ls) (first_or base_level (take few ls') ∷ drop end ls) (take line ss) (first_or (pos 0) (take few ss') ∷ drop end ss) (same_take line ms ls e) (same_take line ms ss f)
    ∙ ap (λ rest. rows_of (take line ms) (take line ls) (take line ss) ++ rest)
    (ap (λ head. head ++ rows_of (drop end ms) (drop end ls) (drop end ss)) (sym meet)
    ∙ ap (λ rest. rows_together (slice_range (rows_of ms ls ss) line end) ∷ rest) (sym (rows-drop end ms ls ss e f)))
    ∙ ap (λ front. front ++ (rows_together (slice_range (rows_of ms ls ss) line end) ∷ drop end (rows_of ms ls ss))) (sym (rows-take line ms ls ss)))
rows_edited Restart ms ls ss e f = refl

-- rows are carried as their markers, levels and states are, each by itself
pub rows_carried :
    (edits : List LineEdit) (ms : List (List Marker)) (ls : List ℕ) (ss : List ℤ) → length ms ≡ length ls → length ms ≡ length ss
    → after_edits rows_together edits (rows_of ms ls ss) ≡ rows_of (after_edits markers_together edits ms) (after_edits (first_or base_level) edits ls) (after_edits (first_or (pos 0)) edits ss)
rows_carried [] ms ls ss e f = refl
rows_carried (edit ∷ edits) ms ls ss e f =
    ap (after_edits rows_together edits) (rows_edited edit ms ls ss e f)
    ∙ rows_carried edits (after_edit markers_together ms edit) (after_edit (first_or base_level) ls edit) (after_edit (first_or (pos 0)) ss edit)
    (same_edit markers_together (first_or base_level) edit ms ls e) (same_edit markers_together (first_or (pos 0)) edit ms ss f)

pub same_edits : {A B : Type 0} (t : List A → A) (u : List B → B) (edits : List LineEdit) (xs : List A) (ys : List B) → length xs ≡ length ys → length (after_edits t edits xs) ≡ length (after_edits u edits ys)
same_edits t u [] xs ys e = e
same_edits t u (edit ∷ edits) xs ys e = same_edits t u edits (after_edit t xs edit) (after_edit u ys edit) (same_edit t u edit xs ys e)
