-- The effect of the edits that move old lines to a new one, on a list with an item for each line.
use Rattle.line_index.proofs.Names.{◌≡◌, ℕ, zero, suc, ◌+◌, ◌-◌, ◌<◌, ◌≤◌, List, [], ◌∷◌, ◌++◌, length, drop, replicate, refl, sym, ap, ◌∙◌, arith, append_assoc, length-append, ne_eqb, le-ltb, lt-ltb, take_at, drop_at, replicate_more, fold-append, JoinsRows, LineEdit, with_joined, after_edit, after_edits, joined, came, settled}

pub edits_in_turn : {R : Type 0} (t : List R → R) (first second : List LineEdit) (rows : List R) → after_edits t (first ++ second) rows ≡ after_edits t second (after_edits t first rows)
edits_in_turn t first second rows = fold-append (after_edit t) rows first second

pub with_joined_is : {R : Type 0} (t : List R → R) (done mid rest : List R) (line count : ℕ) → length done ≡ line → length mid ≡ count + 1 → with_joined t line count (done ++ (mid ++ rest)) ≡ done ++ (t mid ∷ rest)
with_joined_is t done mid rest line count d m =
    let n : line + (count + 1) - line ≡ count + 1 = omega arith in
    let size : length (done ++ mid) ≡ line + (count + 1) = omega (arith, length-append done mid) in
    let behind : drop (line + (count + 1)) (done ++ (mid ++ rest)) ≡ rest = rw (← (append_assoc done mid rest)) (drop_at (done ++ mid) rest (line + (count + 1)) size) in
    rw (behind, take_at done (mid ++ rest) line d, drop_at done (mid ++ rest) line d, n, take_at mid rest (count + 1) m) refl

pub joined_is : {R : Type 0} (t : List R → R) → JoinsRows t → (done : List R) (z : R) (zs rest : List R) (line : ℕ) → length done ≡ line → after_edits t (joined line (length zs)) (done ++ ((z ∷ zs) ++ rest)) ≡ done ++ (t (z ∷ zs) ∷ rest)
joined_is t j done z [] rest line d = ap (λ r. done ++ (r ∷ rest)) (sym (j.alone z))
joined_is t j done z (y ∷ ys) rest line d =
    rw (ne_eqb (length (y ∷ ys)) 0 (λ e. omega arith)) (with_joined_is t done (z ∷ y ∷ ys) rest line (length (y ∷ ys)) d (omega arith))

pub came_is : {R : Type 0} (t : List R → R) (done rest : List R) (line count : ℕ) → length done ≡ line → after_edits t (came line count) (done ++ rest) ≡ done ++ (replicate count (t []) ++ rest)
came_is t done rest line zero d = refl
came_is t done rest line (suc n) d = rw (ne_eqb (suc n) 0 (λ e. omega arith), take_at done rest line d, drop_at done rest line d) refl

-- a new line behind those that are done
pub settled_is : {R : Type 0} (t : List R → R) → JoinsRows t → (done zs rest : List R) (next line : ℕ) → length done ≡ next → next ≤ line → after_edits t (settled next line (length zs)) (done ++ (zs ++ rest)) ≡ done ++ ((replicate (line - next) (t []) ++ t zs ∷ []) ++ rest)
settled_is t j done [] rest next line d h =
    let more : line + 1 - next ≡ line - next + 1 = omega arith in
    rw (le-ltb line next h, replicate_more (line - next) (t []), more) (came_is t done rest next (line - next + 1) d)
settled_is {R} t j done (y ∷ ys) rest next line d h =
    let less : length (y ∷ ys) - 1 ≡ length ys = omega arith in
    let all : List R = done ++ ((y ∷ ys) ++ rest) in
    rw (le-ltb line next h, ne_eqb (length (y ∷ ys)) 0 (λ e. omega arith), less)
    (edits_in_turn t (joined next (length ys)) (came next (line - next)) all
    ∙ ap (after_edits t (came next (line - next))) (joined_is t j done y ys rest next d)
    ∙ came_is t done (t (y ∷ ys) ∷ rest) next (line - next) d
    ∙ ap (λ l. done ++ l) (sym (append_assoc (replicate (line - next) (t [])) (t (y ∷ ys) ∷ []) rest)))

-- a new line that is done already
pub joined_to_last : {R : Type 0} (t : List R → R) → JoinsRows t → (done : List R) (z : R) (zs rest : List R) (next line : ℕ) → length done ≡ line → line < next → after_edits t (settled next line (length zs)) (done ++ ((z ∷ zs) ++ rest)) ≡ done ++ (t (z ∷ zs) ∷ rest)
joined_to_last t j done z zs rest next line d h = rw (lt-ltb line next h) (joined_is t j done z zs rest line d)

-- no old line moves to a line that is done
pub none_joined : {R : Type 0} (t : List R → R) (rows : List R) (next line : ℕ) → line < next → after_edits t (settled next line 0) rows ≡ rows
none_joined t rows next line h = rw (lt-ltb line next h) refl
