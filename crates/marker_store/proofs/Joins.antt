-- Lines that are joined, as their first one and the others.
use Rattle.marker_store.proofs.Names.{◌≡◌, ℕ, zero, suc, ◌+◌, ◌-◌, ◌<◌, ◌≤◌, List, [], ◌∷◌, ◌++◌, length, get_or, take, drop, sym, ap, ap₂, ◌∙◌, arith, append-nil, drop-drop, drop_more, take_more, flat_map, length-drop, sum_by-cons, sum_by-take-drop, Marker, marker_total, with_joined}
use Rattle.std.proofs.lemmas.Grind.{flat_map-append}
use Rattle.std.proofs.lemmas.List.Concat.{length-flat_map}

abbrev pub Lists : Type 0
Lists = List (List Marker)

abbrev flat : Lists → List Marker
flat lists = flat_map (λ (ms : List Marker). ms) lists

-- `c` lines from the line on are one
abbrev pub joined : (line c : ℕ) → Lists → Lists
joined line c rows = take line rows ++ (flat (take c (drop line rows)) ∷ drop c (drop line rows))

pub joined_are : (line count : ℕ) (rows : Lists) → with_joined line count rows ≡ joined line (count + 1) rows
joined_are line count rows =
    let wide : line + (count + 1) - line ≡ count + 1 = omega arith in
    ap₂ (λ (n : ℕ) (rest : Lists). take line rows ++ (flat (take n (drop line rows)) ∷ rest)) wide (sym (drop-drop (count + 1) line rows))

pub length-joined : (line c : ℕ) (rows : Lists) → line + c ≤ length rows → length (joined line c rows) + c ≡ length rows + 1
length-joined zero c rows h = omega (arith, length-drop c rows)
length-joined (suc line) c [] h = absurd (omega arith)
length-joined (suc line) c (r ∷ rows) h = omega (arith, length-joined line c rows (omega arith))

pub total_joined : (line c : ℕ) (rows : Lists) → line ≤ length rows → marker_total (joined line c rows) ≡ marker_total rows
total_joined zero c rows h =
    omega (arith, sum_by-cons length (flat (take c rows)) (drop c rows), length-flat_map (λ (ms : List Marker). ms) (take c rows), sum_by-take-drop length rows c)
total_joined (suc line) c [] h = absurd (omega arith)
total_joined (suc line) c (r ∷ rows) h = omega (arith, total_joined line c rows (omega arith), sum_by-cons length r (joined line c rows), sum_by-cons length r rows)

-- lines are joined one by one
pub joined_one : (line : ℕ) (rows : Lists) → line < length rows → joined line 1 rows ≡ rows
joined_one line [] h = absurd (omega arith)
joined_one zero (r ∷ rows) h = ap (λ l. l ∷ rows) (append-nil r)
joined_one (suc line) (r ∷ rows) h = ap (λ rs. r ∷ rs) (joined_one line rows (omega arith))

pub joined_next : (line c : ℕ) (rows : Lists) → line + c < length rows → joined line 2 (joined line c rows) ≡ joined line (c + 1) rows
joined_next zero c rows h =
    ap (λ rest. (flat (take c rows) ++ flat (take 1 rest)) ∷ drop 1 rest) (drop_more rows c [] (omega arith))
    ∙ ap (λ l. l ∷ drop (c + 1) rows) (sym (flat_map-append (λ (ms : List Marker). ms) (take c rows) (get_or rows c [] ∷ [])) ∙ ap flat (sym (take_more rows c [] (omega arith))))
joined_next (suc line) c [] h = absurd (omega arith)
joined_next (suc line) c (r ∷ rows) h = ap (λ rs. r ∷ rs) (joined_next line c rows (omega arith))
