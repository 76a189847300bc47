-- Carry: a row for each line.
use Rattle.ed_model.proofs.Names.{ℕ, ◌≡◌, List, [], ◌∷◌, length, refl, length-map-range_with_len, LineEndTypes, line_starts, line_count, Step, edited, moved_start, rows_on, carried, carried_unless_empty, carried_by, regrouped}

-- a carry leaves a row for each new line
pub length-carried : {R : Type 0} (together : List R → R) (moved : ℕ → ℕ) (old new : List ℕ) (rows : List R) → length (carried together moved old new rows) ≡ length new
length-carried together moved old new rows = length-map-range_with_len (λ line. together (rows_on moved old new rows line)) 0 (length new)

length-carried_unless_empty : {R : Type 0} (together : List R → R) (types : LineEndTypes) (step : Step) (text after : List ℕ) (rows : List R) → length (carried_unless_empty together types step text after rows) ≡ line_count types after
length-carried_unless_empty together types step text [] rows = refl
length-carried_unless_empty together types step text (b ∷ bs) rows = length-carried together (moved_start step) (line_starts types text) (line_starts types (b ∷ bs)) rows

-- a step leaves a row for each line of the new text, also if that is empty
pub length-carried_by : {R : Type 0} (together : List R → R) (types : LineEndTypes) (step : Step) (text : List ℕ) (rows : List R) → length (carried_by together types step text rows) ≡ line_count types (edited step text)
length-carried_by together types step text rows = length-carried_unless_empty together types step text (edited step text) rows

-- new line end types leave a row for each line
pub length-regrouped : {R : Type 0} (together : List R → R) (old new : LineEndTypes) (text : List ℕ) (rows : List R) → length (regrouped together old new text rows) ≡ line_count new text
length-regrouped together old new text rows = length-carried together (λ s. s) (line_starts old text) (line_starts new text) rows
