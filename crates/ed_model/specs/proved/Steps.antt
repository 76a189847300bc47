-- The length of the text after a step; the bytes of edited cells; a change of styles changes no byte; steps fit in turn.
use Rattle.std.proofs.Common.{ℕ, ◌≡◌, ◌+◌, ◌-◌, ◌≤◌, min, List, [], ◌∷◌, ◌++◌, length, take, drop, slice_range, refl, sym, ap, ◌∙◌, arith}
use Rattle.std.proofs.lemmas.List.{length-append, length-map, length-take, length-drop, map-append, take-map, drop-map, take-append-drop}
use Rattle.ed_model.specs.Text.{Cell, bytes_of, plain_cells}
use Rattle.ed_model.specs.Changes.{restyled}
use Rattle.ed_model.specs.Steps.{Step, Insert, Delete, edited, edited_cells}
use Rattle.ed_model.specs.InverseLaws.{FitInTurn}
use Rattle.ed_model.specs.SoundLaws.{AreStepsOf}
use Rattle.ed_model.specs.proved.Lists.{length_slice}

-- an insertion lengthens the text by the inserted bytes
pub length-inserted : (p : ℕ) (bytes text : List ℕ) → length (edited (Insert p bytes) text) ≡ length text + length bytes
length-inserted p bytes text = simp (length-append, length-take, length-drop) (omega arith)

-- a deletion leaves the bytes before and after its range
pub length-deleted : (p : ℕ) (bytes text : List ℕ) → length (edited (Delete p bytes) text) ≡ min p (length text) + (length text - (p + length bytes))
length-deleted p bytes text = simp (length-append, length-take, length-drop)

-- a deletion of bytes that are there shortens the text by them
pub length-deleted_within : (p : ℕ) (bytes text : List ℕ) → p + length bytes ≤ length text → length (edited (Delete p bytes) text) ≡ length text - length bytes
length-deleted_within p bytes text h = omega (arith, length-deleted p bytes text)

-- the bytes of cells that have no style yet
pub bytes_of_plain : (bytes : List ℕ) → bytes_of (plain_cells bytes) ≡ bytes
bytes_of_plain [] = refl
bytes_of_plain (b ∷ bs) = ap (λ l. b ∷ l) (bytes_of_plain bs)

-- the bytes of the edited cells are the edited bytes
pub bytes_of_edited_cells : (step : Step) (cells : List Cell) → bytes_of (edited_cells step cells) ≡ edited step (bytes_of cells)
bytes_of_edited_cells (Insert p bytes) cells = simp (map-append, take-map, drop-map, bytes_of_plain)
bytes_of_edited_cells (Delete p bytes) cells = simp (map-append, take-map, drop-map)

-- cells that get new styles keep their bytes
pub bytes_of_restyled : (styles : List ℕ) (cells : List Cell) → bytes_of (restyled styles cells) ≡ bytes_of cells
bytes_of_restyled [] cells = refl
bytes_of_restyled (s ∷ ss) [] = refl
bytes_of_restyled (s ∷ ss) (c ∷ cells) = ap (λ rest. c.byte ∷ rest) (bytes_of_restyled ss cells)

-- .. also if only the cells from a place on get new styles
pub bytes_behind_restyled : (n : ℕ) (styles : List ℕ) (cells : List Cell) → bytes_of (take n cells ++ restyled styles (drop n cells)) ≡ bytes_of cells
bytes_behind_restyled n styles cells =
    map-append (λ (c : Cell). c.byte) (take n cells) (restyled styles (drop n cells))
    ∙ ap (λ rest. bytes_of (take n cells) ++ rest) (bytes_of_restyled styles (drop n cells))
    ∙ sym (map-append (λ (c : Cell). c.byte) (take n cells) (drop n cells))
    ∙ ap bytes_of (take-append-drop n cells)

-- each cell has one byte
pub length_of_bytes : (cells : List Cell) → length (bytes_of cells) ≡ length cells
length_of_bytes cells = length-map cells (λ (c : Cell). c.byte)

pub length_of_range : (cells : List Cell) (start count : ℕ) → start + count ≤ length cells → length (slice_range (bytes_of cells) start (start + count)) ≡ count
length_of_range cells start count h = length_slice (bytes_of cells) start count (omega (arith, length_of_bytes cells))

-- steps of a text fit it, each in its turn
pub fit_in_turn : (steps : List Step) (text : List ℕ) → AreStepsOf text steps → FitInTurn steps text
fit_in_turn [] text f = tt
fit_in_turn (x ∷ xs) text f = (f.0.0, fit_in_turn xs (edited x text) f.1)
