-- Steps: single insertions and deletions, and how they move positions.
-- [Scintilla: text modification; a position at the place of an insertion: own]
use Rattle.std.specs.Prelude.{ℕ, ◌+◌, ◌-◌, nat_le, nat_lt, if◌then◌else◌, List, [], ◌∷◌, ◌++◌, length, take, drop, slice_range}
use Rattle.ed_model.specs.Text.{Cell, plain_cells}

-- A step inserts bytes at a place, or deletes bytes from a place on. It names the bytes, and there is at least one.
pub data Step : Type 0 where
  Insert : (place : ℕ) (bytes : List ℕ) → Step
  Delete : (place : ℕ) (bytes : List ℕ) → Step

abbrev pub place_of : Step → ℕ
place_of (Insert p bytes) = p
place_of (Delete p bytes) = p

abbrev pub step_bytes : Step → List ℕ
step_bytes (Insert p bytes) = bytes
step_bytes (Delete p bytes) = bytes

-- the bytes after the step
abbrev pub edited : Step → List ℕ → List ℕ
edited (Insert p bytes) text = take p text ++ bytes ++ drop p text
edited (Delete p bytes) text = take p text ++ drop (p + length bytes) text

-- the cells after the step: an inserted byte has style 0
abbrev pub edited_cells : Step → List Cell → List Cell
edited_cells (Insert p bytes) cells = take p cells ++ plain_cells bytes ++ drop p cells
edited_cells (Delete p bytes) cells = take p cells ++ drop (p + length bytes) cells

-- the step that undoes this one
abbrev pub inverse_of : Step → Step
inverse_of (Insert p bytes) = Delete p bytes
inverse_of (Delete p bytes) = Insert p bytes

-- the step that deletes these bytes from p on, and the step that inserts them at p; no step if there are no bytes
abbrev pub deletion : ℕ → List ℕ → List Step
deletion p [] = []
deletion p (b ∷ bs) = Delete p (b ∷ bs) ∷ []

abbrev pub insertion : ℕ → List ℕ → List Step
insertion p [] = []
insertion p (b ∷ bs) = Insert p (b ∷ bs) ∷ []

-- the steps that replace `count` bytes from `start` on: a deletion, then an insertion; an empty half is no step
abbrev pub replacement : ℕ → ℕ → List ℕ → List ℕ → List Step
replacement start count bytes text = deletion start (slice_range text start (start + count)) ++ insertion start bytes

-- a deletion of n bytes from p on moves a position inside its range to p, and a later position back by n
abbrev pub moved_back : ℕ → ℕ → ℕ → ℕ
moved_back p n q = if nat_lt q p then q else (if nat_lt q (p + n) then p else q - n)

-- a line start: an insertion at it moves it by the length of the inserted bytes
abbrev pub moved_start : Step → ℕ → ℕ
moved_start (Insert p bytes) q = if nat_lt q p then q else q + length bytes
moved_start (Delete p bytes) q = moved_back p (length bytes) q

-- any other position: an insertion at it leaves it there
abbrev pub moved_position : Step → ℕ → ℕ
moved_position (Insert p bytes) q = if nat_le q p then q else q + length bytes
moved_position (Delete p bytes) q = moved_back p (length bytes) q
