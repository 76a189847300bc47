-- Fold parents and display lines, stated once more in the way a user expects them.
use Rattle.std.specs.Prelude.{◌≡◌, ℕ, ◌-◌, ◌<◌, true, false, List, length, Some, None}
use Rattle.ed_model.specs.Rows.{Flags}
use Rattle.ed_model.specs.Folding.{number_at, is_header, is_parent_of, fold_parent, fold_parents, parents_from, is_visible}
use Rattle.ed_model.specs.DisplayLines.{visible_before, display_line, line_shown}

-- the fold parents of a line are its fold parent, the fold parent of that one, and so on
abbrev pub FoldParentsAreAChain : Type 0
FoldParentsAreAChain = (levels : List ℕ) (line : ℕ) → fold_parents levels line ≡ parents_from levels (fold_parent levels line)

-- no line between the two is a header with a smaller number than the line
abbrev pub NoneBetween : List ℕ → ℕ → ℕ → Type 0
NoneBetween levels first line = (k : ℕ) → first < k → k < line → is_parent_of levels line k ≡ false

-- The fold parent is before the line, is a header with a smaller number, and no such header is between them.
pub record IsNearestHeader (levels : List ℕ) (line parent : ℕ) : Type 0 where
  pub before : parent < line
  pub header : is_header levels parent ≡ true
  pub smaller : number_at levels parent < number_at levels line
  pub nearest : NoneBetween levels parent line

abbrev pub FoldParentIsTheNearestHeader : Type 0
FoldParentIsTheNearestHeader =
    (levels : List ℕ) (line parent : ℕ) → fold_parent levels line ≡ Some parent → IsNearestHeader levels line parent

-- if a line has no fold parent, no header with a smaller number is before it
abbrev pub LinesWithoutParent : Type 0
LinesWithoutParent =
    (levels : List ℕ) (line : ℕ) → fold_parent levels line ≡ None → (k : ℕ) → k < line → is_parent_of levels line k ≡ false

-- the display line of a visible line is the number of visible lines before it
abbrev pub DisplayLinesCountVisibleLines : Type 0
DisplayLinesCountVisibleLines =
    (flags : List Flags) (line : ℕ) → line < length flags → is_visible flags line ≡ true → display_line flags line ≡ visible_before flags line

-- .. and that display line shows the line
abbrev pub VisibleLinesAreShown : Type 0
VisibleLinesAreShown =
    (flags : List Flags) (line : ℕ) → line < length flags → is_visible flags line ≡ true → line_shown flags (display_line flags line) ≡ line

-- a hidden line has the display line of the line before it, and so that of the last visible line before it
abbrev pub HiddenLinesHaveThatBefore : Type 0
HiddenLinesHaveThatBefore =
    (flags : List Flags) (line : ℕ) → 0 < line → line < length flags → is_visible flags line ≡ false
    → display_line flags line ≡ display_line flags (line - 1)
