-- Worked examples of single definitions: rows and indicators after steps, display lines, folding, and steps that join.
use Rattle.std.specs.Prelude.{◌≡◌, ℕ, pos, List, [], ◌∷◌, map, length, replicate, ◌++◌, fold, true, false, codes, Bool, Some, None}
use Rattle.ed_model.specs.declared.plan.LineEndTypes.TheVariants.{Default}
use Rattle.ed_model.specs.Steps.{Step, Insert, Delete}
use Rattle.ed_model.specs.declared.plan.LineEnd.TheVariants.{CrLf, Cr, Lf}
use Rattle.ed_model.specs.LineEnds.{conversion_steps, after_steps}
use Rattle.ed_model.specs.Carry.{carried_by}
use Rattle.ed_model.specs.Rows.{Row, Marker, Flags, rows_together, base_level}
use Rattle.ed_model.specs.Indicators.{indicator_after, inserted_value}
use Rattle.ed_model.specs.DisplayLines.{display_line, line_shown}
use Rattle.ed_model.specs.Folding.{last_child, fold_parent}
use Rattle.ed_model.specs.History.{History, Transaction, TextStep, fresh_history, appended}

-- a row with one marker
abbrev pub row_with : ℕ → Row
row_with number = record { markers = record { handle = number; number = number } ∷ []; level = base_level; state = pos 0 }

-- The text is `x`, CRLF, `a`; line 0 has a marker 1, line 1 a marker 2. The numbers of each line's markers after a step.
abbrev pub markers_after : Step → List (List ℕ)
markers_after step =
    map (λ (row : Row). map (λ (m : Marker). m.number) row.markers)
    (carried_by rows_together Default step (0x78 ∷ 0x0D ∷ 0x0A ∷ 0x61 ∷ []) (row_with 1 ∷ row_with 2 ∷ []))

pub record MarkersUnderSteps : Type 0 where
  pub crlf_split : markers_after (Insert 2 (codes "z")) ≡ (1 ∷ []) ∷ [] ∷ (2 ∷ []) ∷ []
  pub lines_joined : markers_after (Delete 1 (0x0D ∷ 0x0A ∷ [])) ≡ (1 ∷ 2 ∷ []) ∷ []
  pub crlf_cut : markers_after (Delete 2 (0x0A ∷ [])) ≡ (1 ∷ []) ∷ (2 ∷ []) ∷ []
  pub line_put_before : markers_after (Insert 0 (codes "y\n")) ≡ [] ∷ (1 ∷ []) ∷ (2 ∷ []) ∷ []
  pub no_text_left : markers_after (Delete 0 (0x78 ∷ 0x0D ∷ 0x0A ∷ 0x61 ∷ [])) ≡ [] ∷ []

-- Four bytes, of which the second and the third have the value 1.
pub record IndicatorUnderSteps : Type 0 where
  pub inserted : map (inserted_value (0 ∷ 1 ∷ 1 ∷ 0 ∷ [])) (0 ∷ 1 ∷ 2 ∷ 3 ∷ 4 ∷ []) ≡ 0 ∷ 0 ∷ 1 ∷ 0 ∷ 0 ∷ []
  pub grown : indicator_after (Insert 2 (codes "xy")) (0 ∷ 1 ∷ 1 ∷ 0 ∷ []) ≡ 0 ∷ 1 ∷ 1 ∷ 1 ∷ 1 ∷ 0 ∷ []
  pub shrunk : indicator_after (Delete 1 (codes "x")) (0 ∷ 1 ∷ 1 ∷ 0 ∷ []) ≡ 0 ∷ 1 ∷ 0 ∷ []

-- the flags of an expanded line that is visible or not
abbrev pub shown : Bool → Flags
shown visible = record { visible = visible; expanded = true }

abbrev pub third_line_hidden : List Flags
third_line_hidden = map shown (true ∷ true ∷ false ∷ true ∷ [])

pub record DisplayLinesAroundAHiddenLine : Type 0 where
  pub display_lines : map (display_line third_line_hidden) (0 ∷ 1 ∷ 2 ∷ 3 ∷ []) ≡ 0 ∷ 1 ∷ 1 ∷ 2 ∷ []
  pub lines_shown : map (line_shown third_line_hidden) (0 ∷ 1 ∷ 2 ∷ 3 ∷ []) ≡ 0 ∷ 1 ∷ 3 ∷ 4 ∷ []

-- a header, inside it another header, inside that a line, and one more line inside the first header
abbrev pub nested_levels : List ℕ
nested_levels = 9216 ∷ 9217 ∷ 1026 ∷ 1025 ∷ []

pub record FoldsOfNestedLevels : Type 0 where
  pub last_children : map (last_child nested_levels) (0 ∷ 1 ∷ 2 ∷ 3 ∷ []) ≡ 3 ∷ 2 ∷ 2 ∷ 3 ∷ []
  pub parents : map (fold_parent nested_levels) (0 ∷ 1 ∷ 2 ∷ 3 ∷ []) ≡ None ∷ Some 0 ∷ Some 1 ∷ Some 0 ∷ []

-- the number of changes in each transaction, the latest first, after these steps, each the step of a message of its own
abbrev pub transactions_of : List Step → List ℕ
transactions_of steps =
    map (λ (t : Transaction). length t.changes)
    (fold (λ (h : History) step. appended false (TextStep step) h) fresh_history steps).past

pub record StepsThatJoin : Type 0 where
  pub deletions : transactions_of (Delete 5 (codes "x") ∷ Delete 5 (codes "x") ∷ Delete 4 (codes "x") ∷ Delete 4 (codes "x") ∷ Delete 1 (codes "xyz") ∷ []) ≡ 1 ∷ 4 ∷ []
  pub typing : transactions_of (Insert 0 (codes "a") ∷ Insert 1 (codes "bc") ∷ Insert 3 (codes "d") ∷ Insert 3 (codes "e") ∷ []) ≡ 1 ∷ 3 ∷ []
  pub not_both : transactions_of (Insert 0 (codes "a") ∷ Delete 0 (codes "a") ∷ Insert 0 (codes "b") ∷ []) ≡ 1 ∷ 1 ∷ 1 ∷ []

-- three lines, each of 80 times `a` and this line end
abbrev pub long_lines : List ℕ → List ℕ
long_lines end = let line = replicate 80 0x61 ++ end in line ++ line ++ line

pub record LineEndsOfLongLines : Type 0 where
  pub made_crlf : conversion_steps CrLf (long_lines (0x0A ∷ [])) ≡ Insert 80 (0x0D ∷ []) ∷ Insert 162 (0x0D ∷ []) ∷ Insert 244 (0x0D ∷ []) ∷ []
  pub made_lf : conversion_steps Lf (long_lines (0x0D ∷ 0x0A ∷ [])) ≡ Delete 80 (0x0D ∷ []) ∷ Delete 161 (0x0D ∷ []) ∷ Delete 242 (0x0D ∷ []) ∷ []
  pub made_cr : conversion_steps Cr (long_lines (0x0D ∷ 0x0A ∷ [])) ≡ Delete 81 (0x0A ∷ []) ∷ Delete 162 (0x0A ∷ []) ∷ Delete 243 (0x0A ∷ []) ∷ []
  pub text : after_steps (conversion_steps Lf (long_lines (0x0D ∷ []))) (long_lines (0x0D ∷ [])) ≡ long_lines (0x0A ∷ [])
