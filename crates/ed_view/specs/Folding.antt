-- What a change of a view requires: lines that exist, and room to fold.
use Rattle.std.specs.Prelude.{Bool, true, false, ℕ, ◌+◌, ◌<◌, ◌≤◌, if◌then◌else◌, List, length}
use Rattle.ed_model.specs.declared.plan.ViewChange.{ViewChange}
use Rattle.ed_model.specs.declared.plan.ViewChange.TheVariants.{Select, SetTarget, SetSearchFlags, SetMask, SetIndicator, SetIndicatorValue, SetPasteConversion, SetRecording, ShowLines, HideLines, SetExpanded, Contract, Expand, EnsureVisible}
use Rattle.ed_model.specs.Rows.{Flags}
use Rattle.ed_model.specs.Folding.{is_visible}
use Rattle.ed_model.specs.Requests.{Request, line_total}
use Rattle.ed_model.specs.PlansFit.{IsFitViewChange}
use Rattle.contraction.specs.ViewLines.{FoldCapacity, contracted_lines, FoldsFit}
use Rattle.ed_view.specs.declared.folding.FoldNeed.{FoldNeed}

-- whether it shows and hides no lines, and so requires nothing
abbrev pub is_setting : ViewChange → Bool
is_setting (Select anchor caret) = true
is_setting (SetTarget start past) = true
is_setting (SetSearchFlags flags) = true
is_setting (SetMask mask) = true
is_setting (SetIndicator indicator) = true
is_setting (SetIndicatorValue value) = true
is_setting (SetPasteConversion on) = true
is_setting (SetRecording on) = true
is_setting other = false

-- the lines that the change names exist, if there are so many
abbrev pub IsWithin : ℕ → ViewChange → Type 0
IsWithin lines (ShowLines first past) = past ≤ lines
IsWithin lines (HideLines first past) = past ≤ lines
IsWithin lines (SetExpanded line on) = line < lines
IsWithin lines (Contract line) = line < lines
IsWithin lines (Expand line) = line < lines
IsWithin lines (EnsureVisible line) = line < lines
IsWithin lines other = Unit {0}

-- how many lines in all may have to be hidden, and how many in all contracted, if lines have these flags: expanding hides
-- the children of contracted headers again, and a line that is visible stays as it is
abbrev pub fold_need : List Flags → ViewChange → FoldNeed
fold_need flags (HideLines first past) = record { hidden = length flags; contracted = 0 }
fold_need flags (SetExpanded line on) = record { hidden = 0; contracted = if on then 0 else contracted_lines flags + 1 }
fold_need flags (Contract line) = record { hidden = length flags; contracted = contracted_lines flags + 1 }
fold_need flags (Expand line) = record { hidden = length flags; contracted = 0 }
fold_need flags (EnsureVisible line) = record { hidden = if is_visible flags line then 0 else length flags; contracted = 0 }
fold_need flags other = record { hidden = 0; contracted = 0 }

-- the capacity is at least what is needed
abbrev pub HasFoldRoom : FoldCapacity → FoldNeed → Type 0
HasFoldRoom capacity need = FoldsFit need.hidden need.contracted capacity

-- the lines that a fit change names are lines of its document
abbrev pub FitChangesAreWithin : Type 0
FitChangesAreWithin = (r : Request) (change : ViewChange) → IsFitViewChange r change → IsWithin (line_total r) change
