-- Laws of carry, for a document's rows and a view's flags.
use Rattle.std.specs.Prelude.{ℕ, ◌≡◌, List, length}
use Rattle.ed_model.specs.declared.plan.LineEndTypes.{LineEndTypes}
use Rattle.ed_model.specs.Lines.{line_count}
use Rattle.ed_model.specs.Steps.{Step, edited}
use Rattle.ed_model.specs.Carry.{carried, carried_by, regrouped}

-- after a step, or after new line end types, there is a row for each line
abbrev pub CarriesToEachLine : Type 0 → Type 0
CarriesToEachLine R =
    (together : List R → R) (moved : ℕ → ℕ) (old new : List ℕ) (rows : List R) → length (carried together moved old new rows) ≡ length new

abbrev pub StepsLeaveARowForEachLine : Type 0 → Type 0
StepsLeaveARowForEachLine R =
    (together : List R → R) (types : LineEndTypes) (step : Step) (text : List ℕ) (rows : List R)
    → length (carried_by together types step text rows) ≡ line_count types (edited step text)

abbrev pub RegroupingLeavesARowForEachLine : Type 0 → Type 0
RegroupingLeavesARowForEachLine R =
    (together : List R → R) (old new : LineEndTypes) (text : List ℕ) (rows : List R)
    → length (regrouped together old new text rows) ≡ line_count new text
