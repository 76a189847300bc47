-- Laws of markers' handles: no step and no change of a document gives a handle that was given before.
use Rattle.std.specs.Prelude.{ℕ, ◌<◌, ◌≤◌, List}
use Rattle.ed_model.specs.declared.plan.LineEndTypes.{LineEndTypes}
use Rattle.ed_model.specs.declared.plan.DocumentChange.{DocumentChange}
use Rattle.ed_model.specs.Steps.{Step}
use Rattle.ed_model.specs.Carry.{carried_by}
use Rattle.ed_model.specs.Rows.{Row, rows_together}
use Rattle.ed_model.specs.Session.{Document}
use Rattle.ed_model.specs.Changes.{changed_document}
use Rattle.ed_model.specs.SoundLaws.{occurrences, handles_in}

-- after a step no handle is more often in the rows than before
abbrev pub StepsGiveNoHandle : Type 0
StepsGiveNoHandle =
    (types : LineEndTypes) (step : Step) (text : List ℕ) (rows : List Row) (handle : ℕ) →
    occurrences handle (handles_in (carried_by rows_together types step text rows)) ≤ occurrences handle (handles_in rows)

-- after a change of the document no handle below the next handle is more often in the rows than before
abbrev pub ChangesGiveNoOldHandle : Type 0
ChangesGiveNoOldHandle =
    (bytes : List ℕ) (change : DocumentChange) (d : Document) (handle : ℕ) → handle < d.next_handle →
    occurrences handle (handles_in (changed_document bytes change d).rows) ≤ occurrences handle (handles_in d.rows)

-- the next handle never decreases
abbrev pub NextHandlesNeverFall : Type 0
NextHandlesNeverFall = (bytes : List ℕ) (change : DocumentChange) (d : Document) → d.next_handle ≤ (changed_document bytes change d).next_handle
