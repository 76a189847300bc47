-- The width of a document's places, and the texts on the way of steps.
use Rattle.std.specs.Prelude.{◌+◌, List, length}
use Rattle.ed_model.specs.Session.{Document}
use Rattle.ed_model.specs.Steps.{Step}
use Rattle.ed_model.specs.History.{Change}
use Rattle.document.specs.Kept.{FitsWidth}
use Rattle.scene.specs.Conversion.{room_of_steps}
use Rattle.scene.specs.Undoing.{room_of_changes}

-- no text on the way of these steps is too long for the document's places
abbrev pub StepsFitWidth : Document → List Step → Type 0
StepsFitWidth d steps = FitsWidth d (length d.cells + (room_of_steps d.line_end_types steps).text)

-- the same of the changes of undo or redo
abbrev pub ChangesFitWidth : Document → List Change → Type 0
ChangesFitWidth d changes = FitsWidth d (length d.cells + (room_of_changes d.line_end_types changes).text)
