-- A view that fits its document still fits it after a step of the document.
use Rattle.ed_model.specs.Steps.{Step}
use Rattle.ed_model.specs.History.{History}
use Rattle.ed_model.specs.Session.{Document, View}
use Rattle.ed_model.specs.Performing.{document_after, moved_view}
use Rattle.ed_model.specs.SoundLaws.{StandsOn}

-- whatever the history is after the step
abbrev pub StepsKeepViewsStanding : Type 0
StepsKeepViewsStanding =
    (d : Document) (step : Step) (h : History) (v : View) → StandsOn d v → StandsOn (record (document_after step d) { history = h }) (moved_view step d v)
