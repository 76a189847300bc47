-- In a session without views, callers hold every document.
use Rattle.std.specs.Prelude.{◌≡◌, ◌<◌, []}
use Rattle.std.specs.List.{AllByRecursion}
use Rattle.ed_model.specs.Session.{Session, Document}
use Rattle.run_laws.specs.Reached.{InEveryState}

abbrev pub WithoutViewsAllAreHeld : Session → Type 0
WithoutViewsAllAreHeld s = s.views ≡ [] → AllByRecursion (λ (d : Document). 0 < d.held_by_callers) s.documents

abbrev pub DocumentsWithoutViewsAreHeld : Type 0
DocumentsWithoutViewsAreHeld = InEveryState WithoutViewsAllAreHeld
