-- What `ed_model` says in its own words: positions move as by its steps.
use Rattle.std.specs.Prelude.{ℕ, ◌≡◌}
use Rattle.ed_model.specs.Steps.{Step, moved_position}
use Rattle.selection.specs.Positions.{moved_by, movement_of}

abbrev pub MovementsAreThoseOfSteps : Type 0
MovementsAreThoseOfSteps = (step : Step) (q : ℕ) → moved_by (movement_of step) q ≡ moved_position step q
