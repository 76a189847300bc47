-- The sessions that runs reach.
use Rattle.std.specs.Prelude.{ℕ, List}
use Rattle.ed_types.specs.declared.limits.Limits.{Limits}
use Rattle.ed_types.specs.declared.script.Command.{Command}
use Rattle.ed_model.specs.Session.{Session, new_session}
use Rattle.ed_model.specs.Run.{run_to, starting}

-- the session after a run from a new session
abbrev pub reached : List (List ℕ) → List Command → Limits → Session
reached files commands limits = (run_to files commands (starting (new_session limits))).session

-- the property holds for every session that a run reaches
abbrev pub InEveryState : (Session → Type 0) → Type 0
InEveryState Holds =
    (files : List (List ℕ)) (commands : List Command) (limits : Limits) → Holds (reached files commands limits)
