-- A script that is performed one command at a time.
use Rattle.std.specs.Prelude.{◌≡◌, ℕ, ◌≤◌, ◌+◌, List, true, length, take, slice_get, Option, Some, None, IfSome}
use Rattle.ed_types.specs.declared.script.Command.{Command}
use Rattle.ed_types.specs.declared.script.Outcome.{Outcome}
use Rattle.ed_model.specs.Run.{Running, starting, outcomes, run_to}
use Rattle.ed_model.specs.Session.{Session, new_session, greatest_limits}
use Rattle.editor_session.specs.Commands.{takes_no_memory}

-- a script's commands, the files that it loads, and how many of the commands are done
pub record Stepping : Type 0 where
  pub commands : List Command
  pub files : List (List ℕ)
  pub state : ℕ

-- the run of the first `count` commands, from a new session
abbrev pub run_of_first : ℕ → List Command → List (List ℕ) → Running
run_of_first count commands files = run_to files (take count commands) (starting (new_session greatest_limits))

-- the session after the commands that are done
abbrev pub session_of : Stepping → Session
session_of s = (run_of_first s.state s.commands s.files).session

-- the outcome of the next command in the run of all of them; `None` after the last
abbrev pub next_outcome : Stepping → Option Outcome
next_outcome s = slice_get (outcomes s.files s.commands (starting (new_session greatest_limits))) s.state

-- one more command is done, if there was one
abbrev pub moved_on : Option Outcome → Stepping → Stepping
moved_on None s = s
moved_on (Some outcome) s = record s { state = s.state + 1 }

-- the next command, if there is one, needs no memory
abbrev pub IsNextFree : Stepping → Type 0
IsNextFree s = IfSome (slice_get s.commands s.state) (λ command. takes_no_memory (session_of s) command ≡ true)

-- The invariant of every stepper: its run is that of its first commands.
pub record StandsAt (state : ℕ) (commands : List Command) (files : List (List ℕ)) (run : Running) : Type 0 where
  pub within : state ≤ length commands
  pub stands : run ≡ run_of_first state commands files
