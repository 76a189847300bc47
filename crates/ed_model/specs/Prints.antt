-- What a script prints: it is read, run from a new session with the greatest limits, and its outcomes are printed.
use Rattle.std.specs.Prelude.{◌≡◌, ℕ, List, [], ◌∷◌, ◌++◌, flat_map, Result, Ok, Err}
use Rattle.ed_types.specs.declared.script.Command.{Command}
use Rattle.ed_types.specs.declared.script.ScriptFault.{ScriptFault}
use Rattle.ed_model.specs.Session.{new_session, greatest_limits}
use Rattle.ed_model.specs.Run.{outcomes, starting}
use Rattle.ed_model.specs.Reading.{reading}
use Rattle.ed_model.specs.Printed.{printed}

-- a text of lines, each ended by an LF
abbrev pub joined_lines : List (List ℕ) → List ℕ
joined_lines texts = flat_map (λ (text : List ℕ). text ++ 10 ∷ []) texts

abbrev pub printed_script : List (List ℕ) → Result (List Command) ScriptFault → List ℕ
printed_script files (Ok commands) = printed (outcomes files commands (starting (new_session greatest_limits)))
printed_script files (Err fault) = []

-- the script prints this output when it is run with these files
abbrev pub Prints : List (List ℕ) → List ℕ → List ℕ → Type 0
Prints files script output = printed_script files (reading script) ≡ output
