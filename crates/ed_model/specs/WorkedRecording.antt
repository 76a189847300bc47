-- Worked examples of what a view records.
use Rattle.std.specs.Prelude.{◌≡◌, pos, List, [], ◌∷◌, codes, Result, Ok, Err}
use Rattle.ed_types.specs.declared.message.Message.{Message}
use Rattle.ed_types.specs.declared.script.Command.{Command}
use Rattle.ed_types.specs.declared.script.ScriptFault.{ScriptFault}
use Rattle.ed_model.specs.Session.{new_session, greatest_limits}
use Rattle.ed_model.specs.Run.{outcomes, starting}
use Rattle.ed_model.specs.Reading.{reading}
use Rattle.ed_model.specs.Prints.{joined_lines}
use Rattle.ed_model.specs.Recording.{recorded_messages, replies_in}

-- the messages that view 1 records while the script runs
abbrev pub recorded_in : Result (List Command) ScriptFault → List Message
recorded_in (Ok commands) = recorded_messages 1 (replies_in (outcomes [] commands (starting (new_session greatest_limits))))
recorded_in (Err fault) = []

-- Of STARTRECORD, ADDTEXT, GETLENGTH, CHARLEFT, DELETEBACK, STOPRECORD and a second ADDTEXT, the view records the first ADDTEXT,
-- CHARLEFT and DELETEBACK.
abbrev pub RecordsWhatCanBeReplayed : Type 0
RecordsWhatCanBeReplayed =
    recorded_in (reading (joined_lines (
    codes "sci 2" ∷
    codes "open" ∷
    codes "send 1 3001 0 0 \"\"" ∷
    codes "send 1 2001 3 0 \"abc\"" ∷
    codes "send 1 2006 0 0 \"\"" ∷
    codes "send 1 2304 0 0 \"\"" ∷
    codes "send 1 2326 0 0 \"\"" ∷
    codes "send 1 3002 0 0 \"\"" ∷
    codes "send 1 2001 1 0 \"x\"" ∷
    [])))
    ≡ record { number = 2001; w = pos 3; l = pos 0; text = codes "abc" }
    ∷ record { number = 2304; w = pos 0; l = pos 0; text = [] }
    ∷ record { number = 2326; w = pos 0; l = pos 0; text = [] }
    ∷ []
