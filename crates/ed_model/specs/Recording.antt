-- Recorded messages. [Scintilla: macro recording]
use Rattle.std.specs.Prelude.{ℕ, ◌==◌, ◌&&◌, List, [], ◌∷◌, map, filter, flat_map}
use Rattle.ed_types.specs.Notices.{Notice, Response}
use Rattle.ed_types.specs.declared.message.Message.{Message}
use Rattle.ed_types.specs.declared.script.Command.{Command}
use Rattle.ed_types.specs.declared.script.Command.TheVariants.{SendMessage}
use Rattle.ed_types.specs.declared.script.Outcome.{Outcome}
use Rattle.ed_types.specs.declared.script.Outcome.TheVariants.{Opened, Closed, Replied, Refused, Expected}
use Rattle.ed_model.specs.Notes.{macro_record}

-- the message that a note SCN_MACRORECORD names
abbrev pub told_message : Notice → Message
told_message n = record { number = n.message; w = n.w; l = n.l; text = n.text }

-- the messages that the view recorded, by the notes of these replies, in order
abbrev pub recorded_messages : ℕ → List Response → List Message
recorded_messages view replies =
    map told_message (filter (λ (n : Notice). n.code == macro_record && n.view == view) (flat_map (λ (r : Response). r.notes) replies))

-- the command that sends the message to the view
abbrev pub sent_to : ℕ → Message → Command
sent_to view message = SendMessage view message

-- the replies among outcomes
abbrev pub replies_in : List Outcome → List Response
replies_in [] = []
replies_in (Replied reply ∷ os) = reply ∷ replies_in os
replies_in (Opened id ∷ os) = replies_in os
replies_in (Closed ∷ os) = replies_in os
replies_in (Refused refusal ∷ os) = replies_in os
replies_in (Expected met value ∷ os) = replies_in os
