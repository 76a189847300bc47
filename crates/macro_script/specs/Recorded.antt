-- What a view records, as a script.
use Rattle.std.specs.Prelude.{◌≡◌, ◌≤◌, ◌<◌, slice_get, ℕ, ℤ, ◌==◌, ◌&&◌, Bool, false, List, [], ◌∷◌, ◌++◌, length, map, find, Option, Some, None}
use Rattle.ed_types.specs.declared.reply.Note.{Note}
use Rattle.ed_types.specs.Notices.{Notice, Response}
use Rattle.ed_types.specs.Heard.{with_text}
use Rattle.ed_types.specs.declared.script.Command.{Command}
use Rattle.ed_model.specs.Notes.{macro_record}
use Rattle.ed_model.specs.Listing.{keeps_limits}
use Rattle.ed_model.specs.Recording.{told_message, recorded_messages, sent_to}

-- what a recorder has: its view, and the commands so far
pub record Recording : Type 0 where
  pub view : ℕ
  pub commands : List Command

-- the command that sends the message with this number, these arguments and this text to the view
abbrev pub send_command : ℕ → ℕ → ℤ → ℤ → List ℕ → Command
send_command view number w l text = sent_to view (record { number = number; w = w; l = l; text = text })

-- whether the note is the view's notification of a recorded message
abbrev pub is_recording : ℕ → Notice → Bool
is_recording view n = n.code == macro_record && n.view == view

-- that note of a reply, which has at most one
abbrev pub recording_note : ℕ → Response → Option Notice
recording_note view reply = find (is_recording view) reply.notes

-- its place among the reply's notes, if there is one
abbrev pub IsPlaceOf : Option Notice → List Notice → Option ℕ → Type 0
IsPlaceOf found notes None = found ≡ None
IsPlaceOf found notes (Some place) = (place < length notes) × (slice_get notes place ≡ found)

abbrev pub sends_for : ℕ → Option Notice → List Command
sends_for view None = []
sends_for view (Some n) = sent_to view (told_message n) ∷ []

-- the command that the reply records for the view, if it records one
abbrev pub recorded_sends : ℕ → Response → List Command
recorded_sends view reply = sends_for view (recording_note view reply)

-- the recording after a reply: what the reply records is added
abbrev pub after_reply : Recording → Response → Recording
after_reply r reply = record r { commands = r.commands ++ recorded_sends r.view reply }

-- the recording after a note with this text: the message that the note tells of is added
abbrev pub after_note : Recording → Note → List ℕ → Recording
after_note r note text = record r { commands = r.commands ++ sent_to r.view (told_message (with_text note text)) ∷ [] }

-- the commands exceed a limit of scripts
abbrev pub IsTooLong : Recording → Type 0
IsTooLong r = keeps_limits r.commands ≡ false

-- what the reply records is everything that the view recorded in it, if that is at most one message, as in each reply of
-- a session
abbrev pub RecordsAll : Type 0
RecordsAll =
    (view : ℕ) (reply : Response) → length (recorded_messages view (reply ∷ [])) ≤ 1
    → map (sent_to view) (recorded_messages view (reply ∷ [])) ≡ recorded_sends view reply
