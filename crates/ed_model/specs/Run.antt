-- Runs: a list of commands performed from a session. [own]
use Rattle.std.specs.Prelude.{ℕ, zero, suc, Bool, true, false, ℤ, pos, List, [], ◌∷◌, slice_get, Result, Ok, Err, Option, Some, None}
use Rattle.ed_types.specs.declared.message.Message.{Message}
use Rattle.ed_types.specs.declared.refusal.Refusal.{Refusal}
use Rattle.ed_types.specs.declared.refusal.Refusal.TheVariants.{NoSuchView, BadArgument}
use Rattle.ed_types.specs.declared.script.Command.{Command}
use Rattle.ed_types.specs.declared.script.Command.TheVariants.{OpenView, CloseView, LoadFile, SendMessage, Expect}
use Rattle.ed_types.specs.declared.script.Outcome.{Outcome}
use Rattle.ed_types.specs.declared.script.Outcome.TheVariants.{Opened, Closed, Replied, Refused, Expected}
use Rattle.ed_types.specs.Notices.{Response}
use Rattle.ed_types.specs.Messages.{number_of}
use Rattle.ed_types.specs.declared.kind.Kind.TheVariants.{SetText}
use Rattle.ed_model.specs.Session.{Session, View, view_at}
use Rattle.ed_model.specs.Numbers.{is_same}
use Rattle.ed_model.specs.Table.{table, opened, closed}

-- The state of a run: the session, and the value that the last command other
-- than `Expect` answered; none at the start and after a refusal.
pub record Running : Type 0 where
  pub session : Session
  pub value : Option ℤ

abbrev pub starting : Session → Running
starting s = record { session = s; value = None }

abbrev pub after_opening : Session → Result (Session × ℕ) Refusal → Running × Outcome
after_opening s (Ok done) = (record { session = done.0; value = Some (pos done.1) }, Opened done.1)
after_opening s (Err refusal) = (record { session = s; value = None }, Refused refusal)

abbrev pub after_closing : Session → Result Session Refusal → Running × Outcome
after_closing s (Ok new) = (record { session = new; value = Some (pos 0) }, Closed)
after_closing s (Err refusal) = (record { session = s; value = None }, Refused refusal)

abbrev pub after_message : Session → Result (Session × Response) Refusal → Running × Outcome
after_message s (Ok done) = (record { session = done.0; value = Some done.1.value }, Replied done.1)
after_message s (Err refusal) = (record { session = s; value = None }, Refused refusal)

-- the file with the number; the first is file 1
abbrev pub file_at : List (List ℕ) → ℕ → Option (List ℕ)
file_at files zero = None
file_at files (suc k) = slice_get files k

abbrev pub set_text_message : List ℕ → Message
set_text_message bytes = record { number = number_of SetText; w = pos 0; l = pos 0; text = bytes }

-- A file is loaded into a view by SCI_SETTEXT. A view that does not exist is refused before a file that does not exist.
abbrev pub loaded : Session → ℕ → Option View → Option (List ℕ) → Result (Session × Response) Refusal
loaded s view None file = Err NoSuchView
loaded s view (Some v) None = Err BadArgument
loaded s view (Some v) (Some bytes) = table s view (set_text_message bytes)

abbrev pub is_met : Option ℤ → ℤ → Bool
is_met None value = false
is_met (Some v) value = is_same v value

-- the state after a command, and the command's outcome
abbrev pub after_command : List (List ℕ) → Command → Running → Running × Outcome
after_command files OpenView s = after_opening s.session (opened s.session)
after_command files (CloseView view) s = after_closing s.session (closed s.session view)
after_command files (LoadFile view file) s =
    after_message s.session (loaded s.session view (view_at s.session.views view) (file_at files file))
after_command files (SendMessage view message) s = after_message s.session (table s.session view message)
after_command files (Expect value) s = (s, Expected (is_met s.value value) value)

-- the outcomes of the commands, in order
abbrev pub outcomes : List (List ℕ) → List Command → Running → List Outcome
outcomes files [] s = []
outcomes files (c ∷ cs) s = let done = after_command files c s in done.1 ∷ outcomes files cs done.0

-- the state after the commands
abbrev pub run_to : List (List ℕ) → List Command → Running → Running
run_to files [] s = s
run_to files (c ∷ cs) s = run_to files cs (after_command files c s).0

abbrev pub is_unmet : Outcome → Bool
is_unmet (Expected true value) = false
is_unmet (Expected false value) = true
is_unmet (Opened id) = false
is_unmet Closed = false
is_unmet (Replied reply) = false
is_unmet (Refused refusal) = false
