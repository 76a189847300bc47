-- Laws of the message table: what queries, messages marked N, and refusals leave unchanged.
use Rattle.std.specs.Prelude.{◌≡◌, ℕ, Bool, true, false, List, [], ◌∷◌, Result, Ok, Err, Some}
use Rattle.ed_types.specs.declared.kind.Kind.{Kind}
use Rattle.ed_types.specs.declared.message.Message.{Message}
use Rattle.ed_types.specs.declared.refusal.Refusal.{Refusal}
use Rattle.ed_types.specs.declared.script.Command.{Command}
use Rattle.ed_types.specs.declared.script.Outcome.{Outcome}
use Rattle.ed_types.specs.declared.script.Outcome.TheVariants.{Opened, Closed, Replied, Refused, Expected}
use Rattle.ed_types.specs.Notices.{Response}
use Rattle.ed_types.specs.Messages.{kind_of, marks_of}
use Rattle.ed_model.specs.Session.{Session}
use Rattle.ed_model.specs.Table.{table}
use Rattle.ed_model.specs.Run.{Running, after_command, run_to}

-- The answer of a message: a session and a reply, or a refusal.

abbrev pub Answered : Type 0
Answered = Result (Session × Response) Refusal

-- a reply with an unchanged session; a refusal has no session
abbrev pub LeavesSession : Session → Answered → Type 0
LeavesSession s (Err refusal) = Unit {0}
LeavesSession s (Ok done) = done.0 ≡ s

-- The laws, for every message, session and view.

-- a message marked Q leaves the session unchanged
abbrev pub QueriesLeaveTheSession : Type 0
QueriesLeaveTheSession =
    (s : Session) (view : ℕ) (m : Message) (kind : Kind) →
    kind_of m.number ≡ Some kind → (marks_of kind).q ≡ true → LeavesSession s (table s view m)

-- Runs.

-- a command that is refused leaves the session unchanged
abbrev pub RefusedCommandsLeaveTheSession : Type 0
RefusedCommandsLeaveTheSession =
    (files : List (List ℕ)) (c : Command) (s : Running) (refusal : Refusal) →
    (after_command files c s).1 ≡ Refused refusal → (after_command files c s).0.session ≡ s.session

abbrev pub is_refused : Outcome → Bool
is_refused (Opened view) = false
is_refused Closed = false
is_refused (Replied reply) = false
is_refused (Refused refusal) = true
is_refused (Expected met value) = false

abbrev pub kept_unless : Bool → Command → List Command → List Command
kept_unless true c cs = cs
kept_unless false c cs = c ∷ cs

-- the commands of a run that are not refused
abbrev pub unrefused : List (List ℕ) → List Command → Running → List Command
unrefused files [] s = []
unrefused files (c ∷ cs) s =
    let done = after_command files c s in kept_unless (is_refused done.1) c (unrefused files cs done.0)

-- without its refused commands a run ends in the same session
abbrev pub RefusedCommandsCanBeLeftOut : Type 0
RefusedCommandsCanBeLeftOut =
    (files : List (List ℕ)) (cs : List Command) (s : Running) →
    (run_to files (unrefused files cs s) s).session ≡ (run_to files cs s).session
