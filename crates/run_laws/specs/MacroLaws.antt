-- Macros: the messages that a view records, sent to it again from the state in
-- which the recording began, lead to the state in which it ended.
use Rattle.std.specs.Prelude.{◌≡◌, ◌⊎◌, ◌≤◌, ℕ, ◌==◌, true, false, if◌then◌else◌, List, [], ◌∷◌, length, map, Some, Ok}
use Rattle.std.specs.List.{AllByRecursion}
use Rattle.ed_types.specs.declared.kind.Kind.{Kind}
use Rattle.ed_types.specs.declared.kind.Kind.TheVariants.{StartRecord, StopRecord}
use Rattle.ed_types.specs.declared.message.Message.{Message}
use Rattle.ed_types.specs.declared.script.Command.{Command}
use Rattle.ed_types.specs.Notices.{Response}
use Rattle.ed_types.specs.Messages.{kind_of, marks_of}
use Rattle.ed_model.specs.Session.{Session, View}
use Rattle.ed_model.specs.Recording.{recorded_messages, replies_in, sent_to}
use Rattle.ed_model.specs.Table.{table}
use Rattle.ed_model.specs.SoundLaws.{IsSound}
use Rattle.ed_model.specs.Run.{Running, starting, outcomes, run_to}
use Rattle.run_laws.specs.IsolationLaws.{Sending, sent}

-- the view, as it is while it does not record
abbrev pub not_recording : ℕ → View → View
not_recording view v = record v { records = if v.id == view then false else v.records }

abbrev pub without_recording : ℕ → Session → Session
without_recording view s = record s { views = map (not_recording view) s.views }

-- the message is a query, or goes to the view and is marked R
abbrev pub CanStandBetween : ℕ → Sending → Type 0
CanStandBetween view m =
    (kind : Kind) → kind_of m.1.number ≡ Some kind → ((marks_of kind).q ≡ true) ⊎ ((m.0 ≡ view) × ((marks_of kind).r ≡ true))

-- the messages that the view records while these are sent, from this session on
abbrev pub recorded_of : ℕ → List Sending → Session → List Message
recorded_of view messages s = recorded_messages view (replies_in (outcomes [] (map sent messages) (starting s)))

-- Between STARTRECORD and STOPRECORD, sent to a view of a sound session, come such messages. The messages that the view recorded,
-- sent to it from the session before STARTRECORD, lead to the session after STOPRECORD, except for whether the view records.
abbrev pub RecordingsCanBeReplayed : Type 0
RecordingsCanBeReplayed =
    (s : Session) (view : ℕ) (start stop : Message) (messages : List Sending) (begun ended : Session × Response) →
    IsSound s → kind_of start.number ≡ Some StartRecord → table s view start ≡ Ok begun →
    AllByRecursion (CanStandBetween view) messages →
    kind_of stop.number ≡ Some StopRecord → table (run_to [] (map sent messages) (starting begun.0)).session view stop ≡ Ok ended →
    without_recording view (run_to [] (map (sent_to view) (recorded_of view messages begun.0)) (starting s)).session ≡ ended.0

-- A reply records at most one message for a view: its first SCN_MACRORECORD for the view is the only one.
abbrev pub RecordsOneAtMost : ℕ → Response → Type 0
RecordsOneAtMost view reply = length (recorded_messages view (reply ∷ [])) ≤ 1

-- every reply to a message does so, for every view
abbrev pub RepliesRecordOneMessage : Type 0
RepliesRecordOneMessage =
    (s : Session) (sender view : ℕ) (m : Message) (done : Session × Response) → table s sender m ≡ Ok done → RecordsOneAtMost view done.1

-- and so do all replies of a run, from any session
abbrev pub RunsRecordOneMessageAReply : Type 0
RunsRecordOneMessageAReply =
    (files : List (List ℕ)) (commands : List Command) (s : Running) (view : ℕ) →
    AllByRecursion (RecordsOneAtMost view) (replies_in (outcomes files commands s))
