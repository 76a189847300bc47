-- Undo in whole runs: in every state, undo goes back to texts of earlier states of the run.
use Rattle.std.specs.Prelude.{◌≡◌, ℕ, List, [], ◌∷◌, filter_map, Option, Some, None, Ok}
use Rattle.ed_types.specs.declared.limits.Limits.{Limits}
use Rattle.ed_types.specs.declared.message.Message.{Message}
use Rattle.ed_types.specs.declared.script.Command.{Command}
use Rattle.ed_types.specs.Notices.{Response}
use Rattle.ed_model.specs.Session.{Session, Document, document_at, new_session}
use Rattle.ed_model.specs.Table.{table}
use Rattle.ed_model.specs.Run.{Running, after_command, run_to, starting}
use Rattle.ed_model.specs.SoundLaws.{IsSound}
use Rattle.ed_model.specs.EarlierTextLaws.{KeepsEarlierTexts, GoesBackAmong}

-- a document keeps the earlier texts of what it was, or it is new and has no past
abbrev pub GoesOn : Option Document → Document → Type 0
GoesOn None d = d.history.past ≡ []
GoesOn (Some old) d = KeepsEarlierTexts old d

-- this holds for every document that exists afterwards
abbrev pub DocumentsGoOn : Session → Session → Type 0
DocumentsGoOn s t = (id : ℕ) (d : Document) → document_at t.documents id ≡ Some d → GoesOn (document_at s.documents id) d

-- it holds after a message to a sound session
abbrev pub MessagesLetDocumentsGoOn : Type 0
MessagesLetDocumentsGoOn =
    (s : Session) (view : ℕ) (m : Message) (done : Session × Response) →
    IsSound s → table s view m ≡ Ok done → DocumentsGoOn s done.0

-- it holds after every command
abbrev pub CommandsLetDocumentsGoOn : Type 0
CommandsLetDocumentsGoOn =
    (files : List (List ℕ)) (c : Command) (s : Running) → IsSound s.session → DocumentsGoOn s.session (after_command files c s).0.session

-- the sessions of a run, the latest first, followed by the sessions before it
abbrev pub sessions_of : List (List ℕ) → List Command → Running → List Session → List Session
sessions_of files [] s earlier = s.session ∷ earlier
sessions_of files (c ∷ cs) s earlier = sessions_of files cs (after_command files c s).0 (s.session ∷ earlier)

-- the states of a document in these sessions
abbrev pub states_of : ℕ → List Session → List Document
states_of id sessions = filter_map (λ (s : Session). document_at s.documents id) sessions

-- After every run from a new session, undoing k transactions goes back to the text of the latest state of the run in which the
-- document's past had k transactions fewer.
abbrev pub UndoGoesBackInEveryRun : Type 0
UndoGoesBackInEveryRun =
    (files : List (List ℕ)) (commands : List Command) (limits : Limits) (id : ℕ) (d : Document) →
    document_at (run_to files commands (starting (new_session limits))).session.documents id ≡ Some d →
    GoesBackAmong d (states_of id (sessions_of files commands (starting (new_session limits)) []))
