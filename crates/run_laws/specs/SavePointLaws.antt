-- The save point: whenever a document counts as unmodified again, its text is that of the save point.
use Rattle.std.specs.Prelude.{◌≡◌, ◌⊎◌, ℕ, true, false, pos, List, [], ◌∷◌, Option, Some, None, Ok}
use Rattle.ed_types.specs.declared.kind.Kind.{Kind}
use Rattle.ed_types.specs.declared.kind.Kind.TheVariants.{GetModify}
use Rattle.ed_types.specs.declared.message.Message.{Message}
use Rattle.ed_types.specs.declared.script.Command.{Command}
use Rattle.ed_types.specs.declared.script.Command.TheVariants.{OpenView, CloseView, LoadFile, SendMessage, Expect}
use Rattle.ed_types.specs.Notices.{Response}
use Rattle.ed_types.specs.Messages.{kind_of}
use Rattle.ed_model.specs.History.{at_save_point}
use Rattle.ed_model.specs.Session.{Session, View, Document, view_at, document_at, text_of}
use Rattle.ed_model.specs.Table.{table}
use Rattle.ed_model.specs.SoundLaws.{IsSound}
use Rattle.ed_model.specs.Run.{Running, after_command, run_to}
use Rattle.run_laws.specs.MessageKinds.{is_saving}

-- the command sends neither SETSAVEPOINT nor EMPTYUNDOBUFFER to a view of the document
abbrev pub SetsNoSavePoint : ℕ → Session → Command → Type 0
SetsNoSavePoint id s (SendMessage view m) =
    (v : View) (kind : Kind) → view_at s.views view ≡ Some v → v.document ≡ id → kind_of m.number ≡ Some kind → is_saving kind ≡ false
SetsNoSavePoint id s OpenView = Unit {0}
SetsNoSavePoint id s (CloseView view) = Unit {0}
SetsNoSavePoint id s (LoadFile view file) = Unit {0}
SetsNoSavePoint id s (Expect value) = Unit {0}

-- from one state of a document to the next, undo is collected, or the text stays
abbrev pub IsCollected : Option Document → Option Document → Type 0
IsCollected (Some d) (Some e) = (d.history.collecting ≡ true) ⊎ (text_of e ≡ text_of d)
IsCollected (Some d) None = Unit {0}
IsCollected None e = Unit {0}

-- while these commands run, no save point of the document is set, and its text changes only while undo is collected
abbrev pub KeepsTheSavePoint : List (List ℕ) → ℕ → List Command → Running → Type 0
KeepsTheSavePoint files id [] s = Unit {0}
KeepsTheSavePoint files id (c ∷ cs) s =
    let t = (after_command files c s).0 in
    SetsNoSavePoint id s.session c × IsCollected (document_at s.session.documents id) (document_at t.session.documents id) × KeepsTheSavePoint files id cs t

-- From a state of a sound session in which a document counts as unmodified, as it does when a save point is set, and over such
-- commands: whenever the document counts as unmodified again, with groups open or not, its text is that of the first state.
abbrev pub UnmodifiedIsTheSavedText : Type 0
UnmodifiedIsTheSavedText =
    (files : List (List ℕ)) (commands : List Command) (s : Running) (id : ℕ) (d e : Document) →
    IsSound s.session → document_at s.session.documents id ≡ Some d → at_save_point d.history ≡ true → KeepsTheSavePoint files id commands s →
    document_at (run_to files commands s).session.documents id ≡ Some e → at_save_point e.history ≡ true → text_of e ≡ text_of d

-- GETMODIFY answers 0 only if the document counts as unmodified
abbrev pub GetModifyTells : Type 0
GetModifyTells =
    (s : Session) (view : ℕ) (m : Message) (v : View) (d : Document) (done : Session × Response) →
    kind_of m.number ≡ Some GetModify → view_at s.views view ≡ Some v → document_at s.documents v.document ≡ Some d → table s view m ≡ Ok done →
    done.1.value ≡ pos 0 → at_save_point d.history ≡ true
