-- The last save point of a document: its creation, or the last SETSAVEPOINT or EMPTYUNDOBUFFER sent to a view of it. Each of
-- these leaves it unmodified. Whenever it counts as unmodified, its text is that of the last of them, if undo was collected at
-- each change of its text since.
use Rattle.std.specs.Prelude.{◌≡◌, ℕ, ◌==◌, ◌&&◌, ◌||◌, Bool, true, false, pos, List, [], ◌∷◌, Option, Some, None, Ok}
use Rattle.std.specs.Option.{option_or}
use Rattle.ed_types.specs.declared.kind.Kind.{Kind}
use Rattle.ed_types.specs.declared.kind.Kind.TheVariants.{GetModify}
use Rattle.ed_types.specs.declared.limits.Limits.{Limits}
use Rattle.ed_types.specs.declared.message.Message.{Message}
use Rattle.ed_types.specs.declared.script.Command.{Command}
use Rattle.ed_types.specs.declared.script.Command.TheVariants.{OpenView, CloseView, LoadFile, SendMessage, Expect}
use Rattle.ed_types.specs.Notices.{Response}
use Rattle.ed_types.specs.Messages.{kind_of}
use Rattle.ed_model.specs.History.{at_save_point}
use Rattle.ed_model.specs.Session.{Session, View, Document, view_at, document_at, text_of, new_session}
use Rattle.ed_model.specs.Table.{table}
use Rattle.ed_model.specs.SoundLaws.{IsSound}
use Rattle.ed_model.specs.Run.{Running, starting, after_command, run_to}
use Rattle.run_laws.specs.MessageKinds.{is_saving}
use Rattle.run_laws.specs.SavePointLaws.{IsCollected}
use Rattle.run_laws.specs.EditLaws.{text_at}

-- whether the view exists and is on the document
abbrev pub is_view_of : ℕ → Option View → Bool
is_view_of id None = false
is_view_of id (Some v) = v.document == id

-- whether the message is SETSAVEPOINT or EMPTYUNDOBUFFER
abbrev pub is_saving_message : Option Kind → Bool
is_saving_message None = false
is_saving_message (Some kind) = is_saving kind

-- whether the command sends SETSAVEPOINT or EMPTYUNDOBUFFER to a view of the document
abbrev pub sets_save_point : ℕ → Session → Command → Bool
sets_save_point id s (SendMessage view m) = is_view_of id (view_at s.views view) && is_saving_message (kind_of m.number)
sets_save_point id s OpenView = false
sets_save_point id s (CloseView view) = false
sets_save_point id s (LoadFile view file) = false
sets_save_point id s (Expect value) = false

-- whether a document exists that did not exist before
abbrev pub is_created : Option Document → Option Document → Bool
is_created None (Some d) = true
is_created None None = false
is_created (Some c) d = false

-- whether the command gives the document a save point: it creates the document,
-- or sends one of the two messages; `t` is the session afterwards
abbrev pub gives_save_point : ℕ → Session → Command → Session → Bool
gives_save_point id s c t = is_created (document_at s.documents id) (document_at t.documents id) || sets_save_point id s c

-- A save point in a run: the state at it, and the commands since.
pub record SavePoint : Type 0 where
  pub state : Running
  pub since : List Command

abbrev pub save_point_if : Bool → Running → List Command → Option SavePoint
save_point_if true t cs = Some (record { state = t; since = cs })
save_point_if false t cs = None

-- the last save point that these commands give the document, if they give it one
abbrev pub last_save_point : List (List ℕ) → ℕ → List Command → Running → Option SavePoint
last_save_point files id [] s = None
last_save_point files id (c ∷ cs) s =
    let t = (after_command files c s).0 in
    option_or (last_save_point files id cs t) (save_point_if (gives_save_point id s.session c t.session) t cs)

-- while these commands run, the document's text changes only while undo is collected
abbrev pub AllIsCollected : List (List ℕ) → ℕ → List Command → Running → Type 0
AllIsCollected files id [] s = Unit {0}
AllIsCollected files id (c ∷ cs) s =
    let t = (after_command files c s).0 in
    IsCollected (document_at s.session.documents id) (document_at t.session.documents id) × AllIsCollected files id cs t

-- there is a last save point, and if undo was collected at each change of the text since, the document has the text that it had there
abbrev pub HasTextOf : List (List ℕ) → ℕ → Document → Option SavePoint → Type 0
HasTextOf files id d None = ⊥
HasTextOf files id d (Some last) = AllIsCollected files id last.since last.state → text_of d ≡ text_at last.state.session id

-- GETMODIFY, sent to the view, answers 0
abbrev pub IsToldUnmodified : Session → ℕ → Type 0
IsToldUnmodified s view = (m : Message) × (done : Session × Response) × (kind_of m.number ≡ Some GetModify) × (table s view m ≡ Ok done) × (done.1.value ≡ pos 0)

-- a document counts as unmodified after each command that gives it a save point
abbrev pub SavedIsUnmodified : Type 0
SavedIsUnmodified =
    (files : List (List ℕ)) (c : Command) (s : Running) (id : ℕ) (d : Document) →
    let t = (after_command files c s).0 in
    IsSound s.session → gives_save_point id s.session c t.session ≡ true → document_at t.session.documents id ≡ Some d → at_save_point d.history ≡ true

-- GETMODIFY answers 0 if the document counts as unmodified
abbrev pub UnmodifiedIsTold : Type 0
UnmodifiedIsTold =
    (s : Session) (view : ℕ) (m : Message) (v : View) (d : Document) (done : Session × Response) →
    kind_of m.number ≡ Some GetModify → view_at s.views view ≡ Some v → document_at s.documents v.document ≡ Some d → table s view m ≡ Ok done →
    at_save_point d.history ≡ true → done.1.value ≡ pos 0

-- In every state that a run from a new session reaches, a document that counts as unmodified has the text of its last save point,
-- if undo was collected at each change of its text since.
abbrev pub UnmodifiedIsTheLastSavedText : Type 0
UnmodifiedIsTheLastSavedText =
    (files : List (List ℕ)) (commands : List Command) (limits : Limits) (id : ℕ) (d : Document) →
    let start = starting (new_session limits) in
    document_at (run_to files commands start).session.documents id ≡ Some d → at_save_point d.history ≡ true →
    HasTextOf files id d (last_save_point files id commands start)

-- The same holds for the document of a view to which GETMODIFY would answer 0.
abbrev pub ToldUnmodifiedIsTheLastSavedText : Type 0
ToldUnmodifiedIsTheLastSavedText =
    (files : List (List ℕ)) (commands : List Command) (limits : Limits) (view : ℕ) (v : View) (d : Document) →
    let start = starting (new_session limits) in
    let s = (run_to files commands start).session in
    view_at s.views view ≡ Some v → document_at s.documents v.document ≡ Some d → IsToldUnmodified s view →
    HasTextOf files v.document d (last_save_point files v.document commands start)
