-- Documents are isolated: a message to a view of one document changes neither another document, nor its views, nor their answers.
-- `KeepsApart` names the exceptions.
use Rattle.std.specs.Prelude.{◌≡◌, ℕ, ◌==◌, not, Bool, true, false, List, [], ◌∷◌, map, filter, Option, Some, None}
use Rattle.std.specs.List.{AllByRecursion}
use Rattle.ed_types.specs.declared.kind.Kind.{Kind}
use Rattle.ed_types.specs.declared.message.Message.{Message}
use Rattle.ed_types.specs.declared.script.Command.{Command}
use Rattle.ed_types.specs.declared.script.Command.TheVariants.{SendMessage}
use Rattle.ed_types.specs.declared.script.Outcome.{Outcome}
use Rattle.ed_types.specs.Messages.{kind_of}
use Rattle.ed_model.specs.Session.{Session, View, view_at, document_at}
use Rattle.ed_model.specs.SoundLaws.{IsSound}
use Rattle.ed_model.specs.Run.{Running, starting, after_command, outcomes, run_to}
use Rattle.run_laws.specs.MessageKinds.{is_copying, is_about_documents}

-- a view and a message to it, and the command that sends it
abbrev pub Sending : Type 0
Sending = ℕ × Message

abbrev pub sent : Sending → Command
sent m = SendMessage m.0 m.1

abbrev pub shows_other : ℕ → Option View → Bool
shows_other id None = false
shows_other id (Some v) = not (v.document == id)

-- whether the message goes to a view of another document
abbrev pub goes_elsewhere : Session → ℕ → Sending → Bool
goes_elsewhere s id m = shows_other id (view_at s.views m.0)

abbrev pub unless : {A : Type 0} → Bool → A → List A → List A
unless true x xs = xs
unless false x xs = x ∷ xs

-- the messages without those that go to views of other documents
abbrev pub without_others : Session → ℕ → List Sending → List Sending
without_others s id [] = []
without_others s id (m ∷ ms) = unless (goes_elsewhere s id m) m (without_others s id ms)

-- the outcomes of the messages that do not go to views of other documents, when all are sent; the session `first` decides which these are
abbrev pub own_outcomes : Session → ℕ → List Sending → Running → List Outcome
own_outcomes first id [] s = []
own_outcomes first id (m ∷ ms) s =
    let done = after_command [] (sent m) s in unless (goes_elsewhere first id m) done.1 (own_outcomes first id ms done.0)

-- the message does not create, attach, hold or release a document, and if it
-- goes to a view of another document, it takes nothing to the clipboard
abbrev pub KeepsApart : Session → ℕ → Sending → Type 0
KeepsApart s id m =
    (kind : Kind) → kind_of m.1.number ≡ Some kind →
    (is_about_documents kind ≡ false) × (goes_elsewhere s id m ≡ true → is_copying kind ≡ false)

-- the views of a document
abbrev pub views_on : ℕ → List View → List View
views_on id views = filter (λ (v : View). v.document == id) views

-- In a sound session, with such messages: if the messages to views of other documents are left out, the outcomes of the others
-- are the same, and the document and its views end in the same state.
abbrev pub DocumentsAreApart : Type 0
DocumentsAreApart =
    (s : Session) (id : ℕ) (messages : List Sending) → IsSound s → AllByRecursion (KeepsApart s id) messages →
    let rest = without_others s id messages in
    let whole = run_to [] (map sent messages) (starting s) in
    let alone = run_to [] (map sent rest) (starting s) in
    (own_outcomes s id messages (starting s) ≡ outcomes [] (map sent rest) (starting s))
    × (document_at whole.session.documents id ≡ document_at alone.session.documents id)
    × (views_on id whole.session.views ≡ views_on id alone.session.views)
