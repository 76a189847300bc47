-- Only messages marked E edit: all others leave every text unchanged, and notify no view of an attempt to edit.
use Rattle.std.specs.Prelude.{◌≡◌, ◌≢◌, ◌==◌, ℕ, ℤ, pos, Bool, true, false, List, [], ◌∷◌, Option, Some, None, Ok, Err}
use Rattle.std.specs.List.{AllByRecursion, list_any}
use Rattle.ed_types.specs.declared.kind.Kind.{Kind}
use Rattle.ed_types.specs.declared.kind.Kind.TheVariants.{SetText, InsertText, Undo, SetSel, TargetFromSelection, Copy, SetReadOnly}
use Rattle.ed_types.specs.declared.message.Message.{Message}
use Rattle.ed_types.specs.declared.script.Command.{Command}
use Rattle.ed_types.specs.declared.script.Command.TheVariants.{OpenView, SendMessage}
use Rattle.ed_types.specs.Notices.{Notice, Response}
use Rattle.ed_types.specs.Messages.{kind_of, marks_of, number_of}
use Rattle.ed_model.specs.Notes.{modify_attempt}
use Rattle.ed_model.specs.Session.{Session, Document, document_at, text_of, greatest_limits}
use Rattle.ed_model.specs.Table.{table}
use Rattle.ed_model.specs.TableLaws.{Answered}
use Rattle.ed_model.specs.SoundLaws.{IsSound}
use Rattle.run_laws.specs.Reached.{reached}

-- the text of the document, or no text if there is no document
abbrev pub text_if_there : Option Document → List ℕ
text_if_there None = []
text_if_there (Some d) = text_of d

-- the text of the document with this id, or no text if there is no such document
abbrev pub text_at : Session → ℕ → List ℕ
text_at s id = text_if_there (document_at s.documents id)

-- Each document that exists afterwards has the text that it had before, or no text if it is new.
abbrev pub TextsStay : Session → Session → Type 0
TextsStay s t = (id : ℕ) (d : Document) → document_at t.documents id ≡ Some d → text_of d ≡ text_at s id

-- no view is notified of an attempt to edit a read-only document (SCN_MODIFYATTEMPTRO)
abbrev pub TellsNoAttempt : Response → Type 0
TellsNoAttempt reply = AllByRecursion (λ (n : Notice). n.code ≢ modify_attempt) reply.notes

-- a message that is not marked E leaves every text of a sound session unchanged
abbrev pub OnlyEditsChangeTexts : Type 0
OnlyEditsChangeTexts =
    (s : Session) (view : ℕ) (m : Message) (kind : Kind) (done : Session × Response) →
    IsSound s → kind_of m.number ≡ Some kind → (marks_of kind).e ≡ false → table s view m ≡ Ok done → TextsStay s done.0

-- .. and notifies no view of an attempt
abbrev pub OnlyEditsTellOfAttempts : Type 0
OnlyEditsTellOfAttempts =
    (s : Session) (view : ℕ) (m : Message) (kind : Kind) (done : Session × Response) →
    kind_of m.number ≡ Some kind → (marks_of kind).e ≡ false → table s view m ≡ Ok done → TellsNoAttempt done.1

-- Conversely, each message marked E edits, if it has something to edit.

-- the command that sends such a message to view 1
abbrev pub to_first : Kind → ℤ → ℤ → List ℕ → Command
to_first kind w l text = SendMessage 1 (record { number = number_of kind; w = w; l = l; text = text })

-- Commands that lead to a state in which each message marked E has something to edit. View 1
-- is on a read-only document with the text "ab" and a line end; the first byte is selected, is
-- the target, and is in the clipboard. One transaction can be undone, and one can be redone.
abbrev pub to_something_to_edit : List Command
to_something_to_edit =
    OpenView ∷
    to_first SetText (pos 0) (pos 0) (97 ∷ 98 ∷ 10 ∷ []) ∷
    to_first InsertText (pos 0) (pos 0) (99 ∷ []) ∷
    to_first Undo (pos 0) (pos 0) [] ∷
    to_first SetSel (pos 0) (pos 1) [] ∷
    to_first TargetFromSelection (pos 0) (pos 0) [] ∷
    to_first Copy (pos 0) (pos 0) [] ∷
    to_first SetReadOnly (pos 1) (pos 0) [] ∷
    []

abbrev pub something_to_edit : Session
something_to_edit = reached [] to_something_to_edit greatest_limits

-- the message of this kind with w = 1, l = 1 and a text of one byte
abbrev pub with_ones : Kind → Message
with_ones kind = record { number = number_of kind; w = pos 1; l = pos 1; text = 120 ∷ [] }

-- whether a view is notified of an attempt to edit
abbrev pub tells_attempt : Answered → Bool
tells_attempt (Ok done) = list_any (λ (n : Notice). n.code == modify_attempt) done.1.notes
tells_attempt (Err refusal) = false

-- in that state each message marked E makes an attempt to edit
abbrev pub MarkedMessagesTellAttempts : Type 0
MarkedMessagesTellAttempts = (kind : Kind) → (marks_of kind).e ≡ true → tells_attempt (table something_to_edit 1 (with_ones kind)) ≡ true
