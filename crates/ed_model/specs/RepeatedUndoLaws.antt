-- UNDO and REDO messages in a row, with commands between them that leave the document alone.
use Rattle.std.specs.Prelude.{◌≡◌, ℕ, ◌≤◌, false, List, [], ◌∷◌, length, Some, Ok}
use Rattle.ed_types.specs.declared.kind.Kind.{Kind}
use Rattle.ed_types.specs.declared.kind.Kind.TheVariants.{Undo, Redo}
use Rattle.ed_types.specs.declared.message.Message.{Message}
use Rattle.ed_types.specs.Notices.{Response}
use Rattle.ed_types.specs.Messages.{kind_of}
use Rattle.ed_model.specs.Session.{Session, View, Document, view_at, document_at, text_of}
use Rattle.ed_model.specs.Table.{table, opened, closed}
use Rattle.ed_model.specs.UndoLaws.{undone_text}
use Rattle.ed_model.specs.SoundLaws.{IsSound}

-- A document was left alone if its text, its history and whether it is read-only are the same.
pub record IsLeftAlone (d e : Document) : Type 0 where
  pub text : text_of e ≡ text_of d
  pub history : e.history ≡ d.history
  pub read_only : e.read_only ≡ d.read_only

-- the document with this id exists before and afterwards, and was left alone
pub record LeavesAlone (id : ℕ) (s t : Session) : Type 0 where
  pub before : Document
  pub after : Document
  pub found : document_at s.documents id ≡ Some before
  pub still_found : document_at t.documents id ≡ Some after
  pub left : IsLeftAlone before after

-- every document that exists before and afterwards was left alone, except those for which `Own` holds
abbrev pub LeavesOthersAlone : (ℕ → Type 0) → Session → Session → Type 0
LeavesOthersAlone Own s t =
    (id : ℕ) (d e : Document) → (Own id → ⊥) → document_at s.documents id ≡ Some d → document_at t.documents id ≡ Some e → IsLeftAlone d e

-- a message to a sound session leaves all documents alone except that of its view
abbrev pub MessagesLeaveOtherDocumentsAlone : Type 0
MessagesLeaveOtherDocumentsAlone =
    (s : Session) (view : ℕ) (m : Message) (v : View) (done : Session × Response) →
    IsSound s → view_at s.views view ≡ Some v → table s view m ≡ Ok done → LeavesOthersAlone (λ id. id ≡ v.document) s done.0

-- opening and closing views leaves all documents alone
abbrev pub OpeningLeavesDocumentsAlone : Type 0
OpeningLeavesDocumentsAlone = (s : Session) (done : Session × ℕ) → opened s ≡ Ok done → LeavesOthersAlone (λ id. ⊥) s done.0

abbrev pub ClosingLeavesDocumentsAlone : Type 0
ClosingLeavesDocumentsAlone = (s t : Session) (view : ℕ) → IsSound s → closed s view ≡ Ok t → LeavesOthersAlone (λ id. ⊥) s t

-- a message of this kind, sent to a view of the document, is answered
pub record IsAnswered (kind : Kind) (id : ℕ) (sent : ℕ × Message) (s : Session) (done : Session × Response) : Type 0 where
  pub is_kind : kind_of sent.1.number ≡ Some kind
  pub view : View
  pub found : view_at s.views sent.0 ≡ Some view
  pub document : view.document ≡ id
  pub answered : table s sent.0 sent.1 ≡ Ok done

-- all these messages are answered, one after another; between them, and before and after, commands may come that leave the document alone
abbrev pub AreAnswered : Kind → ℕ → List (ℕ × Message) → Session → Session → Type 0
AreAnswered kind id [] s t = LeavesAlone id s t
AreAnswered kind id (sent ∷ rest) s t =
    (between : Session) × LeavesAlone id s between × (done : Session × Response) × IsAnswered kind id sent between done × AreAnswered kind id rest done.0 t

-- the document with this id has this text
abbrev pub HasText : ℕ → Session → List ℕ → Type 0
HasText id s text = (d : Document) × (document_at s.documents id ≡ Some d) × (text_of d ≡ text)

-- In a sound session, for a document that is not read-only, outside groups: if the past has k transactions or more, k UNDO messages go
-- back to the text before the last k of them, and k REDO messages then go on to the text that the document had at first.
abbrev pub UndosGoBackThenRedosGoOn : Type 0
UndosGoBackThenRedosGoOn =
    (s t u : Session) (id : ℕ) (d : Document) (undos redos : List (ℕ × Message)) →
    IsSound s → document_at s.documents id ≡ Some d → d.read_only ≡ false → d.history.depth ≡ 0 → length undos ≤ length d.history.past →
    AreAnswered Undo id undos s t → length redos ≡ length undos → AreAnswered Redo id redos t u →
    HasText id t (undone_text (length undos) d.history.past (text_of d)) × HasText id u (text_of d)

-- the UNDO messages alone go back in this way
abbrev pub UndoMessagesGoBack : Type 0
UndoMessagesGoBack =
    (s t : Session) (id : ℕ) (d : Document) (undos : List (ℕ × Message)) →
    document_at s.documents id ≡ Some d → d.read_only ≡ false → d.history.depth ≡ 0 → length undos ≤ length d.history.past →
    AreAnswered Undo id undos s t → HasText id t (undone_text (length undos) d.history.past (text_of d))
