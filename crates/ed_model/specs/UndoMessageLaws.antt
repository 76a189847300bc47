-- The messages UNDO and REDO: what they do to the document.
use Rattle.std.specs.Prelude.{◌≡◌, ℕ, suc, true, false, Some, Ok, Err}
use Rattle.ed_types.specs.declared.kind.Kind.{Kind}
use Rattle.ed_types.specs.declared.kind.Kind.TheVariants.{Undo, Redo}
use Rattle.ed_types.specs.declared.message.Message.{Message}
use Rattle.ed_types.specs.declared.refusal.Refusal.TheVariants.{TooLong}
use Rattle.ed_types.specs.Notices.{Response}
use Rattle.ed_types.specs.Messages.{kind_of}
use Rattle.ed_model.specs.History.{undone, redone, can_undo, can_redo}
use Rattle.ed_model.specs.Session.{Session, View, Document, view_at, document_at, text_of}
use Rattle.ed_model.specs.Table.{table}
use Rattle.ed_model.specs.UndoLaws.{undone_text, redone_text}
use Rattle.ed_model.specs.SoundLaws.{IsSound}

-- The document after its last transaction is undone: it has the text from before that transaction; all earlier texts stay.
pub record IsUndone (d e : Document) : Type 0 where
  pub history : e.history ≡ undone d.history
  pub read_only : e.read_only ≡ d.read_only
  pub texts : (k : ℕ) → undone_text k e.history.past (text_of e) ≡ undone_text (suc k) d.history.past (text_of d)

-- The document after its next transaction is redone: it has the text from after that transaction; all later texts stay.
pub record IsRedone (d e : Document) : Type 0 where
  pub history : e.history ≡ redone d.history
  pub read_only : e.read_only ≡ d.read_only
  pub texts : (k : ℕ) → redone_text k e.history.future (text_of e) ≡ redone_text (suc k) d.history.future (text_of d)

-- UNDO, if it is answered, undoes the last transaction of a document that is not read-only and has something to undo
abbrev pub UndoUndoes : Type 0
UndoUndoes =
    (s : Session) (view : ℕ) (m : Message) (v : View) (d : Document) (done : Session × Response) →
    kind_of m.number ≡ Some Undo → view_at s.views view ≡ Some v → document_at s.documents v.document ≡ Some d →
    can_undo d.history ≡ true → d.read_only ≡ false → table s view m ≡ Ok done →
    (e : Document) × (document_at done.0.documents v.document ≡ Some e) × IsUndone d e

-- REDO, in the same way, redoes the next transaction
abbrev pub RedoRedoes : Type 0
RedoRedoes =
    (s : Session) (view : ℕ) (m : Message) (v : View) (d : Document) (done : Session × Response) →
    kind_of m.number ≡ Some Redo → view_at s.views view ≡ Some v → document_at s.documents v.document ≡ Some d →
    can_redo d.history ≡ true → d.read_only ≡ false → table s view m ≡ Ok done →
    (e : Document) × (document_at done.0.documents v.document ≡ Some e) × IsRedone d e

-- in a sound session no message of this kind is refused with TooLong
abbrev pub IsNeverTooLong : Kind → Type 0
IsNeverTooLong kind =
    (s : Session) (view : ℕ) (m : Message) → IsSound s → kind_of m.number ≡ Some kind → table s view m ≡ Err TooLong → ⊥

-- undo and redo go through texts that were there before, so they are never refused with TooLong
abbrev pub UndoIsNeverTooLong : Type 0
UndoIsNeverTooLong = IsNeverTooLong Undo

abbrev pub RedoIsNeverTooLong : Type 0
RedoIsNeverTooLong = IsNeverTooLong Redo
