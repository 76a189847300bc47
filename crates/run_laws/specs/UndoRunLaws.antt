-- UNDO and REDO between other commands: UNDO messages lead back to earlier states of the run, and REDO messages forward again, if
-- the commands between do not concern the document.
use Rattle.std.specs.Prelude.{◌≡◌, ◌⊎◌, ℕ, zero, suc, ◌-◌, ◌≤◌, true, false, List, [], ◌∷◌, length, Some}
use Rattle.ed_types.specs.declared.kind.Kind.{Kind}
use Rattle.ed_types.specs.declared.kind.Kind.TheVariants.{Undo, Redo}
use Rattle.ed_types.specs.declared.limits.Limits.{Limits}
use Rattle.ed_types.specs.declared.script.Command.{Command}
use Rattle.ed_types.specs.declared.script.Command.TheVariants.{OpenView, CloseView, LoadFile, SendMessage, Expect}
use Rattle.ed_types.specs.Messages.{kind_of, marks_of}
use Rattle.ed_model.specs.Session.{Session, View, Document, view_at, document_at, text_of, new_session}
use Rattle.ed_model.specs.EarlierTextLaws.{latest_with}
use Rattle.ed_model.specs.RunUndoLaws.{sessions_of, states_of}
use Rattle.ed_model.specs.Run.{Running, starting, after_command, run_to}

-- the command sends a message of this kind to a view of the document
abbrev pub Acts : Kind → ℕ → Session → Command → Type 0
Acts kind id s (SendMessage view m) = (kind_of m.number ≡ Some kind) × ((v : View) × (view_at s.views view ≡ Some v) × (v.document ≡ id))
Acts kind id s OpenView = ⊥
Acts kind id s (CloseView view) = ⊥
Acts kind id s (LoadFile view file) = ⊥
Acts kind id s (Expect value) = ⊥

-- the view is not on the document
abbrev pub GoesToOthers : ℕ → Session → ℕ → Type 0
GoesToOthers id s view = (v : View) → view_at s.views view ≡ Some v → v.document ≡ id → ⊥

-- the command does not concern the document: it goes to a view of another document, is a query or an `expect`, or opens or closes a view
abbrev pub GoesAside : ℕ → Session → Command → Type 0
GoesAside id s (SendMessage view m) = GoesToOthers id s view ⊎ ((kind : Kind) × (kind_of m.number ≡ Some kind) × ((marks_of kind).q ≡ true))
GoesAside id s (LoadFile view file) = GoesToOthers id s view
GoesAside id s OpenView = Unit {0}
GoesAside id s (CloseView view) = Unit {0}
GoesAside id s (Expect value) = Unit {0}

-- `count` of the commands send a message of this kind to a view of the document, and the others do not concern it
abbrev pub Act : List (List ℕ) → Kind → ℕ → ℕ → List Command → Running → Type 0
Act files kind id zero [] s = Unit {0}
Act files kind id (suc k) [] s = ⊥
Act files kind id zero (c ∷ cs) s = GoesAside id s.session c × Act files kind id zero cs (after_command files c s).0
Act files kind id (suc k) (c ∷ cs) s =
    (Acts kind id s.session c × Act files kind id k cs (after_command files c s).0)
    ⊎ (GoesAside id s.session c × Act files kind id (suc k) cs (after_command files c s).0)

-- After a run from a new session, a document is not read-only, no group is open, and its past has k transactions or more. Then
-- come commands of which k send UNDO to views of it, and the others do not concern it. If the document still exists, it has the
-- text of the latest state of the run before them in which its past had k transactions fewer. After further commands of which k
-- send REDO in the same way, it has the text that it had at first.
abbrev pub UndoGoesBackOverCommands : Type 0
UndoGoesBackOverCommands =
    (files : List (List ℕ)) (limits : Limits) (before undos redos : List Command) (id k : ℕ) (d : Document) →
    let start = starting (new_session limits) in
    let s = run_to files before start in
    let t = run_to files undos s in
    let u = run_to files redos t in
    document_at s.session.documents id ≡ Some d → d.read_only ≡ false → d.history.depth ≡ 0 → k ≤ length d.history.past →
    Act files Undo id k undos s →
    ((e : Document) → document_at t.session.documents id ≡ Some e → latest_with (length d.history.past - k) (states_of id (sessions_of files before start [])) ≡ Some (text_of e))
    × (Act files Redo id k redos t → (e : Document) → document_at u.session.documents id ≡ Some e → text_of e ≡ text_of d)
