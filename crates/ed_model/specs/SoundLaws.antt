-- Sound sessions: what holds in every session that a run reaches.
use Rattle.std.specs.Prelude.{ℕ, ◌+◌, ◌==◌, ◌≡◌, ◌≤◌, ◌<◌, true, false, List, [], ◌∷◌, length, map, filter, flat_map, reverse, slice_index, All, Some, IfOk}
use Rattle.std.specs.List.{AllByRecursion}
use Rattle.std.specs.List.Sorted.{IsStrictlyIncreasing}
use Rattle.ed_types.specs.declared.limits.Limits.{Limits}
use Rattle.ed_types.specs.declared.message.Message.{Message}
use Rattle.ed_types.specs.declared.script.Command.{Command}
use Rattle.ed_types.specs.Notices.{Response}
use Rattle.ed_model.specs.Lines.{line_starts}
use Rattle.ed_model.specs.Steps.{Step, step_bytes, edited, inverse_of}
use Rattle.ed_model.specs.InverseLaws.{Fits}
use Rattle.ed_model.specs.Rows.{Row, Marker}
use Rattle.ed_model.specs.History.{History, Transaction}
use Rattle.ed_model.specs.Folding.{is_visible}
use Rattle.ed_model.specs.Session.{Session, View, Document, new_session, document_at, view_at, text_of, lines_in, references, limit_of, is_large}
use Rattle.ed_model.specs.UndoPlans.{text_steps}
use Rattle.ed_model.specs.Performing.{Scene}
use Rattle.ed_model.specs.HistoryLaws.{SameButForSeals}
use Rattle.ed_model.specs.UndoLaws.{CanBeUndone, undos, redos}
use Rattle.ed_model.specs.Table.{table, opened, closed}
use Rattle.ed_model.specs.Run.{Running, starting, after_command, run_to}

-- the numbers rise strictly, from `low` on, and are below `high`
abbrev pub Rise : ℕ → ℕ → List ℕ → Type 0
Rise low high [] = Unit {0}
Rise low high (x ∷ xs) = (low ≤ x) × (x < high) × Rise (x + 1) high xs

-- the line starts of a text of n bytes: they rise strictly from 0, and none is greater than n
pub record AreLineStarts (n : ℕ) (starts : List ℕ) : Type 0 where
  pub first : slice_index starts 0 ≡ 0
  pub rise : IsStrictlyIncreasing starts
  pub within : All (λ s. s ≤ n) starts

-- how often the number is in the list
abbrev pub occurrences : ℕ → List ℕ → ℕ
occurrences n ns = length (filter (λ m. m == n) ns)

-- the handles of all markers
abbrev pub handles_in : List Row → List ℕ
handles_in rows = flat_map (λ (row : Row). map (λ (m : Marker). m.handle) row.markers) rows

-- The history.

-- a step that can be performed on this text, and has bytes
abbrev pub IsStepOf : List ℕ → Step → Type 0
IsStepOf text step = Fits step text × (0 < length (step_bytes step))

-- such a step after which the text is within the limit
abbrev pub IsStepWithin : ℕ → List ℕ → Step → Type 0
IsStepWithin limit text step = IsStepOf text step × (length (edited step text) ≤ limit)

-- each of the steps has the property, on the text that the steps before it make
abbrev pub InTurn : (List ℕ → Step → Type 0) → List ℕ → List Step → Type 0
InTurn IsSo text [] = Unit {0}
InTurn IsSo text (step ∷ steps) = IsSo text step × InTurn IsSo (edited step text) steps

-- steps that can be performed on this text, one after another
abbrev pub AreStepsOf : List ℕ → List Step → Type 0
AreStepsOf text steps = InTurn IsStepOf text steps

-- such steps after each of which the text is within the limit
abbrev pub AreStepsWithin : ℕ → List ℕ → List Step → Type 0
AreStepsWithin limit text steps = InTurn (IsStepWithin limit) text steps

-- the steps that undo all the past, the latest first
abbrev pub undo_path : List Transaction → List Step
undo_path past = map inverse_of (text_steps (flat_map (λ (t : Transaction). t.changes) past))

-- the steps that redo all the future, the next first
abbrev pub redo_path : List Transaction → List Step
redo_path future = text_steps (flat_map (λ (t : Transaction). reverse t.changes) future)

-- From this text all the past can be undone and all the future redone, with each text on the way within the limit. While undo is
-- not collected, there is no past and no future.
pub record FitsText (limit : ℕ) (text : List ℕ) (h : History) : Type 0 where
  pub past : AreStepsWithin limit text (undo_path h.past)
  pub future : AreStepsWithin limit text (redo_path h.future)
  pub kept : h.collecting ≡ false → (h.past ≡ []) × (h.future ≡ [])

-- Documents, views and sessions.

-- A sound document: its line starts rise from 0, and none is past its end; it has as many rows as lines; its indicator lists are
-- as long as its text; end styled is in the text; the text is within its limit; handles are distinct and below the next one; it
-- has a reference; its history fits its text.
pub record IsSoundDocument (limits : Limits) (d : Document) : Type 0 where
  pub line_starts : AreLineStarts (length (text_of d)) (line_starts d.line_end_types (text_of d))
  pub rows : length d.rows ≡ lines_in d
  pub indicator_count : length d.indicators ≡ 32
  pub indicators : AllByRecursion (λ (values : List ℕ). length values ≡ length d.cells) d.indicators
  pub styled : d.end_styled ≤ length d.cells
  pub bounded : length d.cells ≤ limit_of limits d
  pub handles_differ : (handle : ℕ) → occurrences handle (handles_in d.rows) ≤ 1
  pub handles_below : (handle : ℕ) → d.next_handle ≤ handle → occurrences handle (handles_in d.rows) ≡ 0
  pub referenced : 0 < references d
  pub history : FitsText (limit_of limits d) (text_of d) d.history

-- A view on its document: anchor, caret and target are in the text; it has as many flags as the document has lines, and line 0 is
-- visible; its current indicator is from 0 to 31; the document lists it once.
pub record StandsOn (d : Document) (v : View) : Type 0 where
  pub anchor : v.anchor ≤ length d.cells
  pub caret : v.caret ≤ length d.cells
  pub target_start : v.target_start ≤ length d.cells
  pub target_end : v.target_end ≤ length d.cells
  pub lines : length v.flags ≡ lines_in d
  pub first_line : is_visible v.flags 0 ≡ true
  pub indicator : v.indicator < 32
  pub listed : occurrences v.id d.views ≡ 1

-- a view whose document exists
pub record IsSoundView (documents : List Document) (v : View) : Type 0 where
  pub document : Document
  pub found : document_at documents v.document ≡ Some document
  pub stands : StandsOn document v

-- the view with this id exists, and is attached to this document
abbrev pub IsViewOn : List View → ℕ → ℕ → Type 0
IsViewOn views document id = (v : View) × (view_at views id ≡ Some v) × (v.document ≡ document)

-- a document lists only views that are attached to it
abbrev pub ListsItsViews : List View → Document → Type 0
ListsItsViews views d = AllByRecursion (IsViewOn views d.id) d.views

-- A sound session: ids rise, and are below the next ones; documents and views are sound.
pub record IsSound (s : Session) : Type 0 where
  pub document_ids : Rise 0 s.next_document (map (λ (d : Document). d.id) s.documents)
  pub view_ids : Rise 0 s.next_view (map (λ (v : View). v.id) s.views)
  pub documents : AllByRecursion (IsSoundDocument s.limits) s.documents
  pub views : AllByRecursion (IsSoundView s.documents) s.views
  pub lists : AllByRecursion (ListsItsViews s.views) s.documents

-- Laws.

abbrev pub NewSessionIsSound : Type 0
NewSessionIsSound = (limits : Limits) → IsSound (new_session limits)

-- a message that is answered leaves a sound session sound
abbrev pub MessageKeepsSound : Type 0
MessageKeepsSound = (s : Session) (view : ℕ) (m : Message) → IsSound s → IfOk (table s view m) (λ (done : Session × Response). IsSound done.0)

abbrev pub OpeningKeepsSound : Type 0
OpeningKeepsSound = (s : Session) → IsSound s → IfOk (opened s) (λ (done : Session × ℕ). IsSound done.0)

abbrev pub ClosingKeepsSound : Type 0
ClosingKeepsSound = (s : Session) (view : ℕ) → IsSound s → IfOk (closed s view) IsSound

abbrev pub CommandKeepsSound : Type 0
CommandKeepsSound = (files : List (List ℕ)) (c : Command) (s : Running) → IsSound s.session → IsSound (after_command files c s).0.session

-- every state that a run reaches from a sound session is sound
abbrev pub IsSoundInEveryStateFrom : Type 0
IsSoundInEveryStateFrom = (files : List (List ℕ)) (commands : List Command) (s : Running) → IsSound s.session → IsSound (run_to files commands s).session

-- every state that a run reaches from a new session, with any limits, is sound
abbrev pub IsSoundInEveryState : Type 0
IsSoundInEveryState = (files : List (List ℕ)) (commands : List Command) (limits : Limits) → IsSound (run_to files commands (starting (new_session limits))).session

-- in a sound document all transactions of the past can be undone, one after another
abbrev pub ThePastCanBeUndone : Type 0
ThePastCanBeUndone = (limits : Limits) (d : Document) (k : ℕ) → IsSoundDocument limits d → k ≤ length d.history.past → CanBeUndone k d.history.past (text_of d)

-- as many redos as undos restore the text, and the history except for seals
abbrev pub UndoneThenRedoneIsTheSame : Type 0
UndoneThenRedoneIsTheSame =
    (limits : Limits) (scene : Scene) (k : ℕ) → IsSoundDocument limits scene.document → k ≤ length scene.document.history.past →
    (text_of (redos k (undos k scene)).document ≡ text_of scene.document) × SameButForSeals scene.document.history (redos k (undos k scene)).document.history
