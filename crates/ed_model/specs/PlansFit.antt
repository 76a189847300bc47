-- Fit plans: each number of a plan is in range for its request.
use Rattle.std.specs.Prelude.{◌≢◌, ℕ, ◌+◌, ◌-◌, ◌^◌, ◌≡◌, ◌≤◌, ◌<◌, true, ℤ, pos, negsuc, int_le, List, length, Option, Some, None, Ok, Err}
use Rattle.ed_types.specs.declared.kind.Kind.{Kind}
use Rattle.ed_types.specs.declared.refusal.Refusal.TheVariants.{OutOfMemory}
use Rattle.ed_model.specs.declared.plan.Source.{Source}
use Rattle.ed_model.specs.declared.plan.Source.TheVariants as source
use Rattle.ed_model.specs.declared.plan.Edit.{Edit}
use Rattle.ed_model.specs.declared.plan.Edit.TheVariants as edit
use Rattle.ed_model.specs.declared.plan.Follow.{Follow}
use Rattle.ed_model.specs.declared.plan.Follow.TheVariants as follow
use Rattle.ed_model.specs.declared.plan.DocumentChange.{DocumentChange}
use Rattle.ed_model.specs.declared.plan.DocumentChange.TheVariants as document_change
use Rattle.ed_model.specs.declared.plan.ViewChange.{ViewChange}
use Rattle.ed_model.specs.declared.plan.ViewChange.TheVariants as view_change
use Rattle.ed_model.specs.declared.plan.SessionChange.{SessionChange}
use Rattle.ed_model.specs.declared.plan.SessionChange.TheVariants as session_change
use Rattle.ed_model.specs.declared.plan.Plan.{Plan}
use Rattle.ed_model.specs.declared.plan.Plan.TheVariants as plan
use Rattle.ed_model.specs.Steps.{Step}
use Rattle.ed_model.specs.LineEnds.{after_steps}
use Rattle.ed_model.specs.History.{undo_changes, redo_changes, can_undo, can_redo}
use Rattle.ed_model.specs.Session.{Document, view_at, document_at, references, limit_of}
use Rattle.ed_model.specs.Requests.{Request, Planned, text, size, line_total}
use Rattle.ed_model.specs.Edits.{steps_of, stays_within}
use Rattle.ed_model.specs.UndoPlans.{text_steps}
use Rattle.ed_model.specs.LinePlans.{numbers_in}
use Rattle.ed_model.specs.Table.{plan_of, performed_for}
use Rattle.ed_model.specs.SoundLaws.{IsSound, AreStepsOf}

-- a request of a sound session: its view is the one with that id in the session, and its document is that view's
pub record IsSoundRequest (r : Request) : Type 0 where
  pub sound : IsSound r.session
  pub view : view_at r.session.views r.view.id ≡ Some r.view
  pub document : document_at r.session.documents r.view.document ≡ Some r.document

abbrev pub IsFitSource : Request → Source → Type 0
IsFitSource r (source.MessageText count) = count ≤ length r.message.text
IsFitSource r other = Unit {0}

abbrev pub IsFitEdit : Request → Edit → Type 0
IsFitEdit r (edit.Replace start count from) = (start + count ≤ size r) × IsFitSource r from
IsFitEdit r (edit.ConvertLineEnds to) = Unit {0}

-- the places in what follows an edit are in the text after it; a range taken to the clipboard is in the text before it
abbrev pub IsFitFollow : Request → ℕ → Follow → Type 0
IsFitFollow r after follow.Nothing = Unit {0}
IsFitFollow r after (follow.Caret place) = place ≤ after
IsFitFollow r after (follow.Target start past) = (start ≤ after) × (past ≤ after)
IsFitFollow r after (follow.Clipboard start count) = start + count ≤ size r

-- a marker's number, or None for all markers
abbrev pub IsMarkerNumber : Option ℕ → Type 0
IsMarkerNumber None = Unit {0}
IsMarkerNumber (Some number) = number ≤ 31

-- a signed 32-bit number
abbrev pub IsLineState : ℤ → Type 0
IsLineState state = (int_le (negsuc (2 ^ 31 - 1)) state ≡ true) × (int_le state (pos (2 ^ 31 - 1)) ≡ true)

abbrev pub IsFitDocumentChange : Request → DocumentChange → Type 0
IsFitDocumentChange r document_change.BeginGroup = r.document.history.depth < r.session.limits.depth
IsFitDocumentChange r (document_change.AddMarker line number) = (line < line_total r) × (number ≤ 31) × (r.document.next_handle + 1 ≤ r.session.limits.handles + 1)
IsFitDocumentChange r (document_change.AddMarkers line mask) = (line < line_total r) × (mask < 2 ^ 32) × (r.document.next_handle + length (numbers_in mask) ≤ r.session.limits.handles + 1)
IsFitDocumentChange r (document_change.DeleteMarker line number) = (line < line_total r) × IsMarkerNumber number
IsFitDocumentChange r (document_change.DeleteMarkers number) = IsMarkerNumber number
IsFitDocumentChange r (document_change.DeleteHandle handle) = handle < r.document.next_handle
IsFitDocumentChange r (document_change.SetLevel line level) = (line < line_total r) × (level < 2 ^ 31)
IsFitDocumentChange r (document_change.SetState line state) = (line < line_total r) × IsLineState state
IsFitDocumentChange r (document_change.SetEndStyled place) = place ≤ size r
IsFitDocumentChange r (document_change.StyleRun count style) = (r.document.end_styled + count ≤ size r) × (style ≤ 255)
IsFitDocumentChange r (document_change.StyleBytes count) = (r.document.end_styled + count ≤ size r) × (count ≤ length r.message.text)
IsFitDocumentChange r (document_change.NeedStyle start past) = (start ≤ past) × (past ≤ size r)
IsFitDocumentChange r (document_change.FillIndicator indicator start count value) = (indicator < 32) × (start + count ≤ size r)
IsFitDocumentChange r other = Unit {0}

abbrev pub IsFitViewChange : Request → ViewChange → Type 0
IsFitViewChange r (view_change.Select anchor caret) = (anchor ≤ size r) × (caret ≤ size r)
IsFitViewChange r (view_change.SetTarget start past) = (start ≤ size r) × (past ≤ size r)
IsFitViewChange r (view_change.SetMask mask) = mask ≤ 0x7FFFFF
IsFitViewChange r (view_change.SetIndicator indicator) = indicator < 32
IsFitViewChange r (view_change.SetIndicatorValue value) = (0 < value) × (value < 2 ^ 31)
IsFitViewChange r (view_change.ShowLines first past) = (first ≤ line_total r) × (past ≤ line_total r)
IsFitViewChange r (view_change.HideLines first past) = (first ≤ line_total r) × (past ≤ line_total r)
IsFitViewChange r (view_change.SetExpanded line on) = line < line_total r
IsFitViewChange r (view_change.Contract line) = line < line_total r
IsFitViewChange r (view_change.Expand line) = line < line_total r
IsFitViewChange r (view_change.EnsureVisible line) = line < line_total r
IsFitViewChange r other = Unit {0}

abbrev pub IsFitSessionChange : Request → SessionChange → Type 0
IsFitSessionChange r (session_change.Copy start count) = start + count ≤ size r
IsFitSessionChange r (session_change.CopyText count) = count ≤ length r.message.text
IsFitSessionChange r (session_change.Attach id) = (d : Document) × (document_at r.session.documents id ≡ Some d) × (references d < r.session.limits.refs)
IsFitSessionChange r session_change.AttachNew = r.session.next_document ≤ r.session.limits.ids
IsFitSessionChange r (session_change.Create options) = r.session.next_document ≤ r.session.limits.ids
IsFitSessionChange r (session_change.AddReference id) = (d : Document) × (document_at r.session.documents id ≡ Some d) × (references d < r.session.limits.refs)
IsFitSessionChange r (session_change.Release id) = (d : Document) × (document_at r.session.documents id ≡ Some d) × (0 < d.held_by_callers)

-- the text is within its limit after each step
abbrev pub IsRoomFor : Request → List Step → Type 0
IsRoomFor r steps = stays_within (limit_of r.session.limits r.document) (size r) steps ≡ true

abbrev pub IsFitPlan : Request → Plan → Type 0
IsFitPlan r (plan.HandOut value start count) = start + count ≤ size r
IsFitPlan r (plan.HandOutStyled start count) = start + count ≤ size r
IsFitPlan r (plan.Edit change value after) =
    IsFitEdit r change × IsFitFollow r (length (after_steps (steps_of r change) (text r))) after × IsRoomFor r (steps_of r change)
IsFitPlan r plan.Undo = (can_undo r.document.history ≡ true) × IsRoomFor r (text_steps (undo_changes r.document.history))
IsFitPlan r plan.Redo = (can_redo r.document.history ≡ true) × IsRoomFor r (text_steps (redo_changes r.document.history))
IsFitPlan r (plan.ChangeDocument change value) = IsFitDocumentChange r change
IsFitPlan r (plan.ChangeView change value) = IsFitViewChange r change
IsFitPlan r (plan.ChangeSession change value) = IsFitSessionChange r change
IsFitPlan r other = Unit {0}

-- a plan that is no refusal is fit, and no refusal is OutOfMemory
abbrev pub IsFitPlanned : Request → Planned → Type 0
IsFitPlanned r (Ok what) = IsFitPlan r what
IsFitPlanned r (Err refusal) = refusal ≢ OutOfMemory

-- in a sound session the plan of each message is fit
abbrev pub PlansFit : Type 0
PlansFit = (kind : Kind) (r : Request) → IsSoundRequest r → IsFitPlanned r (plan_of kind r)

-- The steps of a fit plan can be performed one after another.

abbrev pub EditStepsFit : Type 0
EditStepsFit = (r : Request) (change : Edit) → IsFitEdit r change → AreStepsOf (text r) (steps_of r change)

abbrev pub UndoStepsFit : Type 0
UndoStepsFit = (r : Request) → IsSoundRequest r → AreStepsOf (text r) (text_steps (undo_changes r.document.history))

abbrev pub RedoStepsFit : Type 0
RedoStepsFit = (r : Request) → IsSoundRequest r → AreStepsOf (text r) (text_steps (redo_changes r.document.history))

-- a fit plan leaves a sound session sound
abbrev pub PlansKeepSound : Type 0
PlansKeepSound = (r : Request) (what : Plan) → IsSoundRequest r → IsFitPlan r what → IsSound (performed_for r what).0
