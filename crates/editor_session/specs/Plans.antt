-- Plans that need no memory.
use Rattle.std.specs.Prelude.{◌≡◌, ℕ, ◌==◌, ◌&&◌, not, Bool, true, false, List, Option, Some, None, Ok, Err}
use Rattle.ed_types.specs.declared.kind.Kind.{Kind}
use Rattle.ed_types.specs.declared.message.Message.{Message}
use Rattle.ed_types.specs.Messages.{kind_of, marks_of}
use Rattle.ed_model.specs.declared.plan.Follow.{Follow}
use Rattle.ed_model.specs.declared.plan.Follow.TheVariants as follow
use Rattle.ed_model.specs.declared.plan.ViewChange.{ViewChange}
use Rattle.ed_model.specs.declared.plan.ViewChange.TheVariants as view_change
use Rattle.ed_model.specs.declared.plan.Plan.{Plan}
use Rattle.ed_model.specs.declared.plan.Plan.TheVariants as plan
use Rattle.ed_model.specs.Rows.{Flags}
use Rattle.ed_model.specs.Folding.{is_visible}
use Rattle.ed_model.specs.Requests.{Request, Planned}
use Rattle.ed_model.specs.Session.{Session, View, Document, view_at, document_at, watching}
use Rattle.ed_model.specs.Edits.{steps_of, has_steps}
use Rattle.ed_model.specs.Table.{request, plan_of}
use Rattle.performing.specs.ChangeNeeds.{needs_room, notes_of_change}
use Rattle.performing.specs.Folding.{takes_fold_room}
use Rattle.performing.specs.SessionMemory.{takes_memory}

abbrev pub takes_nothing_along : Follow → Bool
takes_nothing_along (follow.Clipboard start count) = count == 0
takes_nothing_along other = true

-- a change of a view whose lines have these flags: a line that is visible already is made visible without any
abbrev pub needs_no_fold_room : List Flags → ViewChange → Bool
needs_no_fold_room flags (view_change.EnsureVisible line) = is_visible flags line
needs_no_fold_room flags other = not (takes_fold_room other)

-- an answer needs none, nor does a text without bytes, an edit without steps, or a change that needs no room and tells nothing
abbrev pub needs_no_memory : Request → Plan → Bool
needs_no_memory r (plan.Answer value) = true
needs_no_memory r (plan.HandOut value start count) = count == 0
needs_no_memory r (plan.HandOutStyled start count) = count == 0
needs_no_memory r (plan.Edit change value after) = not (has_steps (steps_of r change)) && takes_nothing_along after
needs_no_memory r (plan.ChangeDocument change value) = not (needs_room change) && (notes_of_change change r.document.history (watching r.session.views r.document) == 0)
needs_no_memory r (plan.ChangeView change value) = needs_no_fold_room r.view.flags change
needs_no_memory r (plan.ChangeSession change value) = not (takes_memory change)
needs_no_memory r other = false

abbrev pub planned_without_memory : Request → Planned → Bool
planned_without_memory r (Ok what) = needs_no_memory r what
planned_without_memory r (Err refusal) = true

-- a request whose plan needs none, and that is not recorded
abbrev pub is_free_request : Kind → Request → Bool
is_free_request kind r = planned_without_memory r (plan_of kind r) && not (r.view.records && (marks_of kind).r)

abbrev pub is_free_from_document : Session → View → Kind → Message → Option Document → Bool
is_free_from_document s v kind m None = true
is_free_from_document s v kind m (Some d) = is_free_request kind (request s v d m)

abbrev pub is_free_from_kind : Session → View → Message → Option Kind → Bool
is_free_from_kind s v m None = true
is_free_from_kind s v m (Some kind) = is_free_from_document s v kind m (document_at s.documents v.document)

abbrev pub is_free_from_view : Session → Message → Option View → Bool
is_free_from_view s m None = true
is_free_from_view s m (Some v) = is_free_from_kind s v m (kind_of m.number)

-- a message to a view that needs no memory: it is refused by the table, or its plan needs none and it is not recorded
abbrev pub is_free : Session → ℕ → Message → Bool
is_free s view m = is_free_from_view s m (view_at s.views view)

-- whether the message is marked as taking no memory
abbrev pub is_marked_free : Option Kind → Bool
is_marked_free None = true
is_marked_free (Some kind) = (marks_of kind).n

-- whether the view is to hear of the message
abbrev pub is_recorded_by : Option View → Option Kind → Bool
is_recorded_by (Some v) (Some kind) = v.records && (marks_of kind).r
is_recorded_by _ _ = false

abbrev pub MarkedMessagesAreFree : Type 0
MarkedMessagesAreFree =
    (s : Session) (view : ℕ) (m : Message) → is_marked_free (kind_of m.number) ≡ true → is_recorded_by (view_at s.views view) (kind_of m.number) ≡ false → is_free s view m ≡ true
