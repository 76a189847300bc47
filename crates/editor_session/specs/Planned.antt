-- From a message to its plan.
use Rattle.std.specs.Prelude.{◌≡◌, ℕ, ◌&&◌, Bool, true, false, List, [], ◌∷◌, Some, Ok}
use Rattle.ed_types.specs.declared.kind.Kind.{Kind}
use Rattle.ed_types.specs.declared.message.Message.{Message}
use Rattle.ed_types.specs.Messages.{kind_of, marks_of}
use Rattle.ed_types.specs.Notices.{Notice}
use Rattle.ed_model.specs.Notes as notes
use Rattle.ed_model.specs.Session.{Session}
use Rattle.ed_model.specs.PlansFit.{IsSoundRequest}
use Rattle.ed_model.specs.Table.{table, plan_of, answered}
use Rattle.ed_model.specs.declared.plan.Plan.{Plan}
use Rattle.editor_session.specs.Performing.{CanPerform, request_of}

-- a message came this far: its view, its kind and its document are found, and the table's answer is that of its plan
pub record IsFound (s : Session) (view : ℕ) (m : Message) (kind : Kind) : Type 0 where
  pub sound : IsSoundRequest (request_of s view m)
  pub decoded : kind_of m.number ≡ Some kind
  pub view_id : (request_of s view m).view.id ≡ view
  pub answer : table s view m ≡ answered kind (request_of s view m) (plan_of kind (request_of s view m))

-- the message has this plan on the document with the id, which can be performed; and whether the view records it
pub record IsPlannedAs (s : Session) (view : ℕ) (m : Message) (document : ℕ) (what : Plan) (is_recorded : Bool) : Type 0 where
  pub kind : Kind
  pub found : IsFound s view m kind
  pub planned : plan_of kind (request_of s view m) ≡ Ok what
  pub recorded : is_recorded ≡ ((request_of s view m).view.records && (marks_of kind).r)
  pub can : CanPerform s document view m what

-- the note by which a view that records hears of the message
abbrev pub recording : ℕ → Message → Notice
recording view m =
    let n = notes.blank notes.macro_record in record n { view = view; message = m.number; w = m.w; l = m.l; text = m.text }

-- that note first, where it is recorded
abbrev pub first_note : Bool → ℕ → Message → List Notice
first_note true view m = recording view m ∷ []
first_note false view m = []
