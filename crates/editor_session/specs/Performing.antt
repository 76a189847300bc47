-- What a plan is performed on, and what performing it does.
use Rattle.std.specs.Prelude.{◌≡◌, ◌++◌, ℕ, ℤ, List}
use Rattle.ed_types.specs.declared.message.Message.{Message}
use Rattle.ed_types.specs.Notices.{Notice}
use Rattle.ed_model.specs.declared.plan.Plan.{Plan}
use Rattle.ed_model.specs.declared.plan.Plan.TheVariants as plan
use Rattle.ed_model.specs.Session.{Session}
use Rattle.ed_model.specs.PlansFit.{IsFitPlan, IsSoundRequest}
use Rattle.ed_model.specs.Requests.{Request}
use Rattle.ed_model.specs.Performing.{response}
use Rattle.document.specs.declared.undoing.Direction.{Direction}
use Rattle.document.specs.declared.undoing.Direction.TheVariants.{Undo, Redo}
use Rattle.performing.specs.Asked.{asked, performed_at}

-- the request of a message to the view with this id, on its document
abbrev pub request_of : Session → ℕ → Message → Request
request_of s view m = record (asked s view m.text) { message = m }

-- that is a sound request, and the document has that id
pub record IsSent (s : Session) (document view : ℕ) (m : Message) : Type 0 where
  pub sound : IsSoundRequest (request_of s view m)
  pub document_id : (request_of s view m).document.id ≡ document
  pub view_id : (request_of s view m).view.id ≡ view

-- the plan can be performed for it
pub record CanPerform (s : Session) (document view : ℕ) (m : Message) (what : Plan) : Type 0 where
  pub request : IsSent s document view m
  pub fit : IsFitPlan (request_of s view m) what

-- for a message with this text it was performed: the session is that after it, the value and the bytes are the reply's, and its notes were put
-- behind those before
pub record IsPerformed (s : Session) (view : ℕ) (text : List ℕ) (what : Plan) (new : Session) (before after : List Notice) (value : ℤ) (bytes : List ℕ) : Type 0 where
  pub told : List Notice
  pub done : performed_at s view text what ≡ (new, response value bytes told)
  pub heard : after ≡ before ++ told

-- the plan of undo or redo
abbrev pub going : Direction → Plan
going Undo = plan.Undo
going Redo = plan.Redo
