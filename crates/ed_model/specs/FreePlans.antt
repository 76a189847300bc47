-- Plans that allocate no memory: the plan of every message marked N is one.
use Rattle.std.specs.Prelude.{◌≡◌, true, Ok, Err}
use Rattle.ed_types.specs.declared.kind.Kind.{Kind}
use Rattle.ed_types.specs.Messages.{marks_of}
use Rattle.ed_model.specs.declared.plan.DocumentChange.{DocumentChange}
use Rattle.ed_model.specs.declared.plan.DocumentChange.TheVariants as document_change
use Rattle.ed_model.specs.declared.plan.ViewChange.{ViewChange}
use Rattle.ed_model.specs.declared.plan.ViewChange.TheVariants as view_change
use Rattle.ed_model.specs.declared.plan.SessionChange.{SessionChange}
use Rattle.ed_model.specs.declared.plan.SessionChange.TheVariants as session_change
use Rattle.ed_model.specs.declared.plan.Plan.{Plan}
use Rattle.ed_model.specs.declared.plan.Plan.TheVariants as plan
use Rattle.ed_model.specs.Requests.{Request, Planned}
use Rattle.ed_model.specs.Table.{plan_of}

-- a change of a document that adds nothing to it and has no notes
abbrev pub IsFreeDocumentChange : DocumentChange → Type 0
IsFreeDocumentChange (document_change.SetReadOnly on) = Unit {0}
IsFreeDocumentChange (document_change.SetLineEnd to) = Unit {0}
IsFreeDocumentChange document_change.BeginGroup = Unit {0}
IsFreeDocumentChange document_change.EndGroup = Unit {0}
IsFreeDocumentChange document_change.ForgetHistory = Unit {0}
IsFreeDocumentChange (document_change.CollectUndo on) = Unit {0}
IsFreeDocumentChange (document_change.SetEndStyled place) = Unit {0}
IsFreeDocumentChange other = ⊥

-- a change of a view, except one of the flags of its lines
abbrev pub IsFreeViewChange : ViewChange → Type 0
IsFreeViewChange (view_change.ShowLines first past) = ⊥
IsFreeViewChange (view_change.HideLines first past) = ⊥
IsFreeViewChange (view_change.SetExpanded line on) = ⊥
IsFreeViewChange (view_change.Contract line) = ⊥
IsFreeViewChange (view_change.Expand line) = ⊥
IsFreeViewChange (view_change.EnsureVisible line) = ⊥
IsFreeViewChange other = Unit {0}

-- a change of the number of references that callers hold
abbrev pub IsFreeSessionChange : SessionChange → Type 0
IsFreeSessionChange (session_change.AddReference document) = Unit {0}
IsFreeSessionChange (session_change.Release document) = Unit {0}
IsFreeSessionChange other = ⊥

-- a plan that only answers, or makes such a change
abbrev pub IsFreePlan : Plan → Type 0
IsFreePlan (plan.Answer value) = Unit {0}
IsFreePlan (plan.ChangeDocument change value) = IsFreeDocumentChange change
IsFreePlan (plan.ChangeView change value) = IsFreeViewChange change
IsFreePlan (plan.ChangeSession change value) = IsFreeSessionChange change
IsFreePlan other = ⊥

-- such a plan, or a refusal
abbrev pub IsFreePlanned : Planned → Type 0
IsFreePlanned (Err refusal) = Unit {0}
IsFreePlanned (Ok what) = IsFreePlan what

-- the plan of each message marked N is one of these
abbrev pub MarkedPlansAreFree : Type 0
MarkedPlansAreFree = (kind : Kind) (r : Request) → (marks_of kind).n ≡ true → IsFreePlanned (plan_of kind r)
