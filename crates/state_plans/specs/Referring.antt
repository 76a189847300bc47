-- A reference to the document that a message names. No public clause cites these definitions.
use Rattle.std.specs.Prelude.{◌≡◌, ℕ, Err}
use Rattle.ed_types.specs.declared.refusal.Refusal.{Refusal}
use Rattle.ed_model.specs.declared.plan.SessionChange.{SessionChange}
use Rattle.ed_model.specs.Requests.{Request, Planned, change_session}
use Rattle.ed_model.specs.SessionPlans.{document_named, with_reference}

-- the plan that makes this change of the document that `l` names, which gets one more reference
abbrev pub referring : Request → (ℕ → SessionChange) → Planned
referring r change = with_reference r (document_named r.session r.message.l) change

-- `l` names the document with this id, and it may get one more reference
abbrev pub IsReferredTo : Request → ℕ → Type 0
IsReferredTo r id = (change : ℕ → SessionChange) → referring r change ≡ change_session (change id)

-- one more reference to the document that `l` names is refused
abbrev pub IsRefusedReference : Request → Refusal → Type 0
IsRefusedReference r refusal = (change : ℕ → SessionChange) → referring r change ≡ Err refusal
