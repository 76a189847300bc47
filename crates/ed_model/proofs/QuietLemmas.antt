-- Plans of queries and of messages marked N, and what performing them leaves
-- unchanged. Facts on plans are shown for each kind of message.
use Rattle.ed_model.proofs.Names.{◌≡◌, ℕ, nat_lt, Bool, true, false, cond, refl, Option, Some, None, Ok, Err, Kind, Refusal, TooMany, NoSuchDocument, marks_of, Plan, Document, references, Request, Planned, size, with_argument, with_line, change_session, found_target, with_reference, release_of, document_named, plan_of, performed_for}
use Rattle.ed_types.specs.declared.kind.Kind.TheVariants as kinds
use Rattle.ed_model.specs.declared.plan.SessionChange.TheVariants as session_change
use Rattle.ed_model.specs.declared.plan.Plan.TheVariants as plan
use Rattle.ed_model.specs.FreePlans.{IsFreePlanned, MarkedPlansAreFree}

-- Queries.

-- a plan that only answers or hands out a text
abbrev pub IsQuietPlan : Plan → Type 0
IsQuietPlan (plan.Answer value) = Unit {0}
IsQuietPlan (plan.HandOut value start count) = Unit {0}
IsQuietPlan (plan.HandOutStyled start count) = Unit {0}
IsQuietPlan (plan.Edit edit value follow) = ⊥
IsQuietPlan plan.Attempt = ⊥
IsQuietPlan plan.Undo = ⊥
IsQuietPlan plan.Redo = ⊥
IsQuietPlan (plan.ChangeDocument change value) = ⊥
IsQuietPlan (plan.ChangeView change value) = ⊥
IsQuietPlan (plan.ChangeSession change value) = ⊥

-- such a plan, or a refusal
abbrev pub IsQuiet : Planned → Type 0
IsQuiet (Err refusal) = Unit {0}
IsQuiet (Ok p) = IsQuietPlan p

-- such a plan leaves the session unchanged
pub quiet_plan_leaves : (r : Request) (p : Plan) → IsQuietPlan p → (performed_for r p).0 ≡ r.session
quiet_plan_leaves r (plan.Answer value) h = refl
quiet_plan_leaves r (plan.HandOut value start count) h = refl
quiet_plan_leaves r (plan.HandOutStyled start count) h = refl
quiet_plan_leaves r (plan.Edit edit value follow) h = absurd h
quiet_plan_leaves r plan.Attempt h = absurd h
quiet_plan_leaves r plan.Undo h = absurd h
quiet_plan_leaves r plan.Redo h = absurd h
quiet_plan_leaves r (plan.ChangeDocument change value) h = absurd h
quiet_plan_leaves r (plan.ChangeView change value) h = absurd h
quiet_plan_leaves r (plan.ChangeSession change value) h = absurd h

-- If each refusal has P, a plan with an argument has P if it has P for each argument in range.
module _ (P : Planned → Type 0) (refused : (e : Refusal) → P (Err e)) where
  pub with_argument_keeps : {A : Type 0} (a : Option A) (act : A → Planned) → ((x : A) → P (act x)) → P (with_argument a act)
  with_argument_keeps None act h = refused _
  with_argument_keeps (Some x) act h = h x

  pub with_line_keeps : (line : Option ℕ) (bad : Planned) (act : ℕ → Planned) → P bad → ((n : ℕ) → P (act n)) → P (with_line line bad act)
  with_line_keeps None bad act b h = b
  with_line_keeps (Some n) bad act b h = h n

  pub either_keeps : (b : Bool) (x y : Planned) → P x → P y → P (cond b x y)
  either_keeps true x y hx hy = hx
  either_keeps false x y hx hy = hy

-- The plan of a query answers, hands out, or is a refusal.
refusal_is_quiet : (e : Refusal) → IsQuiet (Err e)
refusal_is_quiet e = tt

quiet_with_argument : {A : Type 0} (a : Option A) (act : A → Planned) → ((x : A) → IsQuiet (act x)) → IsQuiet (with_argument a act)
quiet_with_argument a act h = with_argument_keeps IsQuiet refusal_is_quiet a act h

quiet_with_line : (line : Option ℕ) (bad : Planned) (act : ℕ → Planned) → IsQuiet bad → ((n : ℕ) → IsQuiet (act n)) → IsQuiet (with_line line bad act)
quiet_with_line line bad act b h = with_line_keeps IsQuiet refusal_is_quiet line bad act b h

ruleset quiet_arguments = (quiet_with_argument, quiet_with_line)

-- the plan of every query is quiet
pub query_is_quiet : (kind : Kind) (r : Request) → (marks_of kind).q ≡ true → IsQuiet (plan_of kind r)
query_is_quiet kinds.AddText r h = cc
query_is_quiet _ r h = first_of (cc, search quiet_arguments)

-- Messages marked N.

refusal_is_free : (e : Refusal) → IsFreePlanned (Err e)
refusal_is_free e = tt

free_with_argument : {A : Type 0} (a : Option A) (act : A → Planned) → ((x : A) → IsFreePlanned (act x)) → IsFreePlanned (with_argument a act)
free_with_argument a act h = with_argument_keeps IsFreePlanned refusal_is_free a act h

free_with_line : (line : Option ℕ) (bad : Planned) (act : ℕ → Planned) → IsFreePlanned bad → ((n : ℕ) → IsFreePlanned (act n)) → IsFreePlanned (with_line line bad act)
free_with_line line bad act b h = with_line_keeps IsFreePlanned refusal_is_free line bad act b h

free_either : (b : Bool) (x y : Planned) → IsFreePlanned x → IsFreePlanned y → IsFreePlanned (cond b x y)
free_either b x y hx hy = either_keeps IsFreePlanned refusal_is_free b x y hx hy

found_target_is_free : (size : ℕ) (found : Option ℕ) → IsFreePlanned (found_target size found)
found_target_is_free size None = tt
found_target_is_free size (Some place) = tt

with_reference_is_free : (r : Request) (d : Option Document) → IsFreePlanned (with_reference r d session_change.AddReference)
with_reference_is_free r None = tt
with_reference_is_free r (Some d) = either_keeps IsFreePlanned refusal_is_free (nat_lt (references d) r.session.limits.refs) (change_session (session_change.AddReference d.id)) (Err TooMany) tt tt

release_is_free : (d : Option Document) → IsFreePlanned (release_of d)
release_is_free None = tt
release_is_free (Some d) = either_keeps IsFreePlanned refusal_is_free (nat_lt 0 d.held_by_callers) (change_session (session_change.Release d.id)) (Err NoSuchDocument) tt tt

ruleset free_arguments = (free_with_argument, free_with_line, free_either, found_target_is_free)

-- the plan of every message marked N is free
pub message_without_memory_is_free : MarkedPlansAreFree
message_without_memory_is_free kinds.AddRefDocument r h = with_reference_is_free r (document_named r.session r.message.l)
message_without_memory_is_free kinds.ReleaseDocument r h = release_is_free (document_named r.session r.message.l)
message_without_memory_is_free _ r h = first_of (cc, search free_arguments)
