-- What the plan of each kind of message may do, and what it depends on.
use Rattle.run_laws.proofs.Names.{◌≡◌, ℕ, Bool, true, false, cond, List, refl, ap, Option, Some, None, Ok, Err, nat_lt, ◌&&◌, Kind, OutOfMemory, NoSuchDocument, TooMany, Follow, SessionChange, Plan, View, Document, references, Request, Planned, with_argument, with_line, change_session, fold_by, marks_of, converted, converted_if, plan_of, is_copying, is_about_documents, is_about_recording, is_saving}
use Rattle.ed_types.specs.declared.kind.Kind.TheVariants as kinds
use Rattle.ed_model.specs.declared.plan.Follow.TheVariants as follow
use Rattle.ed_model.specs.declared.plan.DocumentChange.TheVariants as document_change
use Rattle.ed_model.specs.declared.plan.ViewChange.TheVariants as view_change
use Rattle.ed_model.specs.declared.plan.SessionChange.TheVariants as session_change
use Rattle.ed_model.specs.declared.plan.Plan.TheVariants as plan
use Rattle.ed_model.specs.TargetPlans.{found_target}
use Rattle.ed_model.specs.SessionPlans.{with_reference, release_of}

-- The leave of a plan: whether it may edit the text, take bytes to the clipboard, create, attach, hold or release documents,
-- start or stop a recording, and set a save point.
pub record Leave : Type 0 where
  pub edits : Bool
  pub copies : Bool
  pub documents : Bool
  pub recording : Bool
  pub saves : Bool

abbrev pub leave_of : Kind → Leave
leave_of kind = record {
  edits = (marks_of kind).e;
  copies = is_copying kind;
  documents = is_about_documents kind;
  recording = is_about_recording kind;
  saves = is_saving kind;
}

-- whether this may follow an edit
abbrev pub may_follow : Leave → Follow → Bool
may_follow l (follow.Clipboard start count) = l.copies
may_follow l other = true

-- the plan does only what its leave allows
abbrev pub KeepsTo : Leave → Plan → Type 0
KeepsTo l (plan.Edit edit value after) = (l.edits && may_follow l after) ≡ true
KeepsTo l plan.Attempt = l.edits ≡ true
KeepsTo l plan.Undo = l.edits ≡ true
KeepsTo l plan.Redo = l.edits ≡ true
KeepsTo l (plan.ChangeSession (session_change.Copy start count) value) = l.copies ≡ true
KeepsTo l (plan.ChangeSession (session_change.CopyText count) value) = l.copies ≡ true
KeepsTo l (plan.ChangeSession (session_change.Attach document) value) = l.documents ≡ true
KeepsTo l (plan.ChangeSession session_change.AttachNew value) = l.documents ≡ true
KeepsTo l (plan.ChangeSession (session_change.Create options) value) = l.documents ≡ true
KeepsTo l (plan.ChangeSession (session_change.AddReference document) value) = l.documents ≡ true
KeepsTo l (plan.ChangeSession (session_change.Release document) value) = l.documents ≡ true
KeepsTo l (plan.ChangeView (view_change.SetRecording on) value) = l.recording ≡ true
KeepsTo l (plan.ChangeDocument document_change.SetSavePoint value) = l.saves ≡ true
KeepsTo l (plan.ChangeDocument document_change.ForgetHistory value) = l.saves ≡ true
KeepsTo l other = Unit {0}

-- such a plan, or a refusal other than OutOfMemory
abbrev pub IsShaped : Leave → Planned → Type 0
IsShaped l (Err OutOfMemory) = ⊥
IsShaped l (Err other) = Unit {0}
IsShaped l (Ok p) = KeepsTo l p

shaped_with_argument : {A : Type 0} (l : Leave) (a : Option A) (act : A → Planned) → ((x : A) → IsShaped l (act x)) → IsShaped l (with_argument a act)
shaped_with_argument l None act h = tt
shaped_with_argument l (Some x) act h = h x

shaped_with_line : (l : Leave) (line : Option ℕ) (bad : Planned) (act : ℕ → Planned) → IsShaped l bad → ((n : ℕ) → IsShaped l (act n)) → IsShaped l (with_line line bad act)
shaped_with_line l None bad act b h = b
shaped_with_line l (Some n) bad act b h = h n

shaped_either : (l : Leave) (b : Bool) (x y : Planned) → IsShaped l x → IsShaped l y → IsShaped l (cond b x y)
shaped_either l true x y hx hy = hx
shaped_either l false x y hx hy = hy

shaped_target : (l : Leave) (size : ℕ) (found : Option ℕ) → IsShaped l (found_target size found)
shaped_target l size None = tt
shaped_target l size (Some place) = tt

shaped_fold : (l : Leave) (r : Request) (action : ℕ) (header : Option ℕ) → IsShaped l (fold_by r action header)
shaped_fold l r action None = tt
shaped_fold l r action (Some header) = search (shaped_either)

reference_shaped : (l : Leave) (r : Request) (d : Option Document) (change : ℕ → SessionChange) → ((id : ℕ) → IsShaped l (change_session (change id))) → IsShaped l (with_reference r d change)
reference_shaped l r None change h = tt
reference_shaped l r (Some d) change h = shaped_either l (nat_lt (references d) r.session.limits.refs) (change_session (change d.id)) (Err TooMany) (h d.id) tt

release_shaped : (l : Leave) (d : Option Document) → l.documents ≡ true → IsShaped l (release_of d)
release_shaped l None e = tt
release_shaped l (Some d) e = shaped_either l (nat_lt 0 d.held_by_callers) (change_session (session_change.Release d.id)) (Err NoSuchDocument) e tt

ruleset shapes = (shaped_with_argument, shaped_with_line, shaped_either, shaped_target, shaped_fold, reference_shaped, release_shaped)

-- the plan of each kind does only what the leave of the kind allows; the second line is checked for each of the other kinds
pub plan_is_shaped : (kind : Kind) (r : Request) → IsShaped (leave_of kind) (plan_of kind r)
plan_is_shaped kinds.AddText r = search shapes
plan_is_shaped _ r = search shapes

-- the conversion of line ends depends only on the document
pub same_converted : (b : Bool) (d e : Document) (bytes : List ℕ) → e ≡ d → converted_if b e bytes ≡ converted_if b d bytes
same_converted true d e bytes same = ap (λ (d : Document). converted d.line_end bytes) same
same_converted false d e bytes same = refl

-- A plan that is not about documents depends on the session only through its clipboard and limits.
pub same_plan : (kind : Kind) (r : Request) (documents : List Document) (views : List View) (next_document next_view : ℕ) → is_about_documents kind ≡ false
    → (let s = r.session in plan_of kind (record r { session = record s { documents = documents; views = views; next_document = next_document; next_view = next_view } })) ≡ plan_of kind r
same_plan kinds.Paste r documents views next_document next_view e =
    let s = r.session in
    let q = record r { session = record s { documents = documents; views = views; next_document = next_document; next_view = next_view } } in
    rw (same_converted r.view.converts_pastes r.document q.document r.session.clipboard refl) refl
same_plan kinds.SetDocPointer r documents views next_document next_view e = absurd (cc)
same_plan kinds.CreateDocument r documents views next_document next_view e = absurd (cc)
same_plan kinds.AddRefDocument r documents views next_document next_view e = absurd (cc)
same_plan kinds.ReleaseDocument r documents views next_document next_view e = absurd (cc)
same_plan _ r documents views next_document next_view e = refl

-- A plan does not depend on whether the sender records, nor on the other views.
pub same_plan_recording : (kind : Kind) (r : Request) (views : List View) (records : Bool)
    → (let s = r.session in let v = r.view in plan_of kind (record r { session = record s { views = views }; view = record v { records = records } })) ≡ plan_of kind r
same_plan_recording kinds.Paste r views records =
    let s = r.session in
    let v = r.view in
    let q = record r { session = record s { views = views }; view = record v { records = records } } in
    rw (same_converted r.view.converts_pastes r.document q.document r.session.clipboard refl) refl
same_plan_recording _ r views records = refl

-- no message marked R starts or stops a recording
pub recorded_is_not_about_recording : (kind : Kind) → (marks_of kind).r ≡ true → is_about_recording kind ≡ false
recorded_is_not_about_recording kinds.StartRecord e = cc
recorded_is_not_about_recording _ e = cc
