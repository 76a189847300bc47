-- Plans of the messages on documents, masks and recording.
-- [Scintilla: document pointers, notifications, macro recording]
use Rattle.std.specs.Prelude.{ℕ, ◌-◌, ◌^◌, ◌==◌, nat_le, nat_lt, ◌||◌, if◌then◌else◌, Bool, true, false, ℤ, pos, negsuc, Ok, Err, Option, Some, None}
use Rattle.ed_types.specs.declared.refusal.Refusal.TheVariants.{TooMany, NoSuchDocument}
use Rattle.ed_model.specs.declared.plan.LineEndTypes.{LineEndTypes}
use Rattle.ed_model.specs.declared.plan.LineEndTypes.TheVariants.{Default, Unicode}
use Rattle.ed_model.specs.declared.plan.DocumentChange.TheVariants as document_change
use Rattle.ed_model.specs.declared.plan.ViewChange.TheVariants as view_change
use Rattle.ed_model.specs.declared.plan.SessionChange.{SessionChange}
use Rattle.ed_model.specs.declared.plan.SessionChange.TheVariants as session_change
use Rattle.ed_model.specs.declared.plan.Plan.TheVariants as plan
use Rattle.ed_model.specs.Session.{Session, Document, document_at, references}
use Rattle.ed_model.specs.Requests.{Request, Planned, answer, answer_number, with_argument, argument, change_document, change_view, change_session}

-- Documents.

abbrev pub get_doc_pointer : Request → Planned
get_doc_pointer r = answer_number r.view.document

-- the document with the id
abbrev pub document_named : Session → ℤ → Option Document
document_named s (pos id) = document_at s.documents id
document_named s (negsuc n) = None

-- whether an id is left for one more document
abbrev pub has_document_ids : Session → Bool
has_document_ids s = nat_le s.next_document s.limits.ids

abbrev pub with_reference : Request → Option Document → (ℕ → SessionChange) → Planned
with_reference r None change = Err NoSuchDocument
with_reference r (Some d) change =
    if nat_lt (references d) r.session.limits.refs then change_session (change d.id) else Err TooMany

abbrev pub is_zero : ℤ → Bool
is_zero (pos n) = n == 0
is_zero (negsuc n) = false

abbrev pub set_doc_pointer : Request → Planned
set_doc_pointer r =
    if is_zero r.message.l then (if has_document_ids r.session then change_session session_change.AttachNew else Err TooMany)
    else with_reference r (document_named r.session r.message.l) session_change.Attach

abbrev pub is_option : ℕ → Bool
is_option options = options == 0 || options == 0x1 || options == 0x100 || options == 0x101

abbrev pub document_options : ℤ → Option ℕ
document_options (pos n) = if is_option n then Some n else None
document_options (negsuc n) = None

abbrev pub create_document : Request → Planned
create_document r =
    argument 0 (2 ^ 63 - 1) r.message.w (λ unused. with_argument (document_options r.message.l) (λ options.
    if has_document_ids r.session then Ok (plan.ChangeSession (session_change.Create options) (pos r.session.next_document)) else Err TooMany))

abbrev pub add_ref_document : Request → Planned
add_ref_document r = with_reference r (document_named r.session r.message.l) session_change.AddReference

-- only a reference that a caller holds can be released
abbrev pub release_of : Option Document → Planned
release_of None = Err NoSuchDocument
release_of (Some d) = if nat_lt 0 d.held_by_callers then change_session (session_change.Release d.id) else Err NoSuchDocument

abbrev pub release_document : Request → Planned
release_document r = release_of (document_named r.session r.message.l)

abbrev pub get_document_options : Request → Planned
get_document_options r = answer_number r.document.options

abbrev pub types_number : LineEndTypes → ℕ
types_number Default = 0
types_number Unicode = 1

abbrev pub set_line_end_types_allowed : Request → Planned
set_line_end_types_allowed r =
    argument 0 1 r.message.w (λ types.
    if types == types_number r.document.line_end_types then answer (pos 0)
    else change_document (document_change.SetLineEndTypes (if types == 0 then Default else Unicode)))

abbrev pub get_line_end_types : Request → Planned
get_line_end_types r = answer_number (types_number r.document.line_end_types)

-- Masks and recording.

abbrev pub set_mod_event_mask : Request → Planned
set_mod_event_mask r = argument 0 0x7FFFFF r.message.w (λ mask. change_view (view_change.SetMask mask))

abbrev pub get_mod_event_mask : Request → Planned
get_mod_event_mask r = answer_number r.view.mask

abbrev pub start_record : Request → Planned
start_record r = change_view (view_change.SetRecording true)

abbrev pub stop_record : Request → Planned
stop_record r = change_view (view_change.SetRecording false)
