-- Plans of the messages on undo, save points and read-only documents.
-- [Scintilla: undo and redo]
use Rattle.std.specs.Prelude.{◌==◌, nat_lt, not, ◌&&◌, if◌then◌else◌, Bool, pos, List, [], ◌∷◌, Ok, Err}
use Rattle.ed_types.specs.declared.refusal.Refusal.TheVariants.{TooMany, TooLong}
use Rattle.ed_model.specs.declared.plan.DocumentChange.TheVariants as document_change
use Rattle.ed_model.specs.declared.plan.Plan.{Plan}
use Rattle.ed_model.specs.declared.plan.Plan.TheVariants as plan
use Rattle.ed_model.specs.Numbers.{flag, is_on}
use Rattle.ed_model.specs.Steps.{Step}
use Rattle.ed_model.specs.History.{Change, TextStep, ContainerStep, can_undo, can_redo, undo_changes, redo_changes, at_save_point}
use Rattle.ed_model.specs.Session.{limit_of}
use Rattle.ed_model.specs.Requests.{Request, Planned, answer, size, argument, change_document}
use Rattle.ed_model.specs.Edits.{stays_within}

abbrev pub get_read_only : Request → Planned
get_read_only r = answer (flag r.document.read_only)

abbrev pub set_read_only : Request → Planned
set_read_only r = change_document (document_change.SetReadOnly (is_on r.message.w))

-- the steps of the text among these changes
abbrev pub text_steps : List Change → List Step
text_steps [] = []
text_steps (TextStep step ∷ cs) = step ∷ text_steps cs
text_steps (ContainerStep token coalesce ∷ cs) = text_steps cs

-- undo or redo, if there is a transaction to act on; in a sound session TooLong
-- never applies, since each text on the way was there before
abbrev pub act_on_history : Request → Bool → List Change → Plan → Planned
act_on_history r can changes act =
    if not can then answer (pos 0)
    else (if r.document.read_only then Ok plan.Attempt
    else (if stays_within (limit_of r.session.limits r.document) (size r) (text_steps changes) then Ok act else Err TooLong))

abbrev pub undo : Request → Planned
undo r = act_on_history r (can_undo r.document.history) (undo_changes r.document.history) plan.Undo

abbrev pub redo : Request → Planned
redo r = act_on_history r (can_redo r.document.history) (redo_changes r.document.history) plan.Redo

abbrev pub get_can_undo : Request → Planned
get_can_undo r = answer (flag (can_undo r.document.history && not r.document.read_only))

abbrev pub get_can_redo : Request → Planned
get_can_redo r = answer (flag (can_redo r.document.history && not r.document.read_only))

-- does nothing if undo is to be collected and is already
abbrev pub set_undo_collection : Request → Planned
set_undo_collection r =
    if is_on r.message.w && r.document.history.collecting then answer (pos 0)
    else change_document (document_change.CollectUndo (is_on r.message.w))

abbrev pub get_undo_collection : Request → Planned
get_undo_collection r = answer (flag r.document.history.collecting)

abbrev pub set_save_point : Request → Planned
set_save_point r = change_document document_change.SetSavePoint

abbrev pub get_modify : Request → Planned
get_modify r = answer (flag (not (at_save_point r.document.history)))

abbrev pub begin_undo_action : Request → Planned
begin_undo_action r =
    if nat_lt r.document.history.depth r.session.limits.depth then change_document document_change.BeginGroup else Err TooMany

abbrev pub end_undo_action : Request → Planned
end_undo_action r = change_document document_change.EndGroup

abbrev pub empty_undo_buffer : Request → Planned
empty_undo_buffer r = change_document document_change.ForgetHistory

abbrev pub add_undo_action : Request → Planned
add_undo_action r = argument 0 1 r.message.l (λ flags. change_document (document_change.AppendContainer r.message.w (flags == 1)))
