-- Plans, messages, commands and runs keep a session sound.
use Rattle.ed_model.proofs.Names.{◌≡◌, ℕ, ◌+◌, ◌≤◌, false, List, [], ◌∷◌, length, reverse, refl, ap, sym, ◌∙◌, subst, ℤ, Option, Some, None, Result, Ok, Err, IfOk, nat_lt, last_or, map-id, Kind, Message, Refusal, OpenView, CloseView, LoadFile, SendMessage, Expect, Response, kind_of, Edit, Follow, DocumentChange, ViewChange, SessionChange, Step, after_steps, History, Change, fresh_history, undo_changes, redo_changes, undone, redone, latest_text_step, Session, Document, View, document_at, view_at, with_document, text_of, limit_of, new_session, Request, Planned, text, steps_of, source_bytes, text_steps, levels, Scene, scene_of, session_of, edit_made, edit_performed, followed, with_caret, with_target, transaction_performed, changes_performed, with_history, history_performed, caret_behind, place_behind, changed_document, changed_lines, document_change_performed, changed_view, view_change_performed, session_changed, plan_of, answered, request, table_from_document, table_from_kind, table_from_view, starting, after_opening, after_closing, after_message, loaded, file_at, set_text_message, after_command, AreStepsOf, FitsText, IsSound, StandsOn, NewSessionIsSound, MessageKeepsSound, OpeningKeepsSound, ClosingKeepsSound, CommandKeepsSound, IsSoundInEveryStateFrom, IsSoundInEveryState, IsSoundRequest, IsFitFollow, IsFitDocumentChange, IsFitViewChange, IsFitPlan, IsFitPlanned, IsRoomFor, EditStepsFit, UndoStepsFit, RedoStepsFit, PlansKeepSound, all_weaker, document_id, view_id, replaced_found, found_once, changed_id, changed_views, changed_lines_id, changed_lines_document, changed_view_id, changed_view_document, length_text, own_document, request_document, request_stands, edit_made_text}
use Rattle.ed_model.specs.declared.plan.Edit.TheVariants as edit
use Rattle.ed_model.specs.declared.plan.Follow.TheVariants as follow
use Rattle.ed_model.specs.declared.plan.DocumentChange.TheVariants as document_change
use Rattle.ed_model.specs.declared.plan.ViewChange.TheVariants as view_change
use Rattle.ed_model.specs.declared.plan.SessionChange.TheVariants as session_change
use Rattle.ed_model.specs.declared.plan.Plan.TheVariants as plan
use Rattle.ed_model.specs.Notes as notes
use Rattle.ed_model.proofs.TransactionLemmas.{text_after_changes}
use Rattle.ed_model.proofs.SoundSteps.{replacement_fits, within_fits}
use Rattle.ed_model.proofs.SoundConversion.{conversion_fits}
use Rattle.ed_model.proofs.SoundHistory.{fresh_fits, undo_fits, undone_fits, redo_fits, redone_fits, BehindWithin, last_behind, latest_is_last}
use Rattle.ed_model.proofs.SoundSessions.{document_replaced, view_replaced, sender_changed}
use Rattle.ed_model.proofs.SoundScenes.{IsSoundScene, text_bounded, limit_kept, scene_history, scene_told, edit_made_sound, without_history, changes_performed_sound}
use Rattle.ed_model.proofs.SoundChanges.{IsFitOn, changed_sound, changed_stands, changed_lines_others}
use Rattle.ed_model.proofs.SoundFlags.{IsFitHere, changed_view_stands}
use Rattle.ed_model.proofs.SoundReferences.{created_sound, attached_new_sound, attached_any_sound, held_more_sound, released_sound, opened_sound, closed_sound}
use Rattle.ed_model.proofs.SoundPlans.{plan_fits}

-- The scene of a request.

pub scene_of_sound : (r : Request) → IsSoundRequest r → IsSoundScene r.view.id r.session (scene_of r.session r.document)
scene_of_sound r h =
    let s = r.session in
    let d = r.document in
    record {
      sound = subst (λ vs. IsSound (record s { documents = with_document r.document s.documents; views = vs })) (map-id s.views)
          (document_replaced r.session r.document r.document (λ (v : View). v) h.sound (own_document r h) refl refl (request_document r h) (λ v. refl) (λ v. refl) (λ v e on. on) (λ v ne. refl));
      found = replaced_found s.documents r.document.id r.document r.document refl (own_document r h);
      owner = all_weaker (λ (v : View). v.id ≡ r.view.id → v ≡ r.view) (λ (v : View). v.id ≡ r.view.id → v.document ≡ r.document.id)
          (λ v is e. ap (λ (w : View). w.document) (is e) ∙ sym (document_id s.documents r.view.document r.document h.document)) s.views
          (found_once (λ (v : View). v.id) 0 s.next_view s.views r.view.id r.view h.sound.view_ids h.view);
    }

-- the session with another clipboard
pub clipboard_sound : (s : Session) (bytes : List ℕ) → IsSound s → IsSound (record s { clipboard = bytes })
clipboard_sound s bytes h = record { document_ids = h.document_ids; view_ids = h.view_ids; documents = h.documents; views = h.views; lists = h.lists }

caret_stands : (d : Document) (place : ℕ) → place ≤ length d.cells → (v : View) → StandsOn d v → StandsOn d (record v { anchor = place; caret = place })
caret_stands d place le v on =
    record { anchor = le; caret = le; target_start = on.target_start; target_end = on.target_end; lines = on.lines; first_line = on.first_line; indicator = on.indicator; listed = on.listed }

target_stands : (d : Document) (start past : ℕ) → start ≤ length d.cells → past ≤ length d.cells → (v : View) → StandsOn d v → StandsOn d (record v { target_start = start; target_end = past })
target_stands d start past a b v on =
    record { anchor = on.anchor; caret = on.caret; target_start = a; target_end = b; lines = on.lines; first_line = on.first_line; indicator = on.indicator; listed = on.listed }

-- the sender's caret in a sound scene
pub caret_sound : (sender : ℕ) (s : Session) (scene : Scene) (place : ℕ) → IsSoundScene sender s scene → place ≤ length (text_of scene.document)
    → IsSound (record (session_of s scene) { views = with_caret sender place scene.views })
caret_sound sender s scene place h le =
    sender_changed (session_of s scene) scene.document sender (λ (v : View). record v { anchor = place; caret = place }) h.sound h.found h.owner (λ v. refl) (λ v. refl)
    (caret_stands scene.document place (subst (λ n. place ≤ n) (length_text scene.document) le))

pub target_sound : (sender : ℕ) (s : Session) (scene : Scene) (start past : ℕ) → IsSoundScene sender s scene → start ≤ length (text_of scene.document) → past ≤ length (text_of scene.document)
    → IsSound (record (session_of s scene) { views = with_target sender start past scene.views })
target_sound sender s scene start past h a b =
    sender_changed (session_of s scene) scene.document sender (λ (v : View). record v { target_start = start; target_end = past }) h.sound h.found h.owner (λ v. refl) (λ v. refl)
    (target_stands scene.document start past (subst (λ n. start ≤ n) (length_text scene.document) a) (subst (λ n. past ≤ n) (length_text scene.document) b))

-- Edits.

pub edit_steps_fit : EditStepsFit
edit_steps_fit r (edit.Replace start count from) fit =
    replacement_fits start count (source_bytes r from) (text r) (subst (λ n. start + count ≤ n) (sym (length_text r.document)) fit.0)
edit_steps_fit r (edit.ConvertLineEnds to) fit = conversion_fits to (text r)

followed_sound : (r : Request) (before : List ℕ) (after : Follow) (scene : Scene) (n : ℕ) → IsSoundScene r.view.id r.session scene → IsFitFollow r n after → length (text_of scene.document) ≡ n
    → IsSound (followed r.view.id before after (session_of r.session scene))
followed_sound r before follow.Nothing scene n h fit e = h.sound
followed_sound r before (follow.Caret place) scene n h fit e = caret_sound r.view.id r.session scene place h (subst (λ k. place ≤ k) (sym e) fit)
followed_sound r before (follow.Target start past) scene n h fit e =
    target_sound r.view.id r.session scene start past h (subst (λ k. start ≤ k) (sym e) fit.0) (subst (λ k. past ≤ k) (sym e) fit.1)
followed_sound r before (follow.Clipboard start count) scene n h fit e = clipboard_sound (session_of r.session scene) _ h.sound

edit_sound : (r : Request) (change : Edit) (value : ℤ) (after : Follow) → IsSoundRequest r → IsFitPlan r (plan.Edit change value after) → IsSound (edit_performed r.session r.view r.document r.message.text change value after).0
edit_sound r change value after h fit =
    followed_sound r (text r) after (edit_made (steps_of r change) (scene_of r.session r.document)) (length (after_steps (steps_of r change) (text r)))
    (edit_made_sound r.view.id r.session (steps_of r change) (scene_of r.session r.document) (scene_of_sound r h) (record { fits = edit_steps_fit r change fit.0; within = fit.2 }))
    fit.1 (ap length (edit_made_text (steps_of r change) (scene_of r.session r.document)))

-- Undo and redo.

behind_sound : (sender : ℕ) (s : Session) (scene : Scene) (o : Option Step) → IsSoundScene sender s scene → BehindWithin o (length (text_of scene.document))
    → IsSound (record (session_of s scene) { views = caret_behind sender o scene.views })
behind_sound sender s scene None h b = h.sound
behind_sound sender s scene (Some step) h b = caret_sound sender s scene (place_behind step) h b

history_sound : (r : Request) (who : ℕ) (cs : List Change) (new : History) → IsSoundRequest r → AreStepsOf (text r) (text_steps cs) → IsRoomFor r (text_steps cs)
    → FitsText (limit_of r.session.limits r.document) (after_steps (text_steps cs) (text r)) new → IsSound (history_performed r.session r.view r.document who cs new).0
history_sound r who cs new h fits room history =
    let several = notes.bit_if (nat_lt 1 (length cs)) notes.multi_step in
    let done = changes_performed who several false cs (scene_of r.session r.document) in
    let start : IsSoundScene r.view.id r.session (without_history (scene_of r.session r.document)) = scene_history r.view.id r.session (scene_of r.session r.document) fresh_history (scene_of_sound r h) (fresh_fits (text r)) in
    let made : IsSoundScene r.view.id r.session (without_history done) = changes_performed_sound r.view.id r.session who several false cs (scene_of r.session r.document) start (record { fits = fits; within = room }) in
    let same : text_of done.document ≡ after_steps (text_steps cs) (text r) = text_after_changes who several false cs (scene_of r.session r.document) in
    let kept : IsSoundScene r.view.id r.session (with_history new (without_history done)) =
    scene_history r.view.id r.session (without_history done) new made
    (subst (λ limit. FitsText limit (text_of done.document) new) (sym (limit_kept r.session.limits who several false cs (scene_of r.session r.document)))
    (subst (λ t. FitsText (limit_of r.session.limits r.document) t new) (sym same) history)) in
    let scene = transaction_performed who cs new (scene_of r.session r.document) in
    let told : IsSoundScene r.view.id r.session scene = scene_told r.view.id r.session (with_history new (without_history done)) scene.notes kept in
    behind_sound r.view.id r.session scene (latest_text_step (reverse cs)) told
    (subst (λ o. BehindWithin o (length (text_of done.document))) (sym (latest_is_last cs))
    (subst (λ t. BehindWithin (last_or None (text_steps cs)) (length t)) (sym same) (last_behind (text_steps cs) (text r) None fits tt)))

pub undo_steps_fit : UndoStepsFit
undo_steps_fit r h = within_fits (limit_of r.session.limits r.document) _ (text r) (undo_fits (text r) r.document.history (request_document r h).history)

pub redo_steps_fit : RedoStepsFit
redo_steps_fit r h = within_fits (limit_of r.session.limits r.document) _ (text r) (redo_fits (text r) r.document.history (request_document r h).history)

-- Other changes.

fit_on : (r : Request) (what : DocumentChange) → IsFitDocumentChange r what → IsFitOn r.document what
fit_on r (document_change.SetEndStyled place) fit = fit
fit_on r (document_change.StyleRun count style) fit = fit.0
fit_on r (document_change.StyleBytes count) fit = fit.0
fit_on r (document_change.FillIndicator indicator start count value) fit = fit.1
fit_on r _ fit = tt

document_change_sound : (r : Request) (what : DocumentChange) (value : ℤ) → IsSoundRequest r → IsFitDocumentChange r what → IsSound (document_change_performed r.session r.view r.document r.message.text what value).0
document_change_sound r what value h fit =
    document_replaced r.session r.document (changed_document r.message.text what r.document) (changed_lines what r.document) h.sound (own_document r h)
    (changed_id r.message.text what r.document) (changed_views r.message.text what r.document)
    (changed_sound r.session.limits r.message.text what r.document (request_document r h) (fit_on r what fit))
    (changed_lines_id what r.document) (changed_lines_document what r.document)
    (λ v e on. changed_stands r.message.text what r.document v e on)
    (changed_lines_others what r.document)

fit_here : (r : Request) (what : ViewChange) → IsFitViewChange r what → IsFitHere r.document what
fit_here r (view_change.Select anchor caret) fit = fit
fit_here r (view_change.SetTarget start past) fit = fit
fit_here r (view_change.SetIndicator indicator) fit = fit
fit_here r _ fit = tt

same_view : (r : Request) (old : View) → IsSoundRequest r → view_at r.session.views r.view.id ≡ Some old → r.view ≡ old
same_view r old h e = let f : view_at r.session.views r.view.id ≡ Some r.view = h.view in cc

view_change_sound : (r : Request) (what : ViewChange) → IsSoundRequest r → IsFitViewChange r what → IsSound (view_change_performed r.session r.view r.document what)
view_change_sound r what h fit =
    view_replaced r.session r.document (changed_view (levels r) what r.view) h.sound
    (ap (document_at r.session.documents) (changed_view_document (levels r) what r.view) ∙ h.document)
    (λ old e. changed_view_document (levels r) what r.view ∙ ap (λ (v : View). v.document) (same_view r old h (ap (view_at r.session.views) (sym (changed_view_id (levels r) what r.view)) ∙ e)))
    (changed_view_stands (levels r) what r.document r.view (request_stands r h) (fit_here r what fit))

session_change_sound : (r : Request) (what : SessionChange) → IsSoundRequest r → IsSound (session_changed r.session r.view r.document r.message.text what)
session_change_sound r (session_change.Copy start count) h = clipboard_sound r.session _ h.sound
session_change_sound r (session_change.CopyText count) h = clipboard_sound r.session _ h.sound
session_change_sound r (session_change.Attach id) h = attached_any_sound r.session id r.view h.sound h.view (request_stands r h).indicator
session_change_sound r session_change.AttachNew h = attached_new_sound r.session r.view h.sound h.view (request_stands r h).indicator
session_change_sound r (session_change.Create options) h = created_sound r.session options h.sound
session_change_sound r (session_change.AddReference id) h = held_more_sound r.session id h.sound
session_change_sound r (session_change.Release id) h = released_sound r.session id h.sound

-- performing a fit plan keeps a session sound
pub performed_sound : PlansKeepSound
performed_sound r (plan.Answer value) h fit = h.sound
performed_sound r (plan.HandOut value start count) h fit = h.sound
performed_sound r (plan.HandOutStyled start count) h fit = h.sound
performed_sound r (plan.Edit change value after) h fit = edit_sound r change value after h fit
performed_sound r plan.Attempt h fit = h.sound
performed_sound r plan.Undo h fit =
    let history = (request_document r h).history in
    history_sound r notes.performed_undo (undo_changes r.document.history) (undone r.document.history) h
    (undo_steps_fit r h) fit.1 (undone_fits (text r) r.document.history history (text_bounded r.session.limits r.document (request_document r h)))
performed_sound r plan.Redo h fit =
    let history = (request_document r h).history in
    history_sound r notes.performed_redo (redo_changes r.document.history) (redone r.document.history) h
    (redo_steps_fit r h) fit.1 (redone_fits (text r) r.document.history history (text_bounded r.session.limits r.document (request_document r h)))
performed_sound r (plan.ChangeDocument change value) h fit = document_change_sound r change value h fit
performed_sound r (plan.ChangeView change value) h fit = view_change_sound r change h fit
performed_sound r (plan.ChangeSession change value) h fit = session_change_sound r change h

-- Messages.

abbrev pub IsSoundDone : Session × Response → Type 0
IsSoundDone done = IsSound done.0

answered_sound : (kind : Kind) (r : Request) (p : Planned) → IsSoundRequest r → IsFitPlanned r p → IfOk (answered kind r p) IsSoundDone
answered_sound kind r (Err refusal) h fit = tt
answered_sound kind r (Ok what) h fit = performed_sound r what h fit

from_document_sound : (s : Session) (v : View) (kind : Kind) (m : Message) (o : Option Document) → IsSound s → view_at s.views v.id ≡ Some v → document_at s.documents v.document ≡ o
    → IfOk (table_from_document s v kind m o) IsSoundDone
from_document_sound s v kind m None h e f = tt
from_document_sound s v kind m (Some d) h e f =
    let sound : IsSoundRequest (request s v d m) = record { sound = h; view = e; document = f } in
    answered_sound kind (request s v d m) (plan_of kind (request s v d m)) sound (plan_fits kind (request s v d m) sound)

from_kind_sound : (s : Session) (v : View) (m : Message) (o : Option Kind) → IsSound s → view_at s.views v.id ≡ Some v → IfOk (table_from_kind s v m o) IsSoundDone
from_kind_sound s v m None h e = tt
from_kind_sound s v m (Some kind) h e = from_document_sound s v kind m (document_at s.documents v.document) h e refl

from_view_sound : (s : Session) (view : ℕ) (m : Message) (o : Option View) → IsSound s → view_at s.views view ≡ o → IfOk (table_from_view s m o) IsSoundDone
from_view_sound s view m None h e = tt
from_view_sound s view m (Some v) h e =
    from_kind_sound s v m (kind_of m.number) h (ap (view_at s.views) (view_id s.views view v e) ∙ e)

pub table_sound : MessageKeepsSound
table_sound s view m h = from_view_sound s view m (view_at s.views view) h refl

pub opening_sound : OpeningKeepsSound
opening_sound s h = opened_sound s h

pub closing_sound : ClosingKeepsSound
closing_sound s view h = closed_sound s view h

-- Runs.

after_message_sound : (s : Session) (o : Result (Session × Response) Refusal) → IsSound s → IfOk o IsSoundDone → IsSound (after_message s o).0.session
after_message_sound s (Ok done) h k = k
after_message_sound s (Err refusal) h k = h

after_opening_sound : (s : Session) (o : Result (Session × ℕ) Refusal) → IsSound s → IfOk o (λ (done : Session × ℕ). IsSound done.0) → IsSound (after_opening s o).0.session
after_opening_sound s (Ok done) h k = k
after_opening_sound s (Err refusal) h k = h

after_closing_sound : (s : Session) (o : Result Session Refusal) → IsSound s → IfOk o IsSound → IsSound (after_closing s o).0.session
after_closing_sound s (Ok new) h k = k
after_closing_sound s (Err refusal) h k = h

loaded_sound : (s : Session) (view : ℕ) (v : Option View) (file : Option (List ℕ)) → IsSound s → IfOk (loaded s view v file) IsSoundDone
loaded_sound s view None file h = tt
loaded_sound s view (Some v) None h = tt
loaded_sound s view (Some v) (Some bytes) h = table_sound s view (set_text_message bytes) h

pub command_sound : CommandKeepsSound
command_sound files OpenView s h = after_opening_sound s.session _ h (opened_sound s.session h)
command_sound files (CloseView view) s h = after_closing_sound s.session _ h (closed_sound s.session view h)
command_sound files (LoadFile view file) s h =
    after_message_sound s.session _ h (loaded_sound s.session view (view_at s.session.views view) (file_at files file) h)
command_sound files (SendMessage view message) s h = after_message_sound s.session _ h (table_sound s.session view message h)
command_sound files (Expect value) s h = h

pub run_sound : IsSoundInEveryStateFrom
run_sound files [] s h = h
run_sound files (c ∷ cs) s h = run_sound files cs (after_command files c s).0 (command_sound files c s h)

pub new_session_sound : NewSessionIsSound
new_session_sound limits = record { document_ids = tt; view_ids = tt; documents = tt; views = tt; lists = tt }

pub sound_in_every_state : IsSoundInEveryState
sound_in_every_state files commands limits = run_sound files commands (starting (new_session limits)) (new_session_sound limits)
