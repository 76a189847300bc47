-- Documents keep their earlier texts, message by message, so undo goes back to earlier states of every run.
use Rattle.ed_model.proofs.Names.{◌≡◌, ℕ, ◌+◌, ◌-◌, ◌==◌, nat_lt, cond, Bool, true, false, List, [], ◌∷◌, ◌++◌, length, map, refl, ap, ◌∙◌, sym, subst, Option, Some, None, Result, Ok, Err, option_map, ◌||◌, nat_le, cons_option, eqb-true, eq-eqb, cond_both, find-append, Kind, Limits, Message, Refusal, TooMany, Command, OpenView, CloseView, LoadFile, SendMessage, Expect, Response, kind_of, Follow, SessionChange, Plan, Cell, bytes_of, History, undo_changes, redo_changes, Session, Document, View, document_at, view_at, with_document, living, left_by, new_session, new_document, new_view, text_of, Request, Planned, text, steps_of, text_steps, scene_of, session_of, edit_made, followed, changed_document, session_changed, with_attached, attached_last, with_new_document, held_more, held_less, table, table_from_view, table_from_kind, table_from_document, answered, plan_of, performed_for, request, opened, closed_view, Running, after_command, after_opening, after_closing, after_message, loaded, file_at, run_to, starting, set_text_message, after_undo, after_redo, KeepsEarlierTexts, GoesBackAmong, IsLeftAlone, LeavesOthersAlone, MessagesLeaveOtherDocumentsAlone, OpeningLeavesDocumentsAlone, ClosingLeavesDocumentsAlone, IsSound, Rise, IsSoundRequest, IsFitPlan, IsFitPlanned, document_id, view_id, replaced_found, replaced_other, same_document, living_from, mapped_found, mapped_ids, documents_added, changed_id, edit_made_id, own_document, request_document, fit_in_turn}
use Rattle.std.specs.Option.{option_or}
use Rattle.ed_model.specs.declared.plan.Follow.TheVariants as follow
use Rattle.ed_model.specs.declared.plan.SessionChange.TheVariants as session_change
use Rattle.ed_model.specs.declared.plan.Plan.TheVariants as plan
use Rattle.ed_model.specs.Notes as notes
use Rattle.ed_model.specs.RunUndoLaws.{GoesOn, DocumentsGoOn, MessagesLetDocumentsGoOn, CommandsLetDocumentsGoOn, sessions_of, states_of, UndoGoesBackInEveryRun}
use Rattle.ed_model.proofs.EarlierTextLemmas.{keeps_same, edits_keep_earlier_texts, undo_keeps_the_texts_before, redo_keeps_the_texts_before, document_changes_keep_earlier_texts, goes_back_at_first, goes_back_afterwards}
use Rattle.ed_model.proofs.SoundScenes.{changes_keep}
use Rattle.ed_model.proofs.SoundPlans.{plan_fits}
use Rattle.ed_model.proofs.SoundRuns.{edit_steps_fit, redo_steps_fit, command_sound, new_session_sound}

-- Lists of documents.

-- a document keeps its earlier texts, and was left alone unless `Own` holds for it
abbrev GoesOnBut : (ℕ → Type 0) → Option Document → Document → Type 0
GoesOnBut Own None d = d.history.past ≡ []
GoesOnBut Own (Some old) d = KeepsEarlierTexts old d × ((Own d.id → ⊥) → IsLeftAlone old d)

goes_on : (Own : ℕ → Type 0) (o : Option Document) (d : Document) → GoesOnBut Own o d → GoesOn o d
goes_on Own None d h = h
goes_on Own (Some old) d h = h.0

left_alone : (Own : ℕ → Type 0) (o : Option Document) (d e : Document) → (Own e.id → ⊥) → o ≡ Some d → GoesOnBut Own o e → IsLeftAlone d e
left_alone Own None d e other f h = cc
left_alone Own (Some old) d e other f h = let same : old ≡ d = cc in subst (λ (x : Document). IsLeftAlone x e) same (h.1 other)

abbrev ListsGoOn : (ℕ → Type 0) → List Document → List Document → Type 0
ListsGoOn Own ds es = (id : ℕ) (d : Document) → document_at es id ≡ Some d → GoesOnBut Own (document_at ds id) d

goes_on_same : (Own : ℕ → Type 0) (d : Document) → GoesOnBut Own (Some d) d
goes_on_same Own d = (keeps_same d.history (text_of d), λ other. record { text = refl; history = refl; read_only = refl })

lists_go_on_same : (Own : ℕ → Type 0) (ds : List Document) → ListsGoOn Own ds ds
lists_go_on_same Own ds id d e = subst (λ (o : Option Document). GoesOnBut Own o d) (sym e) (goes_on_same Own d)

-- one document replaced by one that keeps its earlier texts
lists_go_on_replaced : (ds : List Document) (old new : Document) → document_at ds new.id ≡ Some old → KeepsEarlierTexts old new → ListsGoOn (λ id. id ≡ new.id) ds (with_document new ds)
lists_go_on_replaced ds old new found keeps id d e = go (id == new.id) refl
  where
    go : (b : Bool) → (id == new.id) ≡ b → GoesOnBut (λ id. id ≡ new.id) (document_at ds id) d
    go true t =
        let same = eqb-true id new.id t in
        let there : document_at (with_document new ds) id ≡ Some new = ap (document_at (with_document new ds)) same ∙ replaced_found ds new.id old new refl found in
        let is_new : new ≡ d = same_document (document_at (with_document new ds) id) new d there e in
        let was : Some old ≡ document_at ds id = sym (ap (document_at ds) same ∙ found) in
        subst (λ (o : Option Document). GoesOnBut (λ id. id ≡ new.id) o d) was
        (subst (λ (x : Document). KeepsEarlierTexts old x) is_new keeps, λ other. absurd (other (ap (λ (x : Document). x.id) (sym is_new))))
    go false t =
        let other : id ≡ new.id → ⊥ = λ same. apart_false (eq-eqb id new.id same) t in
        lists_go_on_same (λ id. id ≡ new.id) ds id d (sym (replaced_other ds new id other) ∙ e)
      where
        apart_false : (id == new.id) ≡ true → (id == new.id) ≡ false → ⊥
        apart_false p q = cc

-- documents of which only the views and references change
pub record IsRelisted (d e : Document) : Type 0 where
  pub id : e.id ≡ d.id
  pub history : e.history ≡ d.history
  pub cells : e.cells ≡ d.cells
  pub read_only : e.read_only ≡ d.read_only

goes_on_relisted : (Own : ℕ → Type 0) (o : Option Document) (d e : Document) → IsRelisted d e → GoesOnBut Own o d → GoesOnBut Own o e
goes_on_relisted Own None d e r h = ap (λ (x : History). x.past) r.history ∙ h
goes_on_relisted Own (Some old) d e r h = (
  subst (λ (x : History). KeepsEarlierTexts old (record d { history = x; cells = e.cells })) (sym r.history)
      (subst (λ (x : List Cell). KeepsEarlierTexts old (record d { cells = x })) (sym r.cells) h.0),
  λ other. let was = h.1 (subst (λ id. Own id → ⊥) r.id other) in
      record { text = ap bytes_of r.cells ∙ was.text; history = r.history ∙ was.history; read_only = r.read_only ∙ was.read_only },
)

lists_go_on_mapped : (Own : ℕ → Type 0) (ds es : List Document) (g : Document → Document) → ((d : Document) → IsRelisted d (g d)) → ListsGoOn Own ds es → ListsGoOn Own ds (map g es)
lists_go_on_mapped Own ds es g r h id d e = go (document_at es id) refl (sym (mapped_found (λ (x : Document). x.id) g (λ x. (r x).id) es id) ∙ e)
  where
    go : (o : Option Document) → document_at es id ≡ o → option_map g o ≡ Some d → GoesOnBut Own (document_at ds id) d
    go None found f = cc
    go (Some x) found f =
        let is : g x ≡ d = cc in
        subst (GoesOnBut Own (document_at ds id)) is (goes_on_relisted Own (document_at ds id) x (g x) (r x) (h id x found))

lists_go_on_living : (Own : ℕ → Type 0) (ds es : List Document) (low high : ℕ) → Rise low high (map (λ (x : Document). x.id) es) → ListsGoOn Own ds es → ListsGoOn Own ds (living es)
lists_go_on_living Own ds es low high rise h id d e = h id d (living_from low high es id d rise e)

-- documents whose views and references change, and of which some are dropped
lists_go_on_relisted : (Own : ℕ → Type 0) (ds es : List Document) (g : Document → Document) (low high : ℕ) → ((d : Document) → IsRelisted d (g d)) →
    Rise low high (map (λ (x : Document). x.id) es) → ListsGoOn Own ds es → ListsGoOn Own ds (living (map g es))
lists_go_on_relisted Own ds es g low high r rise h =
    lists_go_on_living Own ds (map g es) low high (subst (Rise low high) (sym (mapped_ids (λ (x : Document). x.id) g (λ x. (r x).id) es)) rise) (lists_go_on_mapped Own ds es g r h)

-- a new document has no past
lists_go_on_pushed : (Own : ℕ → Type 0) (ds : List Document) (new : Document) → new.history.past ≡ [] → ListsGoOn Own ds (ds ++ new ∷ [])
lists_go_on_pushed Own ds new none id d e =
    go (document_at ds id) (sym (find-append (λ (x : Document). x.id == id) ds (new ∷ [])) ∙ e)
  where
    alone : (b : Bool) → cond b (Some new) None ≡ Some d → d.history.past ≡ []
    alone true f = let same : new ≡ d = cc in ap (λ (x : Document). x.history.past) (sym same) ∙ none
    alone false f = cc

    go : (o : Option Document) → option_or o (document_at (new ∷ []) id) ≡ Some d → GoesOnBut Own o d
    go None f = alone (new.id == id) f
    go (Some x) f = subst (GoesOnBut Own (Some x)) (let same : x ≡ d = cc in same) (goes_on_same Own x)

-- Changes of views and references.

same_listed : (d : Document) → IsRelisted d d
same_listed d = record { id = refl; history = refl; cells = refl; read_only = refl }

left_relisted : (view : ℕ) (d : Document) → IsRelisted d (left_by view d)
left_relisted view d = record { id = refl; history = refl; cells = refl; read_only = refl }

attached_relisted : (view id : ℕ) (d : Document) → IsRelisted d (attached_last view id d)
attached_relisted view id d =
    let left = left_by view d in
    cond_both (d.id == id) (record left { views = left.views ++ view ∷ [] }) left (IsRelisted d)
    (λ e. record { id = refl; history = refl; cells = refl; read_only = refl }) (λ e. record { id = refl; history = refl; cells = refl; read_only = refl })

held_more_relisted : (id : ℕ) (d : Document) → IsRelisted d (held_more id d)
held_more_relisted id d = cond_both (d.id == id) (record d { held_by_callers = d.held_by_callers + 1 }) d (IsRelisted d) (λ e. record { id = refl; history = refl; cells = refl; read_only = refl }) (λ e. same_listed d)

held_less_relisted : (id : ℕ) (d : Document) → IsRelisted d (held_less id d)
held_less_relisted id d = cond_both (d.id == id) (record d { held_by_callers = d.held_by_callers - 1 }) d (IsRelisted d) (λ e. record { id = refl; history = refl; cells = refl; read_only = refl }) (λ e. same_listed d)

-- The documents after a plan.

attached_go_on : (Own : ℕ → Type 0) (ds : List Document) (s : Session) (o : Option Document) (v : View) (high : ℕ) → Rise 0 high (map (λ (x : Document). x.id) s.documents) →
    ListsGoOn Own ds s.documents → ListsGoOn Own ds (with_attached o v s).documents
attached_go_on Own ds s None v high rise h = h
attached_go_on Own ds s (Some d) v high rise h = lists_go_on_relisted Own ds s.documents (attached_last v.id d.id) 0 high (attached_relisted v.id d.id) rise h

session_change_goes_on : (Own : ℕ → Type 0) (r : Request) (what : SessionChange) → IsSound r.session → ListsGoOn Own r.session.documents (session_changed r.session r.view r.document r.message.text what).documents
session_change_goes_on Own r (session_change.Copy start count) h = lists_go_on_same Own r.session.documents
session_change_goes_on Own r (session_change.CopyText count) h = lists_go_on_same Own r.session.documents
session_change_goes_on Own r (session_change.Attach id) h =
    attached_go_on Own r.session.documents r.session (document_at r.session.documents id) r.view r.session.next_document h.document_ids (lists_go_on_same Own r.session.documents)
session_change_goes_on Own r session_change.AttachNew h =
    let s = r.session in
    let with = with_new_document (new_document s.next_document 0) s in
    attached_go_on Own s.documents with (document_at with.documents s.next_document) r.view (s.next_document + 1)
    (documents_added s.next_document s.documents (new_document s.next_document 0) refl h.document_ids)
    (lists_go_on_pushed Own s.documents (new_document s.next_document 0) refl)
session_change_goes_on Own r (session_change.Create options) h =
    let d = new_document r.session.next_document options in
    lists_go_on_pushed Own r.session.documents (record d { held_by_callers = 1 }) refl
session_change_goes_on Own r (session_change.AddReference id) h =
    lists_go_on_mapped Own r.session.documents r.session.documents (held_more id) (held_more_relisted id) (lists_go_on_same Own r.session.documents)
session_change_goes_on Own r (session_change.Release id) h =
    lists_go_on_relisted Own r.session.documents r.session.documents (held_less id) 0 r.session.next_document (held_less_relisted id) h.document_ids (lists_go_on_same Own r.session.documents)

-- the request's document replaced by one that keeps its earlier texts
own_replaced : (r : Request) (new : Document) → IsSoundRequest r → new.id ≡ r.document.id → KeepsEarlierTexts r.document new → ListsGoOn (λ id. id ≡ r.view.document) r.session.documents (with_document new r.session.documents)
own_replaced r new h same keeps =
    let own : new.id ≡ r.view.document = same ∙ document_id r.session.documents r.view.document r.document h.document in
    subst (λ n. ListsGoOn (λ id. id ≡ n) r.session.documents (with_document new r.session.documents)) own
    (lists_go_on_replaced r.session.documents r.document new (ap (document_at r.session.documents) same ∙ own_document r h) keeps)

followed_documents : (view : ℕ) (before : List ℕ) (after : Follow) (s : Session) → (followed view before after s).documents ≡ s.documents
followed_documents view before follow.Nothing s = refl
followed_documents view before (follow.Caret place) s = refl
followed_documents view before (follow.Target start past) s = refl
followed_documents view before (follow.Clipboard start count) s = refl

performed_goes_on : (r : Request) (what : Plan) → IsSoundRequest r → IsFitPlan r what → ListsGoOn (λ id. id ≡ r.view.document) r.session.documents (performed_for r what).0.documents
performed_goes_on r (plan.Answer value) h fit = lists_go_on_same (λ id. id ≡ r.view.document) r.session.documents
performed_goes_on r (plan.HandOut value start count) h fit = lists_go_on_same (λ id. id ≡ r.view.document) r.session.documents
performed_goes_on r (plan.HandOutStyled start count) h fit = lists_go_on_same (λ id. id ≡ r.view.document) r.session.documents
performed_goes_on r plan.Attempt h fit = lists_go_on_same (λ id. id ≡ r.view.document) r.session.documents
performed_goes_on r (plan.ChangeView change value) h fit = lists_go_on_same (λ id. id ≡ r.view.document) r.session.documents
performed_goes_on r (plan.ChangeSession change value) h fit = session_change_goes_on (λ id. id ≡ r.view.document) r change h.sound
performed_goes_on r (plan.ChangeDocument change value) h fit =
    own_replaced r (changed_document r.message.text change r.document) h (changed_id r.message.text change r.document) (document_changes_keep_earlier_texts r.message.text change r.document)
performed_goes_on r (plan.Edit change value after) h fit =
    let scene = edit_made (steps_of r change) (scene_of r.session r.document) in
    let history = (request_document r h).history in
    subst (ListsGoOn (λ id. id ≡ r.view.document) r.session.documents) (sym (followed_documents r.view.id (text r) after (session_of r.session scene)))
    (own_replaced r scene.document h (edit_made_id (steps_of r change) (scene_of r.session r.document))
    (edits_keep_earlier_texts (steps_of r change) (scene_of r.session r.document) (fit_in_turn (steps_of r change) (text r) (edit_steps_fit r change fit.0)) (λ e. (history.kept e).0)))
performed_goes_on r plan.Undo h fit =
    let past = undo_changes r.document.history in
    own_replaced r (after_undo (scene_of r.session r.document)).document h
    (changes_keep notes.performed_undo (notes.bit_if (nat_lt 1 (length past)) notes.multi_step) false past (scene_of r.session r.document)).id
    (undo_keeps_the_texts_before (scene_of r.session r.document))
performed_goes_on r plan.Redo h fit =
    let future = redo_changes r.document.history in
    own_replaced r (after_redo (scene_of r.session r.document)).document h
    (changes_keep notes.performed_redo (notes.bit_if (nat_lt 1 (length future)) notes.multi_step) false future (scene_of r.session r.document)).id
    (redo_keeps_the_texts_before (scene_of r.session r.document) (fit_in_turn (text_steps future) (text r) (redo_steps_fit r h)))

-- Messages.

-- after a message the documents keep their earlier texts
abbrev LetsGoOn : (ℕ → Type 0) → Session → Result (Session × Response) Refusal → Type 0
LetsGoOn Own s (Ok done) = ListsGoOn Own s.documents done.0.documents
LetsGoOn Own s (Err refusal) = Unit {0}

-- the view is attached to the document with this id
abbrev IsShownBy : Option View → ℕ → Type 0
IsShownBy None id = ⊥
IsShownBy (Some v) id = id ≡ v.document

answered_goes_on : (kind : Kind) (r : Request) (p : Planned) → IsSoundRequest r → IsFitPlanned r p → LetsGoOn (IsShownBy (Some r.view)) r.session (answered kind r p)
answered_goes_on kind r (Err refusal) h fit = tt
answered_goes_on kind r (Ok what) h fit = performed_goes_on r what h fit

from_document_goes_on : (s : Session) (v : View) (kind : Kind) (m : Message) (o : Option Document) → IsSound s → view_at s.views v.id ≡ Some v → document_at s.documents v.document ≡ o →
    LetsGoOn (IsShownBy (Some v)) s (table_from_document s v kind m o)
from_document_goes_on s v kind m None h e f = tt
from_document_goes_on s v kind m (Some d) h e f =
    let sound_request : IsSoundRequest (request s v d m) = record { sound = h; view = e; document = f } in
    answered_goes_on kind (request s v d m) (plan_of kind (request s v d m)) sound_request (plan_fits kind (request s v d m) sound_request)

from_kind_goes_on : (s : Session) (v : View) (m : Message) (o : Option Kind) → IsSound s → view_at s.views v.id ≡ Some v → LetsGoOn (IsShownBy (Some v)) s (table_from_kind s v m o)
from_kind_goes_on s v m None h e = tt
from_kind_goes_on s v m (Some kind) h e = from_document_goes_on s v kind m (document_at s.documents v.document) h e refl

from_view_goes_on : (s : Session) (view : ℕ) (m : Message) (o : Option View) → IsSound s → view_at s.views view ≡ o → LetsGoOn (IsShownBy o) s (table_from_view s m o)
from_view_goes_on s view m None h e = tt
from_view_goes_on s view m (Some v) h e =
    from_kind_goes_on s v m (kind_of m.number) h (ap (view_at s.views) (view_id s.views view v e) ∙ e)

table_goes_on : (s : Session) (view : ℕ) (m : Message) → IsSound s → LetsGoOn (IsShownBy (view_at s.views view)) s (table s view m)
table_goes_on s view m h = from_view_goes_on s view m (view_at s.views view) h refl

all_go_on : (Own : ℕ → Type 0) (s t : Session) → ListsGoOn Own s.documents t.documents → DocumentsGoOn s t
all_go_on Own s t h id d e = goes_on Own (document_at s.documents id) d (h id d e)

pub messages_let_documents_go_on : MessagesLetDocumentsGoOn
messages_let_documents_go_on s view m done h e =
    all_go_on (IsShownBy (view_at s.views view)) s done.0 (subst (LetsGoOn (IsShownBy (view_at s.views view)) s) e (table_goes_on s view m h))

others_left_alone : (Own : ℕ → Type 0) (s t : Session) → ListsGoOn Own s.documents t.documents → LeavesOthersAlone Own s t
others_left_alone Own s t h id d e other found still =
    left_alone Own (document_at s.documents id) d e (subst (λ n. Own n → ⊥) (sym (document_id t.documents id e still)) other) found (h id e still)

pub messages_leave_other_documents_alone : MessagesLeaveOtherDocumentsAlone
messages_leave_other_documents_alone s view m v done h seen e =
    others_left_alone (IsShownBy (Some v)) s done.0
    (subst (λ (o : Option View). ListsGoOn (IsShownBy o) s.documents done.0.documents) seen (subst (LetsGoOn (IsShownBy (view_at s.views view)) s) e (table_goes_on s view m h)))

-- Commands.

message_goes_on : (Own : ℕ → Type 0) (s : Session) (o : Result (Session × Response) Refusal) → LetsGoOn Own s o → DocumentsGoOn s (after_message s o).0.session
message_goes_on Own s (Ok done) k = all_go_on Own s done.0 k
message_goes_on Own s (Err refusal) k = all_go_on Own s s (lists_go_on_same Own s.documents)

-- the documents that opening or closing a view may change: none
abbrev Nobodys : ℕ → Type 0
Nobodys id = ⊥

abbrev OpeningGoesOn : Session → Result (Session × ℕ) Refusal → Type 0
OpeningGoesOn s o = ListsGoOn Nobodys s.documents (after_opening s o).0.session.documents

opening_goes_on : (s : Session) → OpeningGoesOn s (opened s)
opening_goes_on s =
    let d = new_document s.next_document 0 in
    let with = with_new_document (record d { views = s.next_view ∷ [] }) s in
    cond_both (nat_le s.limits.views (length s.views) || nat_lt s.limits.ids s.next_view || nat_lt s.limits.ids s.next_document) (Err TooMany)
    (Ok (record with { views = s.views ++ new_view s.next_view d ∷ []; next_view = s.next_view + 1 }, s.next_view)) (OpeningGoesOn s)
    (λ e. lists_go_on_same Nobodys s.documents) (λ e. lists_go_on_pushed Nobodys s.documents (record d { views = s.next_view ∷ [] }) refl)

pub opening_leaves_documents_alone : OpeningLeavesDocumentsAlone
opening_leaves_documents_alone s done e = others_left_alone Nobodys s done.0 (subst (OpeningGoesOn s) e (opening_goes_on s))

closing_goes_on : (s : Session) (o : Option View) → IsSound s → ListsGoOn Nobodys s.documents (after_closing s (closed_view s o)).0.session.documents
closing_goes_on s None h = lists_go_on_same Nobodys s.documents
closing_goes_on s (Some v) h =
    lists_go_on_relisted Nobodys s.documents s.documents (left_by v.id) 0 s.next_document (left_relisted v.id) h.document_ids (lists_go_on_same Nobodys s.documents)

pub closing_leaves_documents_alone : ClosingLeavesDocumentsAlone
closing_leaves_documents_alone s t view h e =
    others_left_alone Nobodys s t
    (subst (λ (o : Result Session Refusal). ListsGoOn Nobodys s.documents (after_closing s o).0.session.documents) e (closing_goes_on s (view_at s.views view) h))

loaded_goes_on : (s : Session) (view : ℕ) (v : Option View) (file : Option (List ℕ)) → IsSound s → LetsGoOn (IsShownBy (view_at s.views view)) s (loaded s view v file)
loaded_goes_on s view None file h = tt
loaded_goes_on s view (Some v) None h = tt
loaded_goes_on s view (Some v) (Some bytes) h = table_goes_on s view (set_text_message bytes) h

pub commands_let_documents_go_on : CommandsLetDocumentsGoOn
commands_let_documents_go_on files OpenView s h = all_go_on Nobodys s.session (after_opening s.session (opened s.session)).0.session (opening_goes_on s.session)
commands_let_documents_go_on files (CloseView view) s h = all_go_on Nobodys s.session (after_closing s.session (closed_view s.session (view_at s.session.views view))).0.session (closing_goes_on s.session (view_at s.session.views view) h)
commands_let_documents_go_on files (LoadFile view file) s h =
    message_goes_on (IsShownBy (view_at s.session.views view)) s.session (loaded s.session view (view_at s.session.views view) (file_at files file))
    (loaded_goes_on s.session view (view_at s.session.views view) (file_at files file) h)
commands_let_documents_go_on files (SendMessage view message) s h =
    message_goes_on (IsShownBy (view_at s.session.views view)) s.session (table s.session view message) (table_goes_on s.session view message h)
commands_let_documents_go_on files (Expect value) s h = all_go_on Nobodys s.session s.session (lists_go_on_same Nobodys s.session.documents)

-- Runs.

-- undo in this session goes back to texts of these sessions
abbrev pub GoesBackIn : Session → List Session → Type 0
GoesBackIn s sessions = (id : ℕ) (d : Document) → document_at s.documents id ≡ Some d → GoesBackAmong d (states_of id sessions)

state_there : (id : ℕ) (s : Session) (earlier : List Session) (d : Document) → document_at s.documents id ≡ Some d → states_of id (s ∷ earlier) ≡ d ∷ states_of id earlier
state_there id s earlier d e = ap (λ (o : Option Document). cons_option o (states_of id earlier)) e

goes_back_next : (s t : Session) (earlier : List Session) → GoesBackIn s (s ∷ earlier) → DocumentsGoOn s t → GoesBackIn t (t ∷ s ∷ earlier)
goes_back_next s t earlier back on id d e =
    subst (GoesBackAmong d) (sym (state_there id t (s ∷ earlier) d e)) (go (document_at s.documents id) refl (on id d e))
  where
    go : (o : Option Document) → document_at s.documents id ≡ o → GoesOn o d → GoesBackAmong d (d ∷ states_of id (s ∷ earlier))
    go None found g = goes_back_at_first d (states_of id (s ∷ earlier)) g
    go (Some old) found g = goes_back_afterwards old d (states_of id (s ∷ earlier)) (back id old found) g

pub goes_back_in_run : (files : List (List ℕ)) (cs : List Command) (s : Running) (earlier : List Session) → IsSound s.session → GoesBackIn s.session (s.session ∷ earlier) →
    GoesBackIn (run_to files cs s).session (sessions_of files cs s earlier)
goes_back_in_run files [] s earlier h back = back
goes_back_in_run files (c ∷ cs) s earlier h back =
    let t = (after_command files c s).0 in
    goes_back_in_run files cs t (s.session ∷ earlier) (command_sound files c s h)
    (goes_back_next s.session t.session earlier back (commands_let_documents_go_on files c s h))

none_at_first : (limits : Limits) → GoesBackIn (new_session limits) (new_session limits ∷ [])
none_at_first limits id d e = cc

pub undo_goes_back_in_every_run : UndoGoesBackInEveryRun
undo_goes_back_in_every_run files commands limits id d e =
    goes_back_in_run files commands (starting (new_session limits)) [] (new_session_sound limits) (none_at_first limits) id d e
