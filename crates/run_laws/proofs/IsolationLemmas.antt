-- Two sessions that agree on a document: messages to its views do the same in both, and other messages leave it alone in each.
use Rattle.run_laws.proofs.Names.{◌≡◌, ℕ, ◌==◌, nat_lt, cond, Bool, true, false, List, [], ◌∷◌, ◌++◌, length, map, refl, ap, ◌∙◌, sym, subst, Option, Some, None, Ok, Err, ℤ, pos, bit_or, reverse, option_map, not, AllByRecursion, eqb-true, eqb-false, not-true, not-false, Outcome, Replied, Refused, NoSuchView, Kind, Message, Notice, Response, kind_of, Edit, Follow, Plan, growth, Step, replacement, History, Change, TextStep, ContainerStep, undo_changes, redo_changes, undone, redone, latest_text_step, at_save_point, begins_transaction, Session, Document, View, document_at, view_at, with_document, with_view, watching, lines_in, Request, Planned, text, steps_of, source_bytes, converted_if, levels, Scene, scene_of, session_of, document_after, view_after, step_made, sealed_scene, edit_made, followed, with_caret, caret_behind, leaving, change_performed, changes_performed, transaction_performed, save_point_change, history_performed, place_behind, container_note, last_bits, response, changed_document, changed_lines, changed_view, change_told, table, answered, with_recording, plan_of, performed_for, request, table_from_view, table_from_kind, table_from_document, Answered, IsSound, IsViewOn, ListsItsViews, CommandKeepsSound, Running, starting, after_command, after_message, outcomes, run_to, found_all, document_id, view_id, replaced_found, mapped_found, found_once, IsOwner, view_after_id, changed_lines_id, view_after_document, is_copying, is_about_documents, Sending, sent, shows_other, goes_elsewhere, unless, without_others, own_outcomes, KeepsApart, DocumentsAreApart, changed_lines_document}
use Rattle.ed_types.specs.declared.limits.Limits.{Limits}
use Rattle.ed_model.specs.declared.plan.Source.{Source}
use Rattle.ed_model.specs.declared.plan.Edit.TheVariants as edit
use Rattle.ed_model.specs.declared.plan.Source.TheVariants as source
use Rattle.ed_model.specs.declared.plan.Follow.TheVariants as follow
use Rattle.ed_model.specs.declared.plan.SessionChange.TheVariants as session_change
use Rattle.ed_model.specs.declared.plan.Plan.TheVariants as plan
use Rattle.ed_model.specs.Notes as notes
use Rattle.run_laws.proofs.Walks.{sender_keeps, edit_related, changes_related}
use Rattle.run_laws.proofs.TableWays.{of_table}
use Rattle.run_laws.proofs.Going.{own_id}
use Rattle.run_laws.proofs.PlanShapes.{Leave, KeepsTo, IsShaped, leave_of, plan_is_shaped, same_plan, same_converted}
use Rattle.run_laws.proofs.Alike.{IsAlike, AreAlike, alike_same, all_alike, alike_turned, alike_through, alike_both, alike_kept, FoundAlike, found_alike, own_found, none_found, watching_alike, views_on_alike, neither, both}
use Rattle.run_laws.proofs.LeavingLemmas.{performed_leaves_views, performed_leaves_document, performed_leaves_clipboard, performed_leaves_limits}

abbrev Alike : ℕ → List View → List View → Type 0
Alike id vs ws = AreAlike (λ n. n ≡ id) vs ws

-- Two scenes of one document, with views that are alike.
record SameScenes (id : ℕ) (a b : Scene) : Type 0 where
  document : b.document ≡ a.document
  notes : b.notes ≡ a.notes
  views : Alike id a.views b.views
  listed : AllByRecursion (IsViewOn a.views id) a.document.views

-- the second scene is the first with other views
as_first : (id : ℕ) (a b : Scene) → SameScenes id a b → b ≡ record a { views = b.views }
as_first id a b h =
    ap (λ (d : Document). record { document = d; views = b.views; notes = b.notes }) h.document
    ∙ ap (λ (ns : List Notice). record { document = a.document; views = b.views; notes = ns }) h.notes

listed_after : (id : ℕ) (f : View → View) → ((v : View) → (f v).id ≡ v.id) → ((v : View) → (f v).document ≡ v.document) → (views : List View) (ids : List ℕ)
    → AllByRecursion (IsViewOn views id) ids → AllByRecursion (IsViewOn (map f views) id) ids
listed_after id f same on views [] all = tt
listed_after id f same on views (k ∷ ks) all =
    ((f all.0.0, mapped_found (λ (v : View). v.id) f same views k ∙ ap (option_map f) all.0.1, on all.0.0 ∙ all.0.2), listed_after id f same on views ks all.1)

-- the notes of a step to these views
abbrev step_told : ℕ → ℕ → List Notice → Step → Document → List Notice → List View → List Notice
step_told before after between step d earlier views =
    earlier ++ notes.heard views (notes.before_note before step) ++ between
    ++ notes.heard views (notes.after_note after (growth (lines_in d) (lines_in (document_after step d))) step)

-- scenes after a step, with the same document and the same notes to the same views
moved_same : (id : ℕ) (step : Step) (a b : Scene) (new : Document) (told : List View → List Notice) → new.views ≡ a.document.views → SameScenes id a b
    → SameScenes id (record { document = new; views = map (view_after step a.document) a.views; notes = told (watching a.views a.document) })
    (record { document = new; views = map (view_after step a.document) b.views; notes = told (watching b.views a.document) })
moved_same id step a b new told same h = record {
  document = refl;
  notes = ap told (watching_alike id a.document.views h.views h.listed);
  views = alike_kept (view_after step a.document) (view_after_id step a.document) (view_after_document step a.document) h.views;
  listed = subst (AllByRecursion (IsViewOn (map (view_after step a.document) a.views) id)) (sym same)
      (listed_after id (view_after step a.document) (view_after_id step a.document) (view_after_document step a.document) a.views a.document.views h.listed);
}

step_same : (id : ℕ) (later : Bool) (step : Step) (a b : Scene) → SameScenes id a b → SameScenes id (step_made later step a) (step_made later step b)
step_same id later step a b h =
    let d = a.document in
    let bits = bit_or notes.performed_user (notes.bit_if (begins_transaction later (TextStep step) d.history) notes.start_action) in
    subst (λ (x : Scene). SameScenes id (step_made later step a) (step_made later step x)) (sym (as_first id a b h))
    (moved_same id step a b (step_made later step a).document (λ (w : List View). step_told notes.performed_user bits (leaving w d.history) step d a.notes w) refl h)

sealed_same : (id : ℕ) (a b : Scene) → SameScenes id a b → SameScenes id (sealed_scene a) (sealed_scene b)
sealed_same id a b h =
    subst (λ (x : Scene). SameScenes id (sealed_scene a) (sealed_scene x)) (sym (as_first id a b h))
    (record { document = refl; notes = refl; views = h.views; listed = h.listed })

change_same : (id who several : ℕ) (last lines_changed : Bool) (c : Change) (a b : Scene) → SameScenes id a b
    → SameScenes id (change_performed who several last lines_changed c a) (change_performed who several last lines_changed c b)
change_same id who several last lines_changed (TextStep step) a b h =
    subst (λ (x : Scene). SameScenes id (change_performed who several last lines_changed (TextStep step) a) (change_performed who several last lines_changed (TextStep step) x)) (sym (as_first id a b h))
    (moved_same id step a b (document_after step a.document)
    (λ (w : List View). step_told who (bit_or (bit_or who several) (last_bits last lines_changed)) [] step a.document a.notes w) refl h)
change_same id who several last lines_changed (ContainerStep token coalesce) a b h =
    subst (λ (x : Scene). SameScenes id (change_performed who several last lines_changed (ContainerStep token coalesce) a) (change_performed who several last lines_changed (ContainerStep token coalesce) x)) (sym (as_first id a b h))
    (record {
      document = refl;
      notes = ap (λ (w : List View). a.notes ++ notes.heard w (container_note (bit_or (bit_or who several) (last_bits last lines_changed)) token)) (watching_alike id a.document.views h.views h.listed);
      views = h.views;
      listed = h.listed;
    })

-- a transaction performed in both scenes, with the same history afterwards
transaction_same : (id who : ℕ) (cs : List Change) (new : History) (a b : Scene) → SameScenes id a b → SameScenes id (transaction_performed who cs new a) (transaction_performed who cs new b)
transaction_same id who cs new a b h =
    let several = notes.bit_if (nat_lt 1 (length cs)) notes.multi_step in
    let x = changes_performed who several false cs a in
    let y = changes_performed who several false cs b in
    let k : SameScenes id x y = changes_related (SameScenes id) (λ x y same. same.document) (change_same id) who several false cs a b h in
    let heard : watching y.views y.document ≡ watching x.views x.document =
    ap (watching y.views) k.document ∙ watching_alike id x.document.views k.views k.listed in
    record {
      document = ap (λ (d : Document). record d { history = new }) k.document;
      notes = ap (λ (ns : List Notice). ns ++ save_point_change (watching y.views y.document) (at_save_point b.document.history) (at_save_point new)) k.notes
          ∙ ap (λ (w : List View). x.notes ++ save_point_change w (at_save_point b.document.history) (at_save_point new)) heard
          ∙ ap (λ (d : Document). x.notes ++ save_point_change (watching x.views x.document) (at_save_point d.history) (at_save_point new)) h.document;
      views = k.views;
      listed = k.listed;
    }

-- Sessions that agree on the document of this id.
record Agree (id : ℕ) (s t : Session) : Type 0 where
  document : document_at t.documents id ≡ document_at s.documents id
  views : Alike id s.views t.views
  clipboard : t.clipboard ≡ s.clipboard
  limits : t.limits ≡ s.limits

agree_same : (id : ℕ) (s : Session) → Agree id s s
agree_same id s = record { document = refl; views = all_alike s.views; clipboard = refl; limits = refl }

-- if a message leaves the document alone in the first session, the session after it still agrees with the second
agree_left : (id : ℕ) (s u t : Session) → Agree id s u → Agree id s t → Agree id u t
agree_left id s u t h k = record {
  document = k.document ∙ sym h.document;
  views = alike_through (alike_turned h.views) k.views;
  clipboard = k.clipboard ∙ sym h.clipboard;
  limits = k.limits ∙ sym h.limits;
}

sender_alike : (id : ℕ) (f : View → View) → ((v : View) → (f v).id ≡ v.id) → ((v : View) → (f v).document ≡ v.document) → (sender : ℕ) {vs ws : List View} → Alike id vs ws
    → Alike id (map (λ (v : View). cond (v.id == sender) (f v) v) vs) (map (λ (v : View). cond (v.id == sender) (f v) v) ws)
sender_alike id f same on sender h =
    alike_kept (λ (v : View). cond (v.id == sender) (f v) v) (sender_keeps (λ (w : View). w.id) f same sender) (sender_keeps (λ (w : View). w.document) f on sender) h

caret_alike : (id sender place : ℕ) {vs ws : List View} → Alike id vs ws → Alike id (with_caret sender place vs) (with_caret sender place ws)
caret_alike id sender place h = sender_alike id (λ (v : View). record v { anchor = place; caret = place }) (λ v. refl) (λ v. refl) sender h

behind_alike : (id sender : ℕ) (o : Option Step) {vs ws : List View} → Alike id vs ws → Alike id (caret_behind sender o vs) (caret_behind sender o ws)
behind_alike id sender None h = h
behind_alike id sender (Some step) h = caret_alike id sender (place_behind step) h

followed_agree : (id view : ℕ) (before : List ℕ) (after : Follow) (s t : Session) → Agree id s t → Agree id (followed view before after s) (followed view before after t)
followed_agree id view before follow.Nothing s t h = h
followed_agree id view before (follow.Caret place) s t h = record { document = h.document; views = caret_alike id view place h.views; clipboard = h.clipboard; limits = h.limits }
followed_agree id view before (follow.Target start past) s t h =
    record { document = h.document; views = sender_alike id (λ (v : View). record v { target_start = start; target_end = past }) (λ v. refl) (λ v. refl) view h.views; clipboard = h.clipboard; limits = h.limits }
followed_agree id view before (follow.Clipboard start count) s t h = record { document = h.document; views = h.views; clipboard = refl; limits = h.limits }

-- the same replacement of the document in both sessions
replaced_agree : (id : ℕ) (s t : Session) (old new : Document) → Agree id s t → document_at s.documents id ≡ Some old → new.id ≡ id
    → document_at (with_document new t.documents) id ≡ document_at (with_document new s.documents) id
replaced_agree id s t old new h found is = replaced_found t.documents id old new is (h.document ∙ found) ∙ sym (replaced_found s.documents id old new is found)

-- scenes that are the same, put back into the two sessions
scenes_agree : (id : ℕ) (s t : Session) (old : Document) (a b : Scene) → Agree id s t → document_at s.documents id ≡ Some old → a.document.id ≡ id → SameScenes id a b
    → Agree id (session_of s a) (session_of t b)
scenes_agree id s t old a b h found is same = record {
  document = ap (λ (d : Document). document_at (with_document d t.documents) id) same.document ∙ replaced_agree id s t old a.document h found is;
  views = same.views;
  clipboard = h.clipboard;
  limits = h.limits;
}

put_alike : (id : ℕ) (new : View) {vs ws : List View} → Alike id vs ws → Alike id (with_view new vs) (with_view new ws)
put_alike id new h =
    alike_both (λ (v : View). cond (v.id == new.id) new v)
    (λ v w k. subst (λ n. IsAlike (λ m. m ≡ id) (cond (v.id == new.id) new v) (cond (n == new.id) new w)) (sym k.id) (go v w (v.id == new.id) k)) h
  where
    go : (v w : View) (b : Bool) → IsAlike (λ n. n ≡ id) v w → IsAlike (λ n. n ≡ id) (cond b new v) (cond b new w)
    go v w true k = alike_same new
    go v w false k = k

-- The same request in the other session.
abbrev at : Request → Session → Request
at r t = record r { session = t }

source_same : (r : Request) (t : Session) (from : Source) → t.clipboard ≡ r.session.clipboard → source_bytes (at r t) from ≡ source_bytes r from
source_same r t (source.Clipboard convert) e = same_converted convert r.document (at r t).document t.clipboard refl ∙ ap (λ (bytes : List ℕ). converted_if convert r.document bytes) e
source_same r t _ e = refl

steps_of_same : (r : Request) (t : Session) (change : Edit) → t.clipboard ≡ r.session.clipboard → steps_of (at r t) change ≡ steps_of r change
steps_of_same r t (edit.Replace start count from) e = ap (λ (bytes : List ℕ). replacement start count bytes (text r)) (source_same r t from e)
steps_of_same r t (edit.ConvertLineEnds to) e = refl

-- the results of a plan in both sessions: equal replies, and sessions that agree
record SameDone (id : ℕ) (a b : Session × Response) : Type 0 where
  reply : b.1 ≡ a.1
  sessions : Agree id a.0 b.0

-- a sound request of a view of the document
record OwnRequest (id : ℕ) (r : Request) : Type 0 where
  is : r.document.id ≡ id
  found : document_at r.session.documents id ≡ Some r.document
  listed : AllByRecursion (IsViewOn r.session.views id) r.document.views

scene_same : (id : ℕ) (r : Request) (t : Session) → OwnRequest id r → Agree id r.session t → SameScenes id (scene_of r.session r.document) (scene_of (at r t).session (at r t).document)
scene_same id r t own h = record { document = refl; notes = refl; views = h.views; listed = own.listed }

edit_done : (id : ℕ) (r : Request) (t : Session) (change : Edit) (value : ℤ) (after : Follow) → OwnRequest id r → Agree id r.session t
    → SameDone id (performed_for r (plan.Edit change value after)) (performed_for (at r t) (plan.Edit change value after))
edit_done id r t change value after own h =
    subst (λ (steps : List Step). SameDone id (performed_for r (plan.Edit change value after))
    (followed r.view.id (text r) after (session_of t (edit_made steps (scene_of (at r t).session (at r t).document))), response value [] (edit_made steps (scene_of (at r t).session (at r t).document)).notes)) (sym (steps_of_same r t change h.clipboard))
    (let a = edit_made (steps_of r change) (scene_of r.session r.document) in
    let b = edit_made (steps_of r change) (scene_of (at r t).session (at r t).document) in
    let same : SameScenes id a b = edit_related (SameScenes id) (step_same id) (sealed_same id) (steps_of r change) (scene_of r.session r.document) (scene_of (at r t).session (at r t).document) (scene_same id r t own h) in
    record {
      reply = ap (λ (ns : List Notice). response value [] ns) same.notes;
      sessions = followed_agree id r.view.id (text r) after (session_of r.session a) (session_of t b)
          (scenes_agree id r.session t r.document a b h own.found (own_id r (plan.Edit change value after) ∙ own.is) same);
    })

history_done : (id : ℕ) (r : Request) (t : Session) (who : ℕ) (cs : List Change) (new : History) → OwnRequest id r → Agree id r.session t → (transaction_performed who cs new (scene_of r.session r.document)).document.id ≡ id
    → SameDone id (history_performed r.session r.view r.document who cs new) (history_performed (at r t).session (at r t).view (at r t).document who cs new)
history_done id r t who cs new own h is =
    let a = transaction_performed who cs new (scene_of r.session r.document) in
    let b = transaction_performed who cs new (scene_of (at r t).session (at r t).document) in
    let same : SameScenes id a b = transaction_same id who cs new (scene_of r.session r.document) (scene_of (at r t).session (at r t).document) (scene_same id r t own h) in
    let agree = scenes_agree id r.session t r.document a b h own.found is same in
    record {
      reply = ap (λ (ns : List Notice). response (pos 0) [] ns) same.notes;
      sessions = record {
        document = agree.document;
        views = behind_alike id r.view.id (latest_text_step (reverse cs)) same.views;
        clipboard = h.clipboard;
        limits = h.limits;
      };
    }

performed_done : (id : ℕ) (r : Request) (t : Session) (p : Plan) (l : Leave) → l.documents ≡ false → KeepsTo l p → OwnRequest id r → Agree id r.session t → SameDone id (performed_for r p) (performed_for (at r t) p)
performed_done id r t (plan.Answer value) l barred keeps own h = record { reply = refl; sessions = h }
performed_done id r t (plan.HandOut value start count) l barred keeps own h = record { reply = refl; sessions = h }
performed_done id r t (plan.HandOutStyled start count) l barred keeps own h = record { reply = refl; sessions = h }
performed_done id r t (plan.Edit change value after) l barred keeps own h = edit_done id r t change value after own h
performed_done id r t plan.Attempt l barred keeps own h =
    record { reply = ap (λ (w : List View). response (pos 0) [] (notes.told w (notes.blank notes.modify_attempt))) (watching_alike id r.document.views h.views own.listed); sessions = h }
performed_done id r t plan.Undo l barred keeps own h = history_done id r t notes.performed_undo (undo_changes r.document.history) (undone r.document.history) own h (own_id r plan.Undo ∙ own.is)
performed_done id r t plan.Redo l barred keeps own h = history_done id r t notes.performed_redo (redo_changes r.document.history) (redone r.document.history) own h (own_id r plan.Redo ∙ own.is)
performed_done id r t (plan.ChangeDocument change value) l barred keeps own h =
    let new = changed_document r.message.text change r.document in
    record {
      reply = ap (λ (w : List View). response value [] (change_told r.view w r.document new change)) (watching_alike id r.document.views h.views own.listed);
      sessions = record {
        document = replaced_agree id r.session t r.document new h own.found (own_id r (plan.ChangeDocument change value) ∙ own.is);
        views = alike_kept (changed_lines change r.document) (changed_lines_id change r.document) (changed_lines_document change r.document) h.views;
        clipboard = h.clipboard;
        limits = h.limits;
      };
    }
performed_done id r t (plan.ChangeView change value) l barred keeps own h =
    record { reply = refl; sessions = record { document = h.document; views = put_alike id (changed_view (levels r) change r.view) h.views; clipboard = h.clipboard; limits = h.limits } }
performed_done id r t (plan.ChangeSession (session_change.Copy start count) value) l barred keeps own h =
    record { reply = refl; sessions = record { document = h.document; views = h.views; clipboard = refl; limits = h.limits } }
performed_done id r t (plan.ChangeSession (session_change.CopyText count) value) l barred keeps own h =
    record { reply = refl; sessions = record { document = h.document; views = h.views; clipboard = refl; limits = h.limits } }
performed_done id r t _ l barred keeps own h = absurd (cc)

-- Messages to views of the document.

abbrev SameAnswer : ℕ → Answered → Answered → Type 0
SameAnswer id (Ok a) (Ok b) = SameDone id a b
SameAnswer id (Ok a) (Err f) = ⊥
SameAnswer id (Err e) (Ok b) = ⊥
SameAnswer id (Err e) (Err f) = f ≡ e

answered_same : (id : ℕ) (kind : Kind) (r : Request) (t : Session) (p : Planned) (l : Leave) → l.documents ≡ false → IsShaped l p → OwnRequest id r → Agree id r.session t
    → SameAnswer id (answered kind r p) (answered kind (at r t) p)
answered_same id kind r t (Err refusal) l barred shaped own h = refl
answered_same id kind r t (Ok p) l barred shaped own h =
    let done = performed_done id r t p l barred shaped own h in
    record { reply = ap (with_recording kind r) done.reply; sessions = done.sessions }

plan_same : (kind : Kind) (r : Request) (t : Session) → is_about_documents kind ≡ false → t.clipboard ≡ r.session.clipboard → t.limits ≡ r.session.limits → plan_of kind (at r t) ≡ plan_of kind r
plan_same kind r t barred e f =
    ap (λ (c : List ℕ). plan_of kind (at r (record t { clipboard = c }))) e ∙ ap (λ (l : Limits). plan_of kind (at r (record t { clipboard = r.session.clipboard; limits = l }))) f
    ∙ same_plan kind r t.documents t.views t.next_document t.next_view barred

from_document_same : (id : ℕ) (s t : Session) (v : View) (kind : Kind) (m : Message) (o : Option Document) → is_about_documents kind ≡ false → IsSound s → v.document ≡ id → document_at s.documents v.document ≡ o
    → Agree id s t → SameAnswer id (table_from_document s v kind m o) (table_from_document t v kind m o)
from_document_same id s t v kind m None barred sound on found h = refl
from_document_same id s t v kind m (Some d) barred sound on found h =
    let r = request s v d m in
    let is : d.id ≡ id = document_id s.documents v.document d found ∙ on in
    let own : OwnRequest id r = record {
      is = is;
      found = ap (document_at s.documents) (sym on) ∙ found;
      listed = subst (λ n. AllByRecursion (IsViewOn s.views n) d.views) is (found_all (ListsItsViews s.views) (λ (x : Document). x.id == v.document) s.documents d sound.lists found);
    } in
    subst (λ (p : Planned). SameAnswer id (answered kind r (plan_of kind r)) (answered kind (at r t) p)) (sym (plan_same kind r t barred h.clipboard h.limits))
    (answered_same id kind r t (plan_of kind r) (leave_of kind) barred (plan_is_shaped kind r) own h)

from_kind_same : (id : ℕ) (s t : Session) (v : View) (m : Message) (o : Option Kind) → ((kind : Kind) → o ≡ Some kind → is_about_documents kind ≡ false) → IsSound s → v.document ≡ id → Agree id s t
    → SameAnswer id (table_from_kind s v m o) (table_from_kind t v m o)
from_kind_same id s t v m None barred sound on h = refl
from_kind_same id s t v m (Some kind) barred sound on h =
    subst (λ (o : Option Document). SameAnswer id (table_from_document s v kind m (document_at s.documents v.document)) (table_from_document t v kind m o))
    (sym (ap (document_at t.documents) on ∙ h.document ∙ ap (document_at s.documents) (sym on)))
    (from_document_same id s t v kind m (document_at s.documents v.document) (barred kind refl) sound on refl h)

-- a message to a view of the document, or to no view
own_message : (id : ℕ) (s t : Session) (view : ℕ) (m : Message) → ((kind : Kind) → kind_of m.number ≡ Some kind → is_about_documents kind ≡ false) → IsSound s
    → ((v : View) → view_at s.views view ≡ Some v → v.document ≡ id) → Agree id s t → SameAnswer id (table s view m) (table t view m)
own_message id s t view m barred sound on h = go (view_at s.views view) refl
  where
    go : (o : Option View) → view_at s.views view ≡ o → SameAnswer id (table s view m) (table t view m)
    go None e =
        subst (λ (o : Option View). SameAnswer id (table_from_view s m o) (table t view m)) (sym e)
        (subst (λ (o : Option View). SameAnswer id (Err NoSuchView) (table_from_view t m o)) (sym (none_found view h.views e)) refl)
    go (Some v) e =
        subst (λ (o : Option View). SameAnswer id (table_from_view s m o) (table t view m)) (sym e)
        (subst (λ (o : Option View). SameAnswer id (table_from_kind s v m (kind_of m.number)) (table_from_view t m o)) (sym (own_found view v h.views e (on v e)))
        (from_kind_same id s t v m (kind_of m.number) barred sound (on v e) h))

-- Messages to views of other documents.

once_of : (s : Session) (view : ℕ) (v : View) → IsSound s → view_at s.views view ≡ Some v → IsOwner v.id v.document s.views
once_of s view v sound sees =
    let is = view_id s.views view v sees in
    turn s.views (found_once (λ (v : View). v.id) 0 s.next_view s.views view v sound.view_ids sees)
  where
    turn : (vs : List View) → AllByRecursion (λ (w : View). w.id ≡ view → w ≡ v) vs → IsOwner v.id v.document vs
    turn [] all = tt
    turn (w ∷ ws) all = ((λ e. ap (λ (x : View). x.document) (all.0 (e ∙ view_id s.views view v sees))), turn ws all.1)

-- each view stays on its document
abbrev Placed : List View → List View → Type 0
Placed vs ws = AreAlike (λ n. ⊥) vs ws

message_places : (s : Session) (view : ℕ) (m : Message) → ((kind : Kind) → kind_of m.number ≡ Some kind → is_about_documents kind ≡ false) → IsSound s
    → Placed s.views (after_message s (table s view m)).0.session.views
message_places s view m barred sound =
    of_table (λ (x : Answered). Placed s.views (after_message s x).0.session.views) (λ refusal other. all_alike s.views) s view m
    (λ v kind d p sent.
    performed_leaves_views (λ n. ⊥) (request s v d m) p (leave_of kind) (λ e. e) (barred kind sent.is) sent.keeps (document_id s.documents v.document d sent.finds)
    (once_of s view v sound sent.sees))

others_message : (id : ℕ) (s : Session) (view : ℕ) (m : Message)
    → ((kind : Kind) → kind_of m.number ≡ Some kind → (is_about_documents kind ≡ false) × (is_copying kind ≡ false)) → IsSound s
    → ((v : View) → view_at s.views view ≡ Some v → v.document ≡ id → ⊥) → Agree id s (after_message s (table s view m)).0.session
others_message id s view m barred sound other =
    of_table (λ (x : Answered). Agree id s (after_message s x).0.session) (λ refusal other. agree_same id s) s view m
    (λ v kind d p sent.
    let r = request s v d m in
    let none = barred kind sent.is in
    let is = document_id s.documents v.document d sent.finds in
    let apart = other v sent.sees in
    record {
      document = performed_leaves_document r p (leave_of kind) id none.0 sent.keeps (λ e. apart (sym is ∙ sym e));
      views = performed_leaves_views (λ n. n ≡ id) r p (leave_of kind) apart none.0 sent.keeps is (once_of s view v sound sent.sees);
      clipboard = performed_leaves_clipboard r p (leave_of kind) none.0 none.1 sent.keeps;
      limits = performed_leaves_limits r p (leave_of kind) none.0 sent.keeps;
    })

-- A message that goes to another document's view still does so after other messages.

elsewhere_stays : (id k : ℕ) (vs ws : List View) → Placed vs ws → shows_other id (view_at ws k) ≡ shows_other id (view_at vs k)
elsewhere_stays id k vs ws h = go (found_alike k h)
  where
    go : {o p : Option View} → FoundAlike (λ n. ⊥) o p → shows_other id p ≡ shows_other id o
    go neither = refl
    go (both k) = ap (λ n. not (n == id)) k.document

is_own : (id : ℕ) (o : Option View) (v : View) → shows_other id o ≡ false → o ≡ Some v → v.document ≡ id
is_own id o v e f = eqb-true v.document id (not-false (v.document == id) (ap (shows_other id) (sym f) ∙ e))

is_others : (id : ℕ) (o : Option View) (v : View) → shows_other id o ≡ true → o ≡ Some v → v.document ≡ id → ⊥
is_others id o v e f = eqb-false v.document id (not-true (v.document == id) (ap (shows_other id) (sym f) ∙ e))

-- Lists of messages.

record SameRuns (id : ℕ) (own alone : List Outcome) (s t : Session) : Type 0 where
  outcomes_agree : own ≡ alone
  sessions : Agree id s t

after_same : (id : ℕ) (s t : Session) (x y : Answered) → SameAnswer id x y → Agree id s t → ((after_message s x).1 ≡ (after_message t y).1) × Agree id (after_message s x).0.session (after_message t y).0.session
after_same id s t (Ok a) (Ok b) same h = (ap Replied (sym same.reply), same.sessions)
after_same id s t (Ok a) (Err f) same h = absurd same
after_same id s t (Err e) (Ok b) same h = absurd same
after_same id s t (Err e) (Err f) same h = (ap Refused (sym same), h)

messages_apart : CommandKeepsSound → (first : Session) (id : ℕ) (ms : List Sending) (s t : Running) → AllByRecursion (KeepsApart first id) ms → IsSound s.session → Placed first.views s.session.views
    → Agree id s.session t.session
    → SameRuns id (own_outcomes first id ms s) (outcomes [] (map sent (without_others first id ms)) t) (run_to [] (map sent ms) s).session (run_to [] (map sent (without_others first id ms)) t).session
messages_apart keeps first id [] s t all sound placed h = record { outcomes_agree = refl; sessions = h }
messages_apart keeps first id (m ∷ ms) s t all sound placed h =
    let next = (after_command [] (sent m) s).0 in
    let sound_next : IsSound next.session = keeps [] (sent m) s sound in
    let places = message_places s.session m.0 m.1 (λ kind is. (all.0 kind is).0) sound in
    let placed_next = alike_through placed places in
    go (goes_elsewhere first id m) refl (λ u k. messages_apart keeps first id ms next u all.1 sound_next placed_next k)
  where
    go : (b : Bool) → goes_elsewhere first id m ≡ b
        → ((u : Running) → Agree id (after_command [] (sent m) s).0.session u.session
        → SameRuns id (own_outcomes first id ms (after_command [] (sent m) s).0) (outcomes [] (map sent (without_others first id ms)) u) (run_to [] (map sent ms) (after_command [] (sent m) s).0).session (run_to [] (map sent (without_others first id ms)) u).session)
        → SameRuns id (unless b (after_command [] (sent m) s).1 (own_outcomes first id ms (after_command [] (sent m) s).0)) (outcomes [] (map sent (unless b m (without_others first id ms))) t)
        (run_to [] (map sent ms) (after_command [] (sent m) s).0).session (run_to [] (map sent (unless b m (without_others first id ms))) t).session
    go true e rest =
        let there : shows_other id (view_at s.session.views m.0) ≡ true = elsewhere_stays id m.0 first.views s.session.views placed ∙ e in
        let left = others_message id s.session m.0 m.1 (λ kind is. ((all.0 kind is).0, (all.0 kind is).1 e)) sound (λ v sees. is_others id (view_at s.session.views m.0) v there sees) in
        rest t (agree_left id s.session (after_command [] (sent m) s).0.session t.session left h)
    go false e rest =
        let here : shows_other id (view_at s.session.views m.0) ≡ false = elsewhere_stays id m.0 first.views s.session.views placed ∙ e in
        let same = own_message id s.session t.session m.0 m.1 (λ kind is. (all.0 kind is).0) sound (λ v sees. is_own id (view_at s.session.views m.0) v here sees) h in
        let both = after_same id s.session t.session (table s.session m.0 m.1) (table t.session m.0 m.1) same h in
        let after = rest (after_command [] (sent m) t).0 both.1 in
        record {
          outcomes_agree = ap (λ (o : Outcome). o ∷ own_outcomes first id ms (after_command [] (sent m) s).0) both.0
              ∙ ap (λ (os : List Outcome). (after_command [] (sent m) t).1 ∷ os) after.outcomes_agree;
          sessions = after.sessions;
        }

pub documents_are_apart : CommandKeepsSound → DocumentsAreApart
documents_are_apart keeps s id messages sound all =
    let same = messages_apart keeps s id messages (starting s) (starting s) all sound (all_alike s.views) (agree_same id s) in
    (same.outcomes_agree, sym same.sessions.document, views_on_alike id same.sessions.views)
