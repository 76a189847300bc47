-- The messages UNDO and REDO.
use Rattle.ed_model.proofs.Names.{◌≡◌, ℕ, Bool, true, false, cond, nat_lt, List, length, refl, ap, ◌∙◌, sym, subst, Some, Ok, Err, Undo, Redo, TooLong, Plan, Change, undone, redone, undo_changes, redo_changes, can_undo, can_redo, Session, Document, document_at, with_document, text_of, limit_of, Request, Planned, size, stays_within, text_steps, act_on_history, Scene, scene_of, answered, request, after_undo, after_redo, Answered, undone_text, redone_text, IsUndone, IsRedone, UndoUndoes, RedoRedoes, document_id, replaced_found}
use Rattle.ed_model.specs.declared.plan.Plan.TheVariants as plan
use Rattle.ed_model.specs.Notes as notes
use Rattle.ed_model.proofs.TableLemmas.{at_table}
use Rattle.ed_model.proofs.TransactionLemmas.{undo_makes_its_steps, redo_makes_its_steps}
use Rattle.ed_model.proofs.UndoLemmas.{undo_keeps_earlier_texts, one_redone}
use Rattle.ed_model.proofs.SoundScenes.{changes_keep}

-- undo and redo that are not refused act, if there is a transaction and the document is not read-only
acts_if_written : (P : Planned → Type 0) (act : Plan) (b within : Bool) → b ≡ false → P (Ok act) → P (Err TooLong) → P (cond b (Ok plan.Attempt) (cond within (Ok act) (Err TooLong)))
acts_if_written P act true within e h k = cc
acts_if_written P act false true e h k = h
acts_if_written P act false false e h k = k

acts : (P : Planned → Type 0) (r : Request) (can : Bool) (cs : List Change) (act : Plan) → can ≡ true → r.document.read_only ≡ false → P (Ok act) → P (Err TooLong) → P (act_on_history r can cs act)
acts P r true cs act e f h k = acts_if_written P act r.document.read_only (stays_within (limit_of r.session.limits r.document) (size r) (text_steps cs)) f h k
acts P r false cs act e f h k = cc

-- the scene's document after its last transaction is undone, and after its next one is redone
pub undone_document : (scene : Scene) → IsUndone scene.document (after_undo scene).document
undone_document scene =
    let cs = undo_changes scene.document.history in
    record {
      history = refl;
      read_only = (changes_keep notes.performed_undo (notes.bit_if (nat_lt 1 (length cs)) notes.multi_step) false cs scene).read_only;
      texts = λ k. ap (undone_text k (undone scene.document.history).past) (undo_makes_its_steps scene) ∙ undo_keeps_earlier_texts k scene.document.history (text_of scene.document);
    }

pub redone_document : (scene : Scene) → IsRedone scene.document (after_redo scene).document
redone_document scene =
    let cs = redo_changes scene.document.history in
    record {
      history = refl;
      read_only = (changes_keep notes.performed_redo (notes.bit_if (nat_lt 1 (length cs)) notes.multi_step) false cs scene).read_only;
      texts = λ k. ap (redone_text k (redone scene.document.history).future) (redo_makes_its_steps scene) ∙ one_redone k scene.document.history scene.document.history.future (text_of scene.document) refl;
    }

-- in a list that has the old document, the new one replaces it
found_again : (ds : List Document) (id : ℕ) (d e : Document) → document_at ds id ≡ Some d → e.id ≡ d.id → document_at (with_document e ds) id ≡ Some e
found_again ds id d e found same =
    let here : id ≡ e.id = sym (same ∙ document_id ds id d found) in
    ap (document_at (with_document e ds)) here ∙ replaced_found ds e.id d e refl (ap (document_at ds) (sym here) ∙ found)

-- a fact of the session of a reply
abbrev Afterwards : (Session → Type 0) → Answered → Type 0
Afterwards C (Ok done) = C done.0
Afterwards C (Err refusal) = Unit {0}

pub undo_undoes : UndoUndoes
undo_undoes s view m v d done k e f can write answer =
    let r = request s v d m in
    let cs = undo_changes d.history in
    let same : (after_undo (scene_of r.session r.document)).document.id ≡ d.id = (changes_keep notes.performed_undo (notes.bit_if (nat_lt 1 (length cs)) notes.multi_step) false cs (scene_of r.session r.document)).id in
    let C : Session → Type 0 = λ t. (x : Document) × (document_at t.documents v.document ≡ Some x) × IsUndone d x in
    subst (Afterwards C) answer
    (at_table (Afterwards C) (λ refusal other. tt) s m Undo view v d k e f
    (acts (λ (p : Planned). Afterwards C (answered Undo r p)) r (can_undo d.history) cs plan.Undo can write
    ((after_undo (scene_of r.session r.document)).document, found_again s.documents v.document d (after_undo (scene_of r.session r.document)).document f same, undone_document (scene_of r.session r.document)) tt))

pub redo_redoes : RedoRedoes
redo_redoes s view m v d done k e f can write answer =
    let r = request s v d m in
    let cs = redo_changes d.history in
    let same : (after_redo (scene_of r.session r.document)).document.id ≡ d.id = (changes_keep notes.performed_redo (notes.bit_if (nat_lt 1 (length cs)) notes.multi_step) false cs (scene_of r.session r.document)).id in
    let C : Session → Type 0 = λ t. (x : Document) × (document_at t.documents v.document ≡ Some x) × IsRedone d x in
    subst (Afterwards C) answer
    (at_table (Afterwards C) (λ refusal other. tt) s m Redo view v d k e f
    (acts (λ (p : Planned). Afterwards C (answered Redo r p)) r (can_redo d.history) cs plan.Redo can write
    ((after_redo (scene_of r.session r.document)).document, found_again s.documents v.document d (after_redo (scene_of r.session r.document)).document f same, redone_document (scene_of r.session r.document)) tt))
