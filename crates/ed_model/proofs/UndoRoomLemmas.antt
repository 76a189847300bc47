-- Undo and redo keep the text within its limit, since each text on their way was there before.
use Rattle.ed_model.proofs.Names.{◌≡◌, ℕ, ◌≤◌, Bool, true, false, cond, not, nat_le, List, [], ◌∷◌, length, refl, ap, ◌∙◌, subst, Err, Some, Ok, pos, le-leb, Kind, Undo, Redo, Message, TooLong, Plan, Step, edited, can_undo, can_redo, undo_changes, redo_changes, Session, View, Document, view_at, document_at, limit_of, Request, size, text, answer, size_after, stays_within, text_steps, answered, request, Answered, IsSound, AreStepsWithin, IsSoundRequest, IsRoomFor, UndoIsNeverTooLong, RedoIsNeverTooLong, view_id, length_text, request_document}
use Rattle.ed_model.specs.declared.plan.Plan.TheVariants as plan
use Rattle.ed_model.proofs.SoundSteps.{fits_range, length_after}
use Rattle.ed_model.proofs.SoundHistory.{undo_fits, redo_fits}
use Rattle.ed_model.proofs.TableLemmas.{of_table}

-- the test of `stays_within`, from the lengths of the texts
within_all : (limit n : ℕ) (steps : List Step) (text : List ℕ) → AreStepsWithin limit text steps → length text ≡ n → stays_within limit n steps ≡ true
within_all limit n [] text f e = refl
within_all limit n (x ∷ xs) text f e =
    let after : length (edited x text) ≡ size_after n x = length_after x text (fits_range text x f.0.0) ∙ ap (λ k. size_after k x) e in
    let first : nat_le (size_after n x) limit ≡ true = le-leb (size_after n x) limit (subst (λ k. k ≤ limit) after f.0.1) in
    rw (first, within_all limit (size_after n x) xs (edited x text) f.1 after) refl

pub undo_has_room : (r : Request) → IsSoundRequest r → IsRoomFor r (text_steps (undo_changes r.document.history))
undo_has_room r h =
    within_all (limit_of r.session.limits r.document) (size r) _ (text r) (undo_fits (text r) r.document.history (request_document r h).history) (length_text r.document)

pub redo_has_room : (r : Request) → IsSoundRequest r → IsRoomFor r (text_steps (redo_changes r.document.history))
redo_has_room r h =
    within_all (limit_of r.session.limits r.document) (size r) _ (text r) (redo_fits (text r) r.document.history (request_document r h).history) (length_text r.document)

abbrev IsNotTooLong : Answered → Type 0
IsNotTooLong done = done ≡ Err TooLong → ⊥

acts_in_room : (kind : Kind) (r : Request) (act : Plan) (can written within : Bool) → within ≡ true
    → IsNotTooLong (answered kind r (cond (not can) (answer (pos 0)) (cond written (Ok plan.Attempt) (cond within (Ok act) (Err TooLong)))))
acts_in_room kind r act false written within e f = cc
acts_in_room kind r act true true within e f = cc
acts_in_room kind r act true false true e f = cc
acts_in_room kind r act true false false e f = cc

sound_request : (s : Session) (view : ℕ) (v : View) (d : Document) → IsSound s → view_at s.views view ≡ Some v → document_at s.documents v.document ≡ Some d
    → (m : Message) → IsSoundRequest (request s v d m)
sound_request s view v d h seen found m = record { sound = h; view = ap (view_at s.views) (view_id s.views view v seen) ∙ seen; document = found }

pub undo_is_never_too_long : UndoIsNeverTooLong
undo_is_never_too_long s view m h is =
    of_table IsNotTooLong (λ refusal other e. other (let same : refusal ≡ TooLong = cc in same)) s m Undo view is
    (λ v d seen found. let r = request s v d m in
    acts_in_room Undo r plan.Undo (can_undo d.history) d.read_only (stays_within (limit_of s.limits d) (size r) (text_steps (undo_changes d.history)))
    (undo_has_room r (sound_request s view v d h seen found m)))

pub redo_is_never_too_long : RedoIsNeverTooLong
redo_is_never_too_long s view m h is =
    of_table IsNotTooLong (λ refusal other e. other (let same : refusal ≡ TooLong = cc in same)) s m Redo view is
    (λ v d seen found. let r = request s v d m in
    acts_in_room Redo r plan.Redo (can_redo d.history) d.read_only (stays_within (limit_of s.limits d) (size r) (text_steps (redo_changes d.history)))
    (redo_has_room r (sound_request s view v d h seen found m)))
