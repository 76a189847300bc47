-- UNDO and REDO of a sound request never exceed the limit, so that their plans read no text.
use Rattle.state_plans.proofs.Names.{◌≡◌, ℕ, Bool, true, false, cond, [], refl, ap, ◌∙◌, pos, not, Ok, Err, List, TooLong, Change, can_undo, can_redo, undo_changes, redo_changes, Request, answer, size, IsSoundRequest, act_if}
use Rattle.ed_types.specs.declared.kind.Kind.TheVariants.{Undo, Redo}
use Rattle.ed_types.specs.declared.message.Message.{Message}
use Rattle.ed_model.specs.declared.plan.Plan.{Plan}
use Rattle.ed_model.specs.declared.plan.Plan.TheVariants as plan
use Rattle.ed_model.specs.Session.{limit_of}
use Rattle.ed_model.specs.Edits.{stays_within}
use Rattle.ed_model.specs.UndoPlans.{text_steps, undo, redo}
use Rattle.ed_model.specs.UndoMessageLaws.{UndoIsNeverTooLong, RedoIsNeverTooLong}
use Rattle.ed_model.specs.Table.{table_from_view, table_from_document, answered, request}

-- a message with this number, without arguments
abbrev message : (number : ℕ) → Message
message number = record { number = number; w = pos 0; l = pos 0; text = [] }

too_long : (can read_only fits : Bool) (act : Plan) → can ≡ true → read_only ≡ false → fits ≡ false →
    cond (not can) (answer (pos 0)) (cond read_only (Ok plan.Attempt) (cond fits (Ok act) (Err TooLong))) ≡ Err TooLong
too_long false read_only fits act e f g = absurd (cc)
too_long true true fits act e f g = absurd (cc)
too_long true false true act e f g = absurd (cc)
too_long true false false act e f g = refl

acted : (can read_only fits : Bool) (act : Plan) → (can ≡ true → read_only ≡ false → fits ≡ false → ⊥) →
    act_if can read_only act ≡ cond (not can) (answer (pos 0)) (cond read_only (Ok plan.Attempt) (cond fits (Ok act) (Err TooLong)))
acted false read_only fits act never = refl
acted true true fits act never = refl
acted true false true act never = refl
acted true false false act never = absurd (never refl refl refl)

abbrev fits : Request → List Change → Bool
fits r changes = stays_within (limit_of r.session.limits r.document) (size r) (text_steps changes)

pub undo_planned : UndoIsNeverTooLong → (r : Request) → IsSoundRequest r → act_if (can_undo r.document.history) r.document.read_only plan.Undo ≡ undo r
undo_planned law r sound =
    let h = r.document.history in
    let m = message 2176 in
    let q = request r.session r.view r.document m in
    acted (can_undo h) r.document.read_only (fits r (undo_changes h)) plan.Undo (λ can writable long.
    law r.session r.view.id m sound.sound refl
    (ap (table_from_view r.session m) sound.view
    ∙ ap (table_from_document r.session r.view Undo m) sound.document
    ∙ ap (answered Undo q) (too_long (can_undo h) r.document.read_only (fits r (undo_changes h)) plan.Undo can writable long)))

pub redo_planned : RedoIsNeverTooLong → (r : Request) → IsSoundRequest r → act_if (can_redo r.document.history) r.document.read_only plan.Redo ≡ redo r
redo_planned law r sound =
    let h = r.document.history in
    let m = message 2011 in
    let q = request r.session r.view r.document m in
    acted (can_redo h) r.document.read_only (fits r (redo_changes h)) plan.Redo (λ can writable long.
    law r.session r.view.id m sound.sound refl
    (ap (table_from_view r.session m) sound.view
    ∙ ap (table_from_document r.session r.view Redo m) sound.document
    ∙ ap (answered Redo q) (too_long (can_redo h) r.document.read_only (fits r (redo_changes h)) plan.Redo can writable long)))
