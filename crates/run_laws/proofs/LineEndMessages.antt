-- The document after CONVERTEOLS.
use Rattle.run_laws.proofs.Names.{◌≡◌, ℕ, false, cond, ◌&&◌, List, ap, subst, ◌∙◌, sym, ℤ, pos, Option, Some, None, Ok, Err, option_map, nat_le, true≢false, and_parts, cond_both, Kind, ConvertEols, TooLong, Response, LineEnd, Plan, converted, conversion_steps, Session, Document, document_at, with_document, text_of, limit_of, Request, Planned, text, size, with_argument, argument, has_steps, stays_within, edit_plan, scene_of, edit_made, table, answered, plan_of, performed_for, with_recording, request, document_id, replaced_found, edit_made_id, edit_made_text, ConvertEolsConverts}
use Rattle.ed_model.specs.declared.plan.Edit.TheVariants as edit
use Rattle.ed_model.specs.declared.plan.Follow.TheVariants as follow
use Rattle.ed_model.specs.declared.plan.Plan.TheVariants as plan
use Rattle.ed_model.specs.LinePlans.{line_end_kind, convert_eols}
use Rattle.run_laws.proofs.Choices.{either}
use Rattle.run_laws.proofs.LineEndLemmas.{steps_convert}
use Rattle.run_laws.proofs.TableWays.{table_at}

-- if there is a plan, the request's document has this text after it
abbrev Leaves : Request → List ℕ → Planned → Type 0
Leaves r new (Err refusal) = Unit {0}
Leaves r new (Ok what) = option_map text_of (document_at (performed_for r what).0.documents r.view.document) ≡ Some new

-- the request's document is the document of its view
abbrev IsFound : Request → Type 0
IsFound r = document_at r.session.documents r.view.document ≡ Some r.document

edit_leaves : (r : Request) (to : LineEnd) → IsFound r → Leaves r (converted to (text r)) (Ok (plan.Edit (edit.ConvertLineEnds to) (pos 0) follow.Nothing))
edit_leaves r to found =
    let steps = conversion_steps to (text r) in
    let new : Document = (edit_made steps (scene_of r.session r.document)).document in
    let own : r.document.id ≡ r.view.document = document_id r.session.documents r.view.document r.document found in
    let id : new.id ≡ r.view.document = edit_made_id steps (scene_of r.session r.document) ∙ own in
    let there : document_at (with_document new r.session.documents) r.view.document ≡ Some new = replaced_found r.session.documents r.view.document r.document new id found in
    ap (option_map text_of) there ∙ ap Some (edit_made_text steps (scene_of r.session r.document) ∙ steps_convert to (text r))

mode_leaves : (r : Request) (to : LineEnd) → IsFound r → r.document.read_only ≡ false
    → Leaves r (converted to (text r)) (edit_plan r (edit.ConvertLineEnds to) (pos 0) follow.Nothing)
mode_leaves r to found writable =
    let steps = conversion_steps to (text r) in
    let done : Plan = plan.Edit (edit.ConvertLineEnds to) (pos 0) follow.Nothing in
    let within : Planned = cond (stays_within (limit_of r.session.limits r.document) (size r) steps) (Ok done) (Err TooLong) in
    cond_both (r.document.read_only && has_steps steps) (Ok plan.Attempt) within (Leaves r (converted to (text r)))
    (λ t. absurd (true≢false (sym (and_parts r.document.read_only (has_steps steps) t).0 ∙ writable)))
    (λ _. either (Leaves r (converted to (text r))) (stays_within (limit_of r.session.limits r.document) (size r) steps) (Ok done) (Err TooLong) (edit_leaves r to found) tt)

plan_leaves : (r : Request) (mode : ℕ) → r.message.w ≡ pos mode → IsFound r → r.document.read_only ≡ false
    → Leaves r (converted (line_end_kind mode) (text r)) (convert_eols r)
plan_leaves r mode w found writable =
    let f : ℕ → Planned = λ n. edit_plan r (edit.ConvertLineEnds (line_end_kind n)) (pos 0) follow.Nothing in
    subst (λ (x : ℤ). Leaves r (converted (line_end_kind mode) (text r)) (argument 0 2 x f)) (sym w)
    (either (λ (o : Option ℕ). Leaves r (converted (line_end_kind mode) (text r)) (with_argument o f)) (nat_le 0 mode && nat_le mode 2) (Some mode) None
    (mode_leaves r (line_end_kind mode) found writable) tt)

answer_leaves : (kind : Kind) (r : Request) (new : List ℕ) (p : Planned) → Leaves r new p → (done : Session × Response) → answered kind r p ≡ Ok done
    → option_map text_of (document_at done.0.documents r.view.document) ≡ Some new
answer_leaves kind r new (Err refusal) h done e = absurd (cc)
answer_leaves kind r new (Ok what) h done e =
    let same : ((performed_for r what).0, with_recording kind r (performed_for r what).1) ≡ done = cc in
    sym (ap (λ (x : Session × Response). option_map text_of (document_at x.0.documents r.view.document)) same) ∙ h

pub convert_eols_converts : ConvertEolsConverts
convert_eols_converts s view m v d mode done is w sees finds writable e =
    let r : Request = request s v d m in
    let here : table s view m ≡ answered ConvertEols r (plan_of ConvertEols r) = table_at s view m v ConvertEols d sees is finds in
    answer_leaves ConvertEols r (converted (line_end_kind mode) (text_of d)) (plan_of ConvertEols r) (plan_leaves r mode w finds writable) done (sym here ∙ e)
