-- A handle that no marker has is never given again.
use Rattle.run_laws.proofs.Names.{◌≡◌, ℕ, ◌+◌, ◌≤◌, List, ap, ◌∙◌, sym, subst, arith, Some, DocumentChange, Step, Document, document_at, text_of, document_after, changed_document, CommandKeepsSound, PlansFit, document_id, found_below, changed_id}
use Rattle.ed_model.specs.HandleLaws.{StepsGiveNoHandle, ChangesGiveNoOldHandle, NextHandlesNeverFall}
use Rattle.run_laws.specs.HandleRunLaws.{IsGone, HandlesNeverComeBack}
use Rattle.run_laws.proofs.Invariants.{run_holds}

-- no marker of the document with this id has the handle
abbrev GoneFrom : ℕ → ℕ → Document → Type 0
GoneFrom id handle d = d.id ≡ id → IsGone handle d

stepped_gone : StepsGiveNoHandle → (id handle : ℕ) (step : Step) (d : Document) → GoneFrom id handle d → GoneFrom id handle (document_after step d)
stepped_gone steps id handle step d h own =
    let was = h own in
    let fewer = steps d.line_end_types step (text_of d) d.rows handle in
    (was.0, omega (arith, was.1, fewer))

changed_gone : ChangesGiveNoOldHandle → NextHandlesNeverFall → (id handle : ℕ) (bytes : List ℕ) (change : DocumentChange) (d : Document) → GoneFrom id handle d
    → GoneFrom id handle (changed_document bytes change d)
changed_gone changes next id handle bytes change d h own =
    let was = h (sym (changed_id bytes change d) ∙ own) in
    let fewer = changes bytes change d handle was.0 in
    let rises = next bytes change d in
    (omega (arith, was.0, rises), omega (arith, was.1, fewer))

pub handles_never_come_back : PlansFit → CommandKeepsSound → StepsGiveNoHandle → ChangesGiveNoOldHandle → NextHandlesNeverFall → HandlesNeverComeBack
handles_never_come_back fits keeps steps changes next files commands s id handle d e sound found gone still =
    let below = found_below 0 s.session.next_document s.session.documents id d sound.document_ids found in
    run_holds (GoneFrom id handle) (id + 1) (λ x le made own. absurd (let above : id + 1 ≤ x.id = le in omega arith)) (λ x views held_by_callers h own. h own)
    (stepped_gone steps id handle) (λ h x was. was) (changed_gone changes next id handle)
    fits keeps files commands s sound (omega arith)
    (λ k x f own.
    let at : k ≡ id = sym (document_id s.session.documents k x f) ∙ own in
    let there : document_at s.session.documents id ≡ Some x = sym (ap (document_at s.session.documents) at) ∙ f in
    let same : d ≡ x = cc in
    subst (IsGone handle) same gone)
    id e still (document_id _ id e still)
