-- A message that is not marked E leaves every text unchanged, and notifies no view of an attempt.
use Rattle.run_laws.proofs.Names.{◌≡◌, ℕ, true, false, List, ◌∷◌, replicate, take, refl, ap, ◌∙◌, subst, Option, Some, None, ◌≢◌, ◌&&◌, eqb-false, and_parts, Kind, Response, marks_of, DocumentChange, Plan, Session, Document, document_at, text_of, Request, changed_document, performed_for, request, record_note, PlansFit, text_of_styled, text_if_there, TellsNoAttempt, OnlyEditsChangeTexts, OnlyEditsTellOfAttempts}
use Rattle.ed_model.specs.declared.plan.DocumentChange.TheVariants as document_change
use Rattle.ed_model.specs.declared.plan.Plan.TheVariants as plan
use Rattle.ed_model.specs.Notes as notes
use Rattle.run_laws.proofs.PlanShapes.{Leave, may_follow, KeepsTo, leave_of}
use Rattle.run_laws.proofs.NoteLemmas.{plans_have_codes}
use Rattle.run_laws.proofs.Going.{own_after, From, table_from}
use Rattle.run_laws.proofs.TableWays.{of_answer}
use Rattle.run_laws.proofs.Choices.{either}

-- a change of a document that is no edit keeps its text
text_kept : (bytes : List ℕ) (change : DocumentChange) (d : Document) → text_of (changed_document bytes change d) ≡ text_of d
text_kept bytes (document_change.StyleRun count style) d = text_of_styled (replicate count style) d
text_kept bytes (document_change.StyleBytes count) d = text_of_styled (take count bytes) d
text_kept bytes _ d = refl

-- so does a plan whose leave does not include edits
own_text_kept : (r : Request) (p : Plan) (l : Leave) → l.edits ≡ false → KeepsTo l p → text_of (own_after r p) ≡ text_of r.document
own_text_kept r (plan.Edit change value after) l barred keeps = let may = (and_parts l.edits (may_follow l after) keeps).0 in absurd (cc)
own_text_kept r plan.Undo l barred keeps = absurd (cc)
own_text_kept r plan.Redo l barred keeps = absurd (cc)
own_text_kept r (plan.ChangeDocument change value) l barred keeps = text_kept r.message.text change r.document
own_text_kept r _ l barred keeps = refl

-- Texts.

abbrev SameText : Document → Document → Type 0
SameText d e = text_of e ≡ text_of d

text_from : (next : ℕ) (o : Option Document) (e : Document) → From SameText next o e → text_of e ≡ text_if_there o
text_from next None e h = ap text_of h.1.1
text_from next (Some d) e h = h

pub only_edits_change_texts : PlansFit → OnlyEditsChangeTexts
only_edits_change_texts fits s view m kind done sound is unmarked e id f found =
    text_from s.next_document (document_at s.documents id) f
    (table_from SameText (λ d. refl) (λ d f views held_by_callers h. h) s fits view m sound
    (λ v k d p sent h fit.
    let same : k ≡ kind = (let there = sent.is in cc) in
    own_text_kept (request s v d m) p (leave_of k) (ap (λ (x : Kind). (marks_of x).e) same ∙ unmarked) sent.keeps)
    done e id f found)

-- Notes.

pub only_edits_tell_of_attempts : OnlyEditsTellOfAttempts
only_edits_tell_of_attempts s view m kind done is unmarked e =
    of_answer (λ (done : Session × Response). TellsNoAttempt done.1) s view m
    (λ v k d p sent.
    let r = request s v d m in
    let reply = (performed_for r p).1 in
    let same : k ≡ kind = (let there = sent.is in cc) in
    let barred : (marks_of k).e ≡ false = ap (λ (x : Kind). (marks_of x).e) same ∙ unmarked in
    let told : TellsNoAttempt reply =
    plans_have_codes (λ code. code ≢ notes.modify_attempt) (eqb-false notes.style_needed notes.modify_attempt refl) (eqb-false notes.save_point_reached notes.modify_attempt refl)
    (eqb-false notes.save_point_left notes.modify_attempt refl) (eqb-false notes.modified notes.modify_attempt refl) r p
    (λ is. let may : (marks_of k).e ≡ true = subst (KeepsTo (leave_of k)) is sent.keeps in absurd (cc)) in
    -- SCN_MACRORECORD is another note
    either TellsNoAttempt (v.records && (marks_of k).r) (record reply { notes = record_note r ∷ reply.notes }) reply (eqb-false notes.macro_record notes.modify_attempt refl, told) told)
    done e
