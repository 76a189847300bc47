-- What a run makes of a command that is refused.
use Rattle.editor_session.proofs.Names.{◌≡◌, ◌⊎◌, ◌↔◌, ℕ, refl, ap, sym, ◌∙◌, inl, inr, Some, None, Ok, Err, List, [], ◌∷◌, ◌++◌, take, drop, zero, suc, ◌+◌, slice_get, arith, IfOk, OnOk, IsErr, true, false, ◌||◌, ◌<◌, ◌-◌, length, subst, ◌≢◌, Result, Option, IsOk, IfErr, is_some, nat_le, nat_lt, cond_both, Refusal, OutOfMemory, Kind, Message, kind_of, Response, Session, View, Document, view_at, document_at, IsSound, PlansFit, IsFitPlanned, Request, Planned, opened, closed, closed_view, table, table_from_view, table_from_kind, table_from_document, answered, request, plan_of, Running, outcomes, run_to, after_command, after_message, loaded, file_at, set_text_message, AnswersBy, append_assoc}
use Rattle.std.specs.declared.alloc.AllocError.{AllocError}
use Rattle.ed_types.specs.declared.script.Command.{Command}
use Rattle.ed_types.specs.declared.script.Outcome.{Outcome}
use Rattle.ed_types.specs.declared.script.Outcome.TheVariants.{Refused}
use Rattle.ed_model.specs.proved.Lists.{drop_at_index}
use Rattle.std.proofs.lemmas.List.{take_more}
use Rattle.std.proofs.lemmas.Option.{get_or_from_slice_get, slice_get_within}
use Rattle.editor_session.proofs.Questions.{sound_request}

-- a refusal that did not end the run is one that is said
said_so : {says : Result (Session × Response) Refusal} {refusal : Refusal} → (refusal ≡ OutOfMemory) ⊎ (says ≡ Err refusal) → ((false ≡ true) ↔ (refusal ≡ OutOfMemory)) → says ≡ Err refusal
said_so (inl e) memory = let bad : false ≡ true = memory.1 e in absurd (cc)
said_so (inr e) memory = e

pub refused_state : (run new : Running) (says : Result (Session × Response) Refusal) (session : Session) (refusal : Refusal) (result : Result Outcome AllocError) →
    AnswersBy {R = Response} says run.session session (Err refusal) → (IsErr result ↔ (refusal ≡ OutOfMemory)) →
    OnOk result (new ≡ record { session = session; value = None }) → OnOk result (new ≡ (after_message run.session says).0)
refused_state run new says session refusal (Err e) answer memory state = tt
refused_state run new says session refusal (Ok o) answer memory state =
    state ∙ ap (λ s. record { session = s; value = None }) answer.0 ∙ ap (λ t. (after_message run.session t).0) (sym (said_so answer.1 memory))

pub refused_outcome : (run : Running) (says : Result (Session × Response) Refusal) (session : Session) (refusal : Refusal) (result : Result Outcome AllocError) →
    AnswersBy {R = Response} says run.session session (Err refusal) → (IsErr result ↔ (refusal ≡ OutOfMemory)) →
    IfOk result (λ o. o ≡ Refused refusal) → IfOk result (λ o. o ≡ (after_message run.session says).1)
refused_outcome run says session refusal (Err e) answer memory outcome = tt
refused_outcome run says session refusal (Ok o) answer memory outcome = outcome ∙ ap (λ t. (after_message run.session t).1) (sym (said_so answer.1 memory))

-- Commands that take no memory.

-- a run goes on behind a refusal that is not for want of memory
pub goes_on : (result : Result Outcome AllocError) (refusal : Refusal) → (IsErr result ↔ (refusal ≡ OutOfMemory)) → refusal ≢ OutOfMemory → IsOk result
goes_on (Ok o) refusal memory other = refl
goes_on (Err e) refusal memory other = absurd (other (memory.0 refl))

-- and closing is refused for no other than that no view has the id
pub closing_refused : (s : Session) (view : ℕ) (refusal : Refusal) → closed s view ≡ Err refusal → refusal ≢ OutOfMemory
closing_refused s view refusal = elim (view_at s.views view) as (λ o. closed_view s o ≡ Err refusal → refusal ≢ OutOfMemory) [ None ↦ λ e is. absurd (cc) | Some v ↦ λ e. absurd (cc) ]

-- Commands that are refused.

-- what is answered where it is said that a call is refused
abbrev pub IsSaid : {A B : Type 0} → Result A Refusal → Result B Refusal → Type 0
IsSaid says answer = IfErr says (λ refusal. answer ≡ Err refusal)

-- want of memory is no refusal that is said
abbrev pub IsOther : {A : Type 0} → Result A Refusal → Type 0
IsOther says = IfErr says (λ refusal. refusal ≢ OutOfMemory)

-- a run goes on behind a refusal that is said; `outcome` is that of what is said
pub said_goes_on : {A : Type 0} (B : Type 0) (says : Result A Refusal) (refusal came : Refusal) (result : Result Outcome AllocError) (outcome : Result A Refusal → Outcome) → ((done : A) → outcome (Ok done) ≡ Refused came → ⊥) →
    IsOther says → IsSaid {B = B} says (Err refusal) → (IsErr result ↔ (refusal ≡ OutOfMemory)) → outcome says ≡ Refused came → IsOk result
said_goes_on B (Ok done) refusal came result outcome never other said memory e = absurd (never done e)
said_goes_on B (Err x) refusal came result outcome never other said memory e =
    let same : x ≡ refusal = cc in goes_on result refusal memory (subst (λ r. r ≢ OutOfMemory) same other)

-- a view that is not opened: there are too many
pub opening_is_other : (s : Session) → IsOther (opened s)
opening_is_other s = cond_both (nat_le s.limits.views (length s.views) || nat_lt s.limits.ids s.next_view || nat_lt s.limits.ids s.next_document) _ _ IsOther (λ _ e. absurd (cc)) (λ _. tt)

-- a message that is refused, and a file that is not loaded
pub message_is_other : PlansFit → (s : Session) → IsSound s → (view : ℕ) (m : Message) → IsOther (table s view m)
message_is_other fit s sound view m = from_view (view_at s.views view) refl
  where
    from_plan : (kind : Kind) (r : Request) (p : Planned) → IsFitPlanned r p → IsOther (answered kind r p)
    from_plan kind r (Ok what) fits = tt
    from_plan kind r (Err refusal) fits = fits

    from_document : (v : View) (kind : Kind) (o : Option Document) → view_at s.views view ≡ Some v → document_at s.documents v.document ≡ o → IsOther (table_from_document s v kind m o)
    from_document v kind None seen there = λ e. absurd (cc)
    from_document v kind (Some d) seen there = let r = request s v d m in from_plan kind r (plan_of kind r) (fit kind r (sound_request s view m v d sound seen there))

    from_kind : (v : View) (kind : Option Kind) → view_at s.views view ≡ Some v → IsOther (table_from_kind s v m kind)
    from_kind v None seen = λ e. absurd (cc)
    from_kind v (Some kind) seen = from_document v kind (document_at s.documents v.document) seen refl

    from_view : (o : Option View) → view_at s.views view ≡ o → IsOther (table_from_view s m o)
    from_view None seen = λ e. absurd (cc)
    from_view (Some v) seen = from_kind v (kind_of m.number) seen

pub loading_is_other : PlansFit → (s : Session) → IsSound s → (view : ℕ) (v : Option View) (file : Option (List ℕ)) → IsOther (loaded s view v file)
loading_is_other fit s sound view None file = λ e. absurd (cc)
loading_is_other fit s sound view (Some v) None = λ e. absurd (cc)
loading_is_other fit s sound view (Some v) (Some bytes) = message_is_other fit s sound view (set_text_message bytes)

-- where the view and the file are there, it is said of the load what is said of the message
pub loading_says : (s : Session) (view : ℕ) (v : Option View) (file : Option (List ℕ)) (bytes : List ℕ) (answer : Result Response Refusal) → is_some v ≡ true → file ≡ Some bytes →
    IsSaid (table s view (set_text_message bytes)) answer → IsSaid (loaded s view v file) answer
loading_says s view None file bytes answer there is said = absurd (cc)
loading_says s view (Some v) file bytes answer there is said = subst (λ f. IsSaid (loaded s view (Some v) f) answer) (sym is) said

pub file_there : (files : List (List ℕ)) (file : ℕ) (bytes : List ℕ) → 0 < file → slice_get files (file - 1) ≡ Some bytes → file_at files file ≡ Some bytes
file_there files zero bytes some there = absurd (omega arith)
file_there files (suc k) bytes some there = let before : suc k - 1 ≡ k = omega arith in subst (λ i. slice_get files i ≡ Some bytes) before there

-- One command more.

run_on : (files : List (List ℕ)) (first later : List Command) (run : Running) → run_to files (first ++ later) run ≡ run_to files later (run_to files first run)
run_on files [] later run = refl
run_on files (c ∷ cs) later run = run_on files cs later (after_command files c run).0

pub one_more_outcome : (files : List (List ℕ)) (commands : List Command) (i : ℕ) (c : Command) (now new : Running) (done more all : List Outcome) (o : Outcome) → slice_get commands i ≡ Some c →
    new ≡ (after_command files c now).0 → o ≡ (after_command files c now).1 → more ≡ done ++ o ∷ [] →
    done ++ outcomes files (drop i commands) now ≡ all → more ++ outcomes files (drop (i + 1) commands) new ≡ all
one_more_outcome files commands i c now new done more all o e state outcome grown h =
    let after : i + 1 ≡ suc i = omega arith in
    let rest = outcomes files (drop (suc i) commands) (after_command files c now).0 in
    rw (after, grown, state, outcome) (append_assoc done ((after_command files c now).1 ∷ []) rest ∙ sym (ap (λ cs. done ++ outcomes files cs now) (drop_at_index i commands c e)) ∙ h)

pub one_more_state : (files : List (List ℕ)) (commands : List Command) (i : ℕ) (c : Command) (now new end : Running) → slice_get commands i ≡ Some c →
    new ≡ (after_command files c now).0 → run_to files (drop i commands) now ≡ end → run_to files (drop (i + 1) commands) new ≡ end
one_more_state files commands i c now new end e state h =
    let after : i + 1 ≡ suc i = omega arith in
    rw (after, state) (sym (ap (λ cs. run_to files cs now) (drop_at_index i commands c e)) ∙ h)

pub one_more_done : (files : List (List ℕ)) (commands : List Command) (i : ℕ) (c : Command) (start now new : Running) → slice_get commands i ≡ Some c →
    new ≡ (after_command files c now).0 → now ≡ run_to files (take i commands) start → new ≡ run_to files (take (i + 1) commands) start
one_more_done files commands i c start now new e state h =
    let next : take (i + 1) commands ≡ take i commands ++ c ∷ [] =
    take_more commands i c (slice_get_within commands i c e) ∙ ap (λ x. take i commands ++ x ∷ []) (get_or_from_slice_get commands i c c e) in
    rw next (state ∙ ap (λ r. (after_command files c r).0) h ∙ sym (run_on files (take i commands) (c ∷ []) start))
