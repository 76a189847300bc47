-- From facts on plans to facts on the table, and from the table to runs.
use Rattle.ed_model.proofs.Names.{◌≡◌, ℕ, Bool, true, false, List, [], ◌∷◌, refl, ap, ◌∙◌, sym, Option, Some, None, Result, Ok, Err, Kind, Message, Refusal, TooLong, Command, OpenView, CloseView, LoadFile, SendMessage, Expect, kind_of, Session, View, Document, view_at, document_at, Request, Planned, table, table_from_view, table_from_kind, table_from_document, answered, plan_of, request, opened, closed, Running, after_command, after_opening, after_closing, after_message, run_to, loaded, file_at, Answered, LeavesSession, QueriesLeaveTheSession, RefusedCommandsLeaveTheSession, is_refused, kept_unless, unrefused, RefusedCommandsCanBeLeftOut}
use Rattle.ed_model.proofs.QuietLemmas.{IsQuiet, query_is_quiet, quiet_plan_leaves}

same_view : (v w : View) (found : Option View) → found ≡ Some v → found ≡ Some w → w ≡ v
same_view v w found e f = cc

same_document : (v w : View) (d c : Document) (ds : List Document) → w ≡ v → document_at ds v.document ≡ Some d → document_at ds w.document ≡ Some c → c ≡ d
same_document v w d c ds same e f = cc

-- If each refusal except TooLong has P, and so does the answer of the kind to each document, the answer of the table has P.
module _ (P : Answered → Type 0) (refused : (e : Refusal) → (e ≡ TooLong → ⊥) → P (Err e)) (s : Session) (m : Message) (kind : Kind) where
  -- the answer of the kind at a view and a document has P
  abbrev HasAt : View → Document → Type 0
  HasAt v d = P (answered kind (request s v d m) (plan_of kind (request s v d m)))

  from_document : (v : View) (o : Option Document) → ((d : Document) → o ≡ Some d → HasAt v d) → P (table_from_document s v kind m o)
  from_document v None h = refused _ (λ e. cc)
  from_document v (Some d) h = h d refl

  from_kind : (v : View) (k : Option Kind) → k ≡ Some kind → ((d : Document) → document_at s.documents v.document ≡ Some d → HasAt v d) → P (table_from_kind s v m k)
  from_kind v k e h = rw e (from_document v (document_at s.documents v.document) h)

  from_view : (o : Option View) → kind_of m.number ≡ Some kind → ((v : View) (d : Document) → o ≡ Some v → document_at s.documents v.document ≡ Some d → HasAt v d)
      → P (table_from_view s m o)
  from_view None e h = refused _ (λ e. cc)
  from_view (Some v) e h = from_kind v (kind_of m.number) e (λ d. h v d refl)

  -- P for the answer of a message, from P for every view and document that the message can meet
  pub of_table : (view : ℕ) → kind_of m.number ≡ Some kind
      → ((v : View) (d : Document) → view_at s.views view ≡ Some v → document_at s.documents v.document ≡ Some d → HasAt v d) → P (table s view m)
  of_table view e h = from_view (view_at s.views view) e h

  -- .. and from P for one view and one document
  pub at_table : (view : ℕ) (v : View) (d : Document) → kind_of m.number ≡ Some kind → view_at s.views view ≡ Some v → document_at s.documents v.document ≡ Some d
      → HasAt v d → P (table s view m)
  at_table view v d k e f h =
      of_table view k (λ w c seen found. rw (same_view v w _ e seen, same_document v w d c s.documents (same_view v w _ e seen) f found) h)

quiet_answer : (kind : Kind) (r : Request) (p : Planned) → IsQuiet p → LeavesSession r.session (answered kind r p)
quiet_answer kind r (Err e) h = tt
quiet_answer kind r (Ok p) h = quiet_plan_leaves r p h

pub queries_leave_the_session : QueriesLeaveTheSession
queries_leave_the_session s view m kind e q =
    of_table (LeavesSession s) (λ refusal other. tt) s m kind view e
    (λ v d seen found. quiet_answer kind (request s v d m) _ (query_is_quiet kind (request s v d m) q))

-- Runs.

opening_refused : (s : Session) (done : Result (Session × ℕ) Refusal) → is_refused (after_opening s done).1 ≡ true → (after_opening s done).0.session ≡ s
opening_refused s (Ok done) e = cc
opening_refused s (Err refusal) e = refl

closing_refused : (s : Session) (done : Result Session Refusal) → is_refused (after_closing s done).1 ≡ true → (after_closing s done).0.session ≡ s
closing_refused s (Ok done) e = cc
closing_refused s (Err refusal) e = refl

message_refused : (s : Session) (done : Answered) → is_refused (after_message s done).1 ≡ true → (after_message s done).0.session ≡ s
message_refused s (Ok done) e = cc
message_refused s (Err refusal) e = refl

-- a refused command leaves the session unchanged
pub refused_leaves : (files : List (List ℕ)) (c : Command) (s : Running) → is_refused (after_command files c s).1 ≡ true → (after_command files c s).0.session ≡ s.session
refused_leaves files OpenView s e = opening_refused s.session (opened s.session) e
refused_leaves files (CloseView view) s e = closing_refused s.session (closed s.session view) e
refused_leaves files (LoadFile view file) s e = message_refused s.session (loaded s.session view (view_at s.session.views view) (file_at files file)) e
refused_leaves files (SendMessage view message) s e = message_refused s.session (table s.session view message) e
refused_leaves files (Expect value) s e = refl

pub refused_commands_leave_the_session : RefusedCommandsLeaveTheSession
refused_commands_leave_the_session files c s refusal e = refused_leaves files c s (ap is_refused e)

-- the session after a command depends only on the session before it
pub same_session_after : (files : List (List ℕ)) (c : Command) (s t : Running) → s.session ≡ t.session → (after_command files c s).0.session ≡ (after_command files c t).0.session
same_session_after files OpenView s t e = ap (λ (x : Session). (after_opening x (opened x)).0.session) e
same_session_after files (CloseView view) s t e = ap (λ (x : Session). (after_closing x (closed x view)).0.session) e
same_session_after files (LoadFile view file) s t e = ap (λ (x : Session). (after_message x (loaded x view (view_at x.views view) (file_at files file))).0.session) e
same_session_after files (SendMessage view message) s t e = ap (λ (x : Session). (after_message x (table x view message)).0.session) e
same_session_after files (Expect value) s t e = e

pub same_session_after_run : (files : List (List ℕ)) (cs : List Command) (s t : Running) → s.session ≡ t.session → (run_to files cs s).session ≡ (run_to files cs t).session
same_session_after_run files [] s t e = e
same_session_after_run files (c ∷ cs) s t e =
    same_session_after_run files cs (after_command files c s).0 (after_command files c t).0 (same_session_after files c s t e)

left_out : (files : List (List ℕ)) (c : Command) (kept : List Command) (s : Running) (b : Bool) →
    (b ≡ true → (after_command files c s).0.session ≡ s.session) →
    (run_to files (kept_unless b c kept) s).session ≡ (run_to files kept (after_command files c s).0).session
left_out files c kept s true h = same_session_after_run files kept s (after_command files c s).0 (sym (h refl))
left_out files c kept s false h = refl

pub refused_commands_can_be_left_out : RefusedCommandsCanBeLeftOut
refused_commands_can_be_left_out files [] s = refl
refused_commands_can_be_left_out files (c ∷ cs) s =
    left_out files c (unrefused files cs (after_command files c s).0) s (is_refused (after_command files c s).1) (refused_leaves files c s)
    ∙ refused_commands_can_be_left_out files cs (after_command files c s).0
