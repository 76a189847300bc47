-- The path of a message through the table, and of a command.
use Rattle.run_laws.proofs.Names.{◌≡◌, ℕ, List, refl, ap, ◌∙◌, Option, Some, None, Result, Ok, Err, ℤ, Kind, Message, Refusal, NoSuchView, UnknownMessage, NoSuchDocument, BadArgument, Command, OpenView, CloseView, LoadFile, SendMessage, Expect, Outcome, Expected, Response, kind_of, Session, View, Document, view_at, document_at, Answered, table, table_from_view, table_from_kind, table_from_document, answered, plan_of, request, opened, closed, Running, after_command, after_opening, after_closing, after_message, loaded, file_at, set_text_message, is_met, Plan, Planned, OutOfMemory, subst, IfOk, IfOk-at_ok, performed_for, with_recording}
use Rattle.run_laws.proofs.PlanShapes.{KeepsTo, IsShaped, leave_of, plan_is_shaped}

-- A message to a view on a document, with its plan, which keeps to the leave of the kind.
pub record Sent (s : Session) (view : ℕ) (m : Message) (v : View) (kind : Kind) (d : Document) (p : Plan) : Type 0 where
  pub sees : view_at s.views view ≡ Some v
  pub is : kind_of m.number ≡ Some kind
  pub finds : document_at s.documents v.document ≡ Some d
  pub plans : plan_of kind (request s v d m) ≡ Ok p
  pub keeps : KeepsTo (leave_of kind) p

-- The answer of the table has what each refusal but OutOfMemory has, and what the answer by each plan has.
pub of_table : (P : Answered → Type 0) → ((refusal : Refusal) → (refusal ≡ OutOfMemory → ⊥) → P (Err refusal)) → (s : Session) (view : ℕ) (m : Message)
    → ((v : View) (kind : Kind) (d : Document) (p : Plan) → Sent s view m v kind d p → P (answered kind (request s v d m) (Ok p))) → P (table s view m)
of_table P refused s view m h = at_view (view_at s.views view) refl
  where
    at_plan : (v : View) (kind : Kind) (d : Document) → view_at s.views view ≡ Some v → kind_of m.number ≡ Some kind → document_at s.documents v.document ≡ Some d
        → (o : Planned) → plan_of kind (request s v d m) ≡ o → IsShaped (leave_of kind) o → P (answered kind (request s v d m) o)
    at_plan v kind d sees is finds (Err refusal) plans shaped = refused refusal (λ e. subst (λ (x : Refusal). IsShaped (leave_of kind) (Err x)) e shaped)
    at_plan v kind d sees is finds (Ok p) plans keeps = h v kind d p (record { sees = sees; is = is; finds = finds; plans = plans; keeps = keeps })

    at_document : (v : View) (kind : Kind) → view_at s.views view ≡ Some v → kind_of m.number ≡ Some kind → (o : Option Document) → document_at s.documents v.document ≡ o
        → P (table_from_document s v kind m o)
    at_document v kind sees is None gone = refused NoSuchDocument (λ e. cc)
    at_document v kind sees is (Some d) finds = at_plan v kind d sees is finds (plan_of kind (request s v d m)) refl (plan_is_shaped kind (request s v d m))

    at_kind : (v : View) → view_at s.views view ≡ Some v → (o : Option Kind) → kind_of m.number ≡ o → P (table_from_kind s v m o)
    at_kind v sees None unknown = refused UnknownMessage (λ e. cc)
    at_kind v sees (Some kind) is = at_document v kind sees is (document_at s.documents v.document) refl

    at_view : (o : Option View) → view_at s.views view ≡ o → P (table_from_view s m o)
    at_view None gone = refused NoSuchView (λ e. cc)
    at_view (Some v) sees = at_kind v sees (kind_of m.number) refl

-- .. so what each plan does, each answer does
pub of_answer : (P : Session × Response → Type 0) (s : Session) (view : ℕ) (m : Message)
    → ((v : View) (kind : Kind) (d : Document) (p : Plan) → Sent s view m v kind d p
    → (let r = request s v d m in let done = performed_for r p in P (done.0, with_recording kind r done.1)))
    → (done : Session × Response) → table s view m ≡ Ok done → P done
of_answer P s view m h done e = IfOk-at_ok P e (of_table (λ (x : Answered). IfOk x P) (λ refusal other. tt) s view m h)

-- the answer of the table if the view, the kind and the document exist
pub table_at : (s : Session) (view : ℕ) (m : Message) (v : View) (kind : Kind) (d : Document) → view_at s.views view ≡ Some v → kind_of m.number ≡ Some kind
    → document_at s.documents v.document ≡ Some d → table s view m ≡ answered kind (request s v d m) (plan_of kind (request s v d m))
table_at s view m v kind d sees is finds =
    ap (table_from_view s m) sees ∙ ap (table_from_kind s v m) is ∙ ap (table_from_document s v kind m) finds

-- what a command is to have, if it sends messages, for each that it may send
abbrev pub OfMessages : (ℕ → Message → Type 0) → Command → Type 0
OfMessages Has (SendMessage view m) = Has view m
OfMessages Has (LoadFile view file) = (bytes : List ℕ) → Has view (set_text_message bytes)
OfMessages Has other = Unit {0}

pub of_each_message : (Has : ℕ → Message → Type 0) → ((view : ℕ) (m : Message) → Has view m) → (c : Command) → OfMessages Has c
of_each_message Has h (SendMessage view m) = h view m
of_each_message Has h (LoadFile view file) = λ bytes. h view (set_text_message bytes)
of_each_message Has h _ = tt

-- a result has what each refusal has, and what its value has, if there is one
of_result : {A : Type 0} (P : Result A Refusal → Type 0) → ((refusal : Refusal) → P (Err refusal)) → (o : Result A Refusal) → ((x : A) → o ≡ Ok x → P (Ok x)) → P o
of_result P refused (Ok x) h = h x refl
of_result P refused (Err refusal) h = refused refusal

-- If a refusal has P, and so has what comes of each success, the command has P.
module _ (P : Running × Outcome → Type 0) (files : List (List ℕ)) (s : Running) (refused : (refusal : Refusal) → P (after_message s.session (Err refusal)))
    (opening : (done : Session × ℕ) → opened s.session ≡ Ok done → P (after_opening s.session (Ok done)))
    (closing : (view : ℕ) (t : Session) → closed s.session view ≡ Ok t → P (after_closing s.session (Ok t)))
    (expecting : (value : ℤ) → P (s, Expected (is_met s.value value) value)) where
  abbrev pub HasSent : ℕ → Message → Type 0
  HasSent view m = (done : Session × Response) → table s.session view m ≡ Ok done → P (after_message s.session (Ok done))

  after_answer : (view : ℕ) (m : Message) → HasSent view m → P (after_message s.session (table s.session view m))
  after_answer view m h = of_result (λ (o : Answered). P (after_message s.session o)) refused (table s.session view m) h

  after_loaded : (view : ℕ) (v : Option View) (file : Option (List ℕ)) → ((bytes : List ℕ) → HasSent view (set_text_message bytes)) → P (after_message s.session (loaded s.session view v file))
  after_loaded view None file h = refused NoSuchView
  after_loaded view (Some v) None h = refused BadArgument
  after_loaded view (Some v) (Some bytes) h = after_answer view (set_text_message bytes) (h bytes)

  pub of_command : (c : Command) → OfMessages HasSent c → P (after_command files c s)
  of_command OpenView sent = of_result (λ (o : Result (Session × ℕ) Refusal). P (after_opening s.session o)) refused (opened s.session) opening
  of_command (CloseView view) sent = of_result (λ (o : Result Session Refusal). P (after_closing s.session o)) refused (closed s.session view) (closing view)
  of_command (LoadFile view file) sent = after_loaded view (view_at s.session.views view) (file_at files file) sent
  of_command (SendMessage view m) sent = after_answer view m sent
  of_command (Expect value) sent = expecting value

  pub of_any_command : (c : Command) → ((view : ℕ) (m : Message) → HasSent view m) → P (after_command files c s)
  of_any_command c sent = of_command c (of_each_message HasSent sent c)
