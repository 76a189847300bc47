-- What a session answers, by the table.
use Rattle.std.specs.Prelude.{◌≡◌, ◌⊎◌, ℕ, ℤ, List, Result, Ok, Err, ◌≢◌, true, IfErr, IfSome, Option, Some, None}
use Rattle.ed_types.specs.declared.refusal.Refusal.{Refusal}
use Rattle.ed_types.specs.declared.refusal.Refusal.TheVariants.{OutOfMemory}
use Rattle.ed_types.specs.declared.message.Message.{Message}
use Rattle.ed_model.specs.Session.{Session, View, Document, view_at, document_at}
use Rattle.ed_types.specs.Notices.{Response}
use Rattle.ed_model.specs.Performing.{quiet}
use Rattle.ed_model.specs.Table.{table, request}
use Rattle.editor_session.specs.Plans.{is_free}
use Rattle.ed_types.specs.declared.kind.Kind.{Kind}
use Rattle.message_plans.specs.Asking.{question_of, value_asked}

-- a message with this text
abbrev pub message_with : ℕ → ℤ → ℤ → List ℕ → Message
message_with number w l text = record { number = number; w = w; l = l; text = text }

-- the message with this text in the place of its own
abbrev pub with_text : Message → List ℕ → Message
with_text m text = record m { text = text }

-- The call did what is said of it, or was refused as is said or for want of memory, and then changed nothing.
abbrev pub AnswersBy : {R : Type 0} → Result (Session × R) Refusal → Session → Session → Result R Refusal → Type 0
AnswersBy says old new (Ok reply) = says ≡ Ok (new, reply)
AnswersBy says old new (Err refusal) = (new ≡ old) × ((refusal ≡ OutOfMemory) ⊎ (says ≡ Err refusal))

-- the answer to a message: the reply that was left, or the refusal
abbrev pub told : Result ℤ Refusal → Response → Result Response Refusal
told (Ok value) left = Ok left
told (Err refusal) left = Err refusal

-- The value is that of the reply that was left; after a refusal the reply is as it was.
abbrev pub IsLeft : Result ℤ Refusal → Response → Response → Type 0
IsLeft (Ok value) before left = left.value ≡ value
IsLeft (Err refusal) before left = left ≡ before

abbrev pub value_from_document : Session → View → Kind → Message → Option Document → Option ℤ
value_from_document s v kind m None = None
value_from_document s v kind m (Some d) = value_asked kind (request s v d m)

abbrev pub value_from_view : Session → Kind → Message → Option View → Option ℤ
value_from_view s kind m None = None
value_from_view s kind m (Some v) = value_from_document s v kind m (document_at s.documents v.document)

abbrev pub value_from_kind : Session → ℕ → Message → Option Kind → Option ℤ
value_from_kind s view m None = None
value_from_kind s view m (Some kind) = value_from_view s kind m (view_at s.views view)

-- the value of a numeric query to a view; none for all other messages, where the view or its document is not there, and where the query is refused
abbrev pub value_to : Session → ℕ → Message → Option ℤ
value_to s view m = value_from_kind s view m (question_of m.number)

-- The session afterwards and the result are the table's answer. What the table refuses is refused so, and a message that needs no memory is not refused for want of it.
pub record IsAnswered (s : Session) (view : ℕ) (m : Message) (new : Session) (result : Result Response Refusal) : Type 0 where
  pub answer : AnswersBy (table s view m) s new result
  pub refused : IfErr (table s view m) (λ refusal. result ≡ Err refusal)
  pub free : is_free s view m ≡ true → IfErr result (λ refusal. refusal ≢ OutOfMemory)

-- The value of a numeric query to a view, if it is one. The table then answers this value alone to the message with any text.
pub record AnswersQuery (s : Session) (view : ℕ) (m : Message) (result : Option ℤ) : Type 0 where
  pub value : result ≡ value_to s view m
  pub answer : IfSome result (λ value. (text : List ℕ) → table s view (with_text m text) ≡ Ok (s, quiet value))
