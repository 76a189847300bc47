-- Worked examples of the limits of a session: what messages answer, or with which refusal.
use Rattle.std.specs.Prelude.{◌≡◌, ℕ, ℤ, pos, List, [], ◌∷◌, map, codes, Result, Ok, Err}
use Rattle.ed_types.specs.declared.kind.Kind.{Kind}
use Rattle.ed_types.specs.declared.kind.Kind.TheVariants.{InsertText, DeleteRange, SetText, AppendText, MarkerAdd, MarkerAddSet, BeginUndoAction, CreateDocument, AddRefDocument, SetDocPointer, ConvertEols, GetLength}
use Rattle.ed_types.specs.declared.limits.Limits.{Limits}
use Rattle.ed_types.specs.declared.refusal.Refusal.{Refusal}
use Rattle.ed_types.specs.declared.refusal.Refusal.TheVariants.{TooLong, BadArgument, TooMany}
use Rattle.ed_types.specs.declared.script.Command.{Command}
use Rattle.ed_types.specs.declared.script.Command.TheVariants.{OpenView, CloseView, SendMessage}
use Rattle.ed_types.specs.declared.script.Outcome.{Outcome}
use Rattle.ed_types.specs.declared.script.Outcome.TheVariants.{Opened, Closed, Replied, Refused, Expected}
use Rattle.ed_types.specs.Messages.{number_of}
use Rattle.ed_model.specs.Session.{new_session, greatest_limits}
use Rattle.ed_model.specs.Table.{limited}
use Rattle.ed_model.specs.Run.{outcomes, starting}

-- the value that an outcome answers, or its refusal
abbrev pub said : Outcome → Result ℤ Refusal
said (Opened view) = Ok (pos view)
said Closed = Ok (pos 0)
said (Replied reply) = Ok reply.value
said (Refused refusal) = Err refusal
said (Expected met value) = Ok value

-- the answers to these commands, in a new session in which one view was opened
abbrev pub said_within : Limits → List Command → List (Result ℤ Refusal)
said_within limits commands = map said (outcomes [] (OpenView ∷ commands) (starting (new_session limits)))

-- the command that sends a message to a view, and the one that sends it to view 1
abbrev pub send_to : ℕ → Kind → ℤ → ℤ → List ℕ → Command
send_to view kind w l text = SendMessage view (record { number = number_of kind; w = w; l = l; text = text })

abbrev pub send : Kind → ℤ → ℤ → List ℕ → Command
send kind w l text = send_to 1 kind w l text

abbrev pub answer : ℕ → Result ℤ Refusal
answer n = Ok (pos n)

abbrev pub four_bytes : Limits
four_bytes = record greatest_limits { doc_bytes = 4 }

-- limits of four bytes, and of six in a large document
abbrev pub six_bytes_if_large : Limits
six_bytes_if_large = record greatest_limits { doc_bytes = 4; large_bytes = 6 }

abbrev pub two_handles : Limits
two_handles = record greatest_limits { handles = 2 }

abbrev pub one_group : Limits
one_group = record greatest_limits { depth = 1 }

abbrev pub two_ids : Limits
two_ids = record greatest_limits { ids = 2 }

abbrev pub two_references : Limits
two_references = record greatest_limits { refs = 2 }

abbrev pub one_view : Limits
one_view = record greatest_limits { views = 1 }

-- The first answer is the view's id.
pub record AnswersWithinLimits : Type 0 where
  pub text_too_long :
      said_within four_bytes (send InsertText (pos 0) (pos 0) (codes "abcd") ∷ send InsertText (pos 4) (pos 0) (codes "e") ∷ send DeleteRange (pos 1) (pos 4) [] ∷ send GetLength (pos 0) (pos 0) [] ∷ [])
      ≡ answer 1 ∷ answer 0 ∷ Err TooLong ∷ Err BadArgument ∷ answer 4 ∷ []
  pub line_ends_too_long :
      said_within four_bytes (send InsertText (pos 0) (pos 0) (codes "ab\n\n") ∷ send ConvertEols (pos 0) (pos 0) [] ∷ send ConvertEols (pos 1) (pos 0) [] ∷ [])
      ≡ answer 1 ∷ answer 0 ∷ Err TooLong ∷ Err TooLong ∷ []
  pub text_set_and_appended :
      said_within four_bytes (send SetText (pos 0) (pos 0) (codes "abcd") ∷ send AppendText (pos 1) (pos 0) (codes "e") ∷ send GetLength (pos 0) (pos 0) [] ∷ [])
      ≡ answer 1 ∷ answer 0 ∷ Err TooLong ∷ answer 4 ∷ []
  -- five bytes are too many; a large document takes six, and refuses the seventh
  pub large_document :
      said_within six_bytes_if_large (
      send SetText (pos 0) (pos 0) (codes "abcde") ∷
      send CreateDocument (pos 0) (pos 256) [] ∷
      send SetDocPointer (pos 0) (pos 2) [] ∷
      send SetText (pos 0) (pos 0) (codes "abcdef") ∷
      send AppendText (pos 1) (pos 0) (codes "g") ∷
      send GetLength (pos 0) (pos 0) [] ∷
      [])
      ≡ answer 1 ∷ Err TooLong ∷ answer 2 ∷ answer 0 ∷ answer 0 ∷ Err TooLong ∷ answer 6 ∷ []
  pub handles_used_up :
      said_within two_handles (send MarkerAdd (pos 0) (pos 1) [] ∷ send MarkerAdd (pos 0) (pos 1) [] ∷ send MarkerAdd (pos 0) (pos 1) [] ∷ [])
      ≡ answer 1 ∷ answer 1 ∷ answer 2 ∷ Err TooMany ∷ []
  pub too_few_handles :
      said_within two_handles (send MarkerAddSet (pos 0) (pos 7) [] ∷ send MarkerAddSet (pos 0) (pos 6) [] ∷ [])
      ≡ answer 1 ∷ Err TooMany ∷ answer 0 ∷ []
  pub set_of_handles_used_up :
      said_within two_handles (send MarkerAddSet (pos 0) (pos 6) [] ∷ send MarkerAdd (pos 0) (pos 1) [] ∷ [])
      ≡ answer 1 ∷ answer 0 ∷ Err TooMany ∷ []
  pub groups_too_deep :
      said_within one_group (send BeginUndoAction (pos 0) (pos 0) [] ∷ send BeginUndoAction (pos 0) (pos 0) [] ∷ [])
      ≡ answer 1 ∷ answer 0 ∷ Err TooMany ∷ []
  pub ids_used_up :
      said_within two_ids (send CreateDocument (pos 0) (pos 0) [] ∷ send CreateDocument (pos 0) (pos 0) [] ∷ OpenView ∷ [])
      ≡ answer 1 ∷ answer 2 ∷ Err TooMany ∷ Err TooMany ∷ []
  -- the id of a closed view is not given again
  pub view_ids_used_up :
      said_within two_ids (OpenView ∷ CloseView 1 ∷ OpenView ∷ [])
      ≡ answer 1 ∷ answer 2 ∷ answer 0 ∷ Err TooMany ∷ []
  -- a document with two references takes no other view
  pub no_reference_for_a_view :
      said_within two_references (OpenView ∷ send AddRefDocument (pos 0) (pos 1) [] ∷ send_to 2 SetDocPointer (pos 0) (pos 1) [] ∷ [])
      ≡ answer 1 ∷ answer 2 ∷ answer 0 ∷ Err TooMany ∷ []
  pub references_used_up :
      said_within two_references (send AddRefDocument (pos 0) (pos 1) [] ∷ send AddRefDocument (pos 0) (pos 1) [] ∷ [])
      ≡ answer 1 ∷ answer 0 ∷ Err TooMany ∷ []
  pub views_used_up : said_within one_view (OpenView ∷ []) ≡ answer 1 ∷ Err TooMany ∷ []

-- limits of 0, and limits above the greatest, are refused
abbrev pub SessionsWithinLimits : Type 0
SessionsWithinLimits =
    let most = greatest_limits in
    (limited most ≡ Ok (new_session most))
    × (limited (record most { views = 0 }) ≡ Err BadArgument)
    × (limited (record most { views = 1025 }) ≡ Err BadArgument)
    × (limited (record most { large_bytes = 0 }) ≡ Err BadArgument)
    × (limited (record most { doc_bytes = 2147483648 }) ≡ Err BadArgument)
