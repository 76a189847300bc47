-- Commands of a run: those that take no memory, what loading a file answers, and a run that stopped.
use Rattle.std.specs.Prelude.{◌≡◌, ◌≤◌, ℕ, Bool, true, false, List, length, take, Result}
use Rattle.ed_types.specs.declared.refusal.Refusal.{Refusal}
use Rattle.ed_types.specs.declared.script.Command.{Command}
use Rattle.ed_types.specs.declared.script.Command.TheVariants.{CloseView, SendMessage, Expect}
use Rattle.ed_types.specs.Notices.{Response}
use Rattle.ed_model.specs.Session.{Session, view_at}
use Rattle.ed_model.specs.Run.{Running, loaded, file_at, run_to}
use Rattle.editor_session.specs.Plans.{is_free}

-- a view is closed, a value is compared, or a message is sent that needs none
abbrev pub takes_no_memory : Session → Command → Bool
takes_no_memory s (CloseView view) = true
takes_no_memory s (SendMessage view message) = is_free s view message
takes_no_memory s (Expect value) = true
takes_no_memory s other = false

-- the session and the reply after the file with this number is loaded into the view, or the refusal
abbrev pub file_loaded : Running → List (List ℕ) → ℕ → ℕ → Result (Session × Response) Refusal
file_loaded r files view file = loaded r.session view (view_at r.session.views view) (file_at files file)

-- a run that stopped behind some of the commands
pub record StopsWithin (files : List (List ℕ)) (commands : List Command) (old new : Running) : Type 0 where
  pub count : ℕ
  pub within_commands : count ≤ length commands
  pub stands : new ≡ run_to files (take count commands) old
