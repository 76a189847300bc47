-- The table never refuses with OutOfMemory.
use Rattle.std.specs.Prelude.{◌≡◌, ℕ, Err}
use Rattle.ed_types.specs.declared.message.Message.{Message}
use Rattle.ed_types.specs.declared.refusal.Refusal.TheVariants.{OutOfMemory}
use Rattle.ed_model.specs.Session.{Session}
use Rattle.ed_model.specs.Table.{table, opened, closed}

-- no message is refused with OutOfMemory
abbrev pub MessagesNeverWantMemory : Type 0
MessagesNeverWantMemory = (s : Session) (view : ℕ) (m : Message) → table s view m ≡ Err OutOfMemory → ⊥

-- opening and closing a view are not refused with OutOfMemory
abbrev pub OpeningNeverWantsMemory : Type 0
OpeningNeverWantsMemory = (s : Session) → opened s ≡ Err OutOfMemory → ⊥

abbrev pub ClosingNeverWantsMemory : Type 0
ClosingNeverWantsMemory = (s : Session) (view : ℕ) → closed s view ≡ Err OutOfMemory → ⊥
