-- The effect of calls on a handle: what is behind it, before and after. Nothing is stated for a handle that is not open.
use Rattle.std.specs.Prelude.{◌≡◌, ℕ, ℤ, pos, Option, Some, None, Ok}
use Rattle.ed_types.specs.declared.message.Message.{Message}
use Rattle.ed_types.specs.Notices.{Response}
use Rattle.ed_model.specs.Performing.{quiet}
use Rattle.ed_model.specs.Session.{Session, new_session, greatest_limits}
use Rattle.ed_model.specs.Table.{table, opened, closed}
use Rattle.hongpilas_c.specs.declared.held.Held.{Held}

-- the session behind the handle; meaningless for a handle that is not open, as is all that follows
abbrev pub session_of : Option Held → Session
session_of (Some held) = held.session
session_of None = new_session greatest_limits

-- the reply to the last message
abbrev pub reply_of : Option Held → Response
reply_of (Some held) = held.reply
reply_of None = quiet (pos 0)

-- the reply to the last question beside the replies
abbrev pub asked_of : Option Held → Response
asked_of (Some held) = held.asked
asked_of None = quiet (pos 0)

-- the message was done: the session and the reply are those of the table, and the value is the reply's
abbrev pub IsSent : ℕ → Message → ℤ → Option Held → Option Held → Type 0
IsSent view m value (Some old) (Some new) = (table old.session view m ≡ Ok (new.session, new.reply)) × (value ≡ new.reply.value) × (new.asked ≡ old.asked)
IsSent view m value _ _ = ⊥

-- this view was opened, and nothing but the session changed
abbrev pub IsViewOpened : ℕ → Option Held → Option Held → Type 0
IsViewOpened view (Some old) (Some new) = (opened old.session ≡ Ok (new.session, view)) × (new ≡ record old { session = new.session })
IsViewOpened view _ _ = ⊥

-- this view was closed, and nothing but the session changed
abbrev pub IsViewClosed : ℕ → Option Held → Option Held → Type 0
IsViewClosed view (Some old) (Some new) = (closed old.session view ≡ Ok new.session) × (new ≡ record old { session = new.session })
IsViewClosed view _ _ = ⊥

-- the question was answered beside the replies, and nothing else changed
abbrev pub IsRead : ℕ → Message → Option Held → Option Held → Type 0
IsRead view m (Some old) (Some new) = (table old.session view m ≡ Ok (old.session, new.asked)) × (new ≡ record old { asked = new.asked })
IsRead view m _ _ = ⊥
