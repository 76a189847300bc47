-- A session that was just opened.
use Rattle.std.specs.Prelude.{◌≡◌, pos, Option, Some, Result, Ok, Err}
use Rattle.ed_types.specs.declared.limits.Limits.{Limits}
use Rattle.ed_types.specs.declared.refusal.Refusal.{Refusal}
use Rattle.ed_model.specs.Performing.{quiet}
use Rattle.ed_model.specs.Session.{Session}
use Rattle.hongpilas_c.specs.declared.held.Held.{Held}
use Rattle.hongpilas_c.specs.declared.opening.LimitsInC.{LimitsInC}

-- the session with an empty reply
abbrev pub fresh : Session → Held
fresh session = record { session = session; reply = quiet (pos 0); asked = quiet (pos 0) }

-- the value behind the handle is this session, just opened
abbrev pub IsFresh : Result Session Refusal → Option Held → Type 0
IsFresh (Ok session) held = held ≡ Some (fresh session)
IsFresh (Err refusal) held = ⊥

-- the limits that C passed
abbrev pub limits_of : LimitsInC → Limits
limits_of l = record { doc_bytes = l.doc_bytes; large_bytes = l.large_bytes; handles = l.handles; ids = l.ids; refs = l.refs; views = l.views; depth = l.depth }
