-- The handle after what it lent has come back.
use Rattle.std.specs.Prelude.{Some}
use Rattle.std.specs.Borrow.{Fml, MutBor, follows}
use Rattle.hongpilas_c.specs.declared.held.Held.{Held}
use Rattle.hongpilas_c.specs.declared.handle.Handle.{Handle}
use Rattle.hongpilas_c.specs.contracts.held.Held.{the_row as held-row}
use Rattle.hongpilas_c.specs.contracts.handle.Handle.{the_row as handle-row}

-- the handle with this value behind it
abbrev pub with_held : Handle → Held → Handle
with_held h held = record h { held = Some held }

abbrev pub held_follows : MutBor Handle → MutBor Held → Fml
held_follows h lent = follows handle-row held-row h.ghost_name lent.ghost_name (with_held h.now)
