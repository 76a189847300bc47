-- What a handle owns: nothing before it is opened, and then the box that it points to.
use base.Fml.{Fml, ftrue}
use base.Stored.{Coded}
use denote.RawPtr.{Ptr}
use Rattle.std.specs.Prelude.{Option, Some, None}
use Rattle.std.specs.Coded.{coded_option}
use Rattle.std.specs.Box.Ownership.{box_owns}
use Rattle.std.specs.Global.{Global}
use Rattle.std.specs.contracts.impls.GlobalAllocator.TheImpl.{ghosts}
use Rattle.hongpilas_c.specs.declared.held.Held.{Held}
use Rattle.hongpilas_c.specs.contracts.held.Held.{the_row}

abbrev pub handle_owns : Global → Ptr → Option Held → Fml
handle_owns alloc at None = ftrue
handle_owns alloc at (Some held) = box_owns (ghosts.dealloc_token alloc) the_row at held

abbrev pub held_coded : Coded (Option Held)
held_coded = coded_option the_row.coded
