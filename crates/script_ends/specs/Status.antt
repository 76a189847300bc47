-- Exit statuses of the program.
use Rattle.std.specs.Prelude.{ℕ, ◌==◌, if◌then◌else◌, Result, Ok, Err}
use Rattle.script_ends.specs.declared.fault.RunFault.{RunFault}
use Rattle.script_ends.specs.declared.fault.RunFault.TheVariants.{Script, Read, Write}

abbrev pub status : Result ℕ RunFault → ℕ
status (Ok unmet) = if unmet == 0 then 0 else 4
status (Err (Script fault)) = 1
status (Err Read) = 3
status (Err Write) = 3
