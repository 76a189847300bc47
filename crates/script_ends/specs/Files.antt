-- The result of reading a file.
use Rattle.std.specs.Prelude.{◌≡◌, ◌⊎◌, ℕ, ◌<◌, ◌≤◌, Bool, true, List, length, Result, Ok, Err}
use Rattle.ed_types.specs.declared.script.ScriptFault.TheVariants.{OutOfMemory}
use Rattle.script_ends.specs.declared.fault.RunFault.{RunFault}
use Rattle.script_ends.specs.declared.fault.RunFault.TheVariants.{Script, Read, Write}

-- the file's bytes; a read fault, if a read failed or the file is too long; or a failed allocation
abbrev pub ReadsFile : List ℕ → Result (List ℕ) RunFault → Bool → Type 0
ReadsFile bytes (Ok file) reader = (file ≡ bytes) × (length bytes ≤ 2147483647)
ReadsFile bytes (Err (Script fault)) reader = fault ≡ OutOfMemory
ReadsFile bytes (Err Read) reader = (reader ≡ true) ⊎ (2147483647 < length bytes)
ReadsFile bytes (Err Write) reader = ⊥
