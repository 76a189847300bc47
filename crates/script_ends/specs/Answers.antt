-- The answers and the output of a script, of its listing and of a check, and of their parts.
use Rattle.std.specs.Prelude.{◌≡◌, ◌⊎◌, ⊤, ℕ, Bool, true, false, List, [], ◌++◌, length, codes, Option, Result, Ok, Err, Vec}
use Rattle.std.proofs.Common.{Global}
use Rattle.std.specs.Io.KnownBytes.{Keeps, Appends}
use Rattle.ed_types.specs.declared.script.Command.{Command}
use Rattle.ed_types.specs.declared.script.Outcome.{Outcome}
use Rattle.ed_types.specs.declared.script.ScriptFault.{ScriptFault}
use Rattle.ed_types.specs.declared.script.ScriptFault.TheVariants.{OutOfMemory}
use Rattle.ed_model.specs.Spelling.{spelled}
use Rattle.ed_model.specs.Listing.{ended_line}
use Rattle.ed_model.specs.Printed.{printed_outcome}
use Rattle.script_ends.specs.declared.fault.RunFault.{RunFault}
use Rattle.script_ends.specs.declared.fault.RunFault.TheVariants.{Script, Read, Write}
use Rattle.script_ends.specs.declared.ends.WriteFailed.{WriteFailed}
use Rattle.script_ends.specs.Ends.{AppendsFront}

-- the output of a check
abbrev pub checked : List Command → List ℕ
checked commands = ended_line (codes "ok " ++ spelled (length commands))

abbrev pub none : List Command → ℕ
none commands = 0

-- The answer and the output for a script that the bytes spell, or for their first fault. `text` is the output for a
-- script, and `value` the answer.
abbrev pub Answers : (List Command → List ℕ) → (List Command → ℕ) → Result (List Command) ScriptFault → Result ℕ RunFault → Option (List ℕ) → Option (List ℕ) → Type 0
Answers text value (Ok commands) (Ok k) old new = Appends old new (text commands) × (k ≡ value commands)
Answers text value (Ok commands) (Err (Script fault)) old new = (fault ≡ OutOfMemory) × AppendsFront old new (text commands)
Answers text value (Ok commands) (Err Read) old new = Keeps old new
Answers text value (Ok commands) (Err Write) old new = AppendsFront old new (text commands)
Answers text value (Err fault) (Ok k) old new = ⊥
Answers text value (Err fault) (Err (Script named)) old new = ((named ≡ fault) ⊎ (named ≡ OutOfMemory)) × Keeps old new
Answers text value (Err fault) (Err Read) old new = Keeps old new
Answers text value (Err fault) (Err Write) old new = ⊥

-- a read fault is returned only if a read failed, and a write fault only if a write failed; if neither is returned,
-- none failed, except for what was tried after a failed allocation
abbrev pub HasCause : {T : Type 0} → Result T RunFault → Bool → Bool → Type 0
HasCause (Ok value) reader writer = (reader ≡ false) × (writer ≡ false)
HasCause (Err (Script fault)) reader writer = reader ≡ false
HasCause (Err Read) reader writer = (reader ≡ true) × (writer ≡ false)
HasCause (Err Write) reader writer = (reader ≡ false) × (writer ≡ true)

-- nothing is written if a read failed
abbrev pub WritesNoneAtRead : Result ℕ RunFault → Option (List ℕ) → Option (List ℕ) → Type 0
WritesNoneAtRead (Ok value) old new = ⊤
WritesNoneAtRead (Err (Script fault)) old new = ⊤
WritesNoneAtRead (Err Read) old new = Keeps old new
WritesNoneAtRead (Err Write) old new = ⊤

-- The parts.

-- how reading alone may end
abbrev pub ReadEnds : {T : Type 0} → Result T RunFault → Bool → Type 0
ReadEnds (Ok value) reader = reader ≡ false
ReadEnds (Err (Script fault)) reader = (fault ≡ OutOfMemory) × (reader ≡ false)
ReadEnds (Err Read) reader = reader ≡ true
ReadEnds (Err Write) reader = ⊥

-- the script that was read, or its fault
abbrev pub ReadsScript : Result (List Command) ScriptFault → Result (List Command) RunFault → Type 0
ReadsScript read (Ok commands) = read ≡ Ok commands
ReadsScript read (Err (Script fault)) = (read ≡ Err fault) ⊎ (fault ≡ OutOfMemory)
ReadsScript read (Err Read) = ⊤
ReadsScript read (Err Write) = ⊥

abbrev pub ReadCause : {T : Type 0} → Result T RunFault → Bool → Type 0
ReadCause (Ok value) reader = reader ≡ false
ReadCause (Err (Script fault)) reader = reader ≡ false
ReadCause (Err Read) reader = reader ≡ true
ReadCause (Err Write) reader = ⊥

-- A text was appended to a buffer before a writer: a front part of the buffer and the text was written, and the rest is
-- in the buffer.
pub record Moves (old new : Option (List ℕ)) (before after text : List ℕ) : Type 0 where
  pub written : List ℕ
  pub appended : Appends old new written
  pub split : before ++ text ≡ written ++ after

-- the same for a front part of the text
pub record MovesPart (old new : Option (List ℕ)) (before after text : List ℕ) : Type 0 where
  pub part : List ℕ
  pub left : List ℕ
  pub split : text ≡ part ++ left
  pub moved : Moves old new before after part

-- the text was appended; or a part of it, if an allocation failed; or a part of all was written, if a write failed
abbrev pub Puts : {T : Type 0} → List ℕ → Result T RunFault → Option (List ℕ) → Option (List ℕ) → List ℕ → List ℕ → Type 0
Puts text (Ok value) old new before after = Moves old new before after text
Puts text (Err (Script fault)) old new before after = (fault ≡ OutOfMemory) × MovesPart old new before after text
Puts text (Err Read) old new before after = ⊥
Puts text (Err Write) old new before after = AppendsFront old new (before ++ text)

-- the same for the text that an outcome prints
abbrev pub PutsOutcome : {T : Type 0} → Outcome → Result T RunFault → Option (List ℕ) → Option (List ℕ) → Vec ℕ Global → Vec ℕ Global → Type 0
PutsOutcome outcome result old new before after = Puts (printed_outcome outcome) result old new before.items after.items

abbrev pub PutCause : {T : Type 0} → Result T RunFault → Bool → Type 0
PutCause (Ok value) writer = writer ≡ false
PutCause (Err (Script fault)) writer = writer ≡ false
PutCause (Err Read) writer = ⊥
PutCause (Err Write) writer = writer ≡ true

-- what the buffer holds is written from its front, or stays there; if a write failed, a part of it was written
abbrev pub Pours : Result (Unit {0}) WriteFailed → Option (List ℕ) → Option (List ℕ) → List ℕ → List ℕ → Type 0
Pours (Ok done) old new before after = Moves old new before after []
Pours (Err failed) old new before after = AppendsFront old new before
