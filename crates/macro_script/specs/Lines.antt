-- The results of reading and of measuring lines.
use Rattle.std.specs.Prelude.{◌≡◌, ◌⊎◌, ℕ, ◌<◌, ◌≤◌, ◌==◌, SomeIff, List, [], ◌∷◌, length, Option, Some, None, Result, Ok, Err, Vec}
use Rattle.std.proofs.Common.{Bor, Global}
use Rattle.std.specs.List.{slice_split}
use Rattle.ed_types.specs.declared.script.Command.{Command}
use Rattle.ed_types.specs.declared.script.ScriptFault.{ScriptFault}
use Rattle.ed_types.specs.declared.script.ScriptFault.TheVariants.{OutOfMemory}
use Rattle.ed_model.specs.Text.{line_feed}
use Rattle.ed_model.specs.Reading.{read_lines}
use Rattle.macro_script.specs.declared.commands.Version.{Version}
use Rattle.macro_script.specs.Versions.{number_of}

-- the first line is split off, or no LF ends a line
abbrev pub SplitsLine : List ℕ → Option (Bor (List ℕ) × Bor (List ℕ)) → Type 0
SplitsLine text None = slice_split (λ b. b == line_feed) text ≡ text ∷ []
SplitsLine text (Some parts) = (slice_split (λ b. b == line_feed) text ≡ parts.0.now ∷ slice_split (λ b. b == line_feed) parts.1.now) × (length parts.1.now < length text)

-- the result is the length of the bytes if they fit in a line, and `None` otherwise
abbrev pub IsLengthIfFits : List ℕ → Option ℕ → Type 0
IsLengthIfFits bytes result = SomeIff result (length bytes ≤ 65536) (length bytes)

-- the result is what was read, or a failed allocation
abbrev pub OrMemory : {T : Type 0} → Result T ScriptFault → Result T ScriptFault → Type 0
OrMemory read answer = (answer ≡ read) ⊎ (answer ≡ Err OutOfMemory)

-- the result with the list of its commands
abbrev pub items_of : Result (Vec Command Global) ScriptFault → Result (List Command) ScriptFault
items_of (Ok commands) = Ok commands.items
items_of (Err fault) = Err fault

abbrev pub ReadsLines : ℕ → List ℕ → Result (Vec Command Global) ScriptFault → Type 0
ReadsLines version text answer = OrMemory (read_lines version 2 (slice_split (λ b. b == line_feed) text)) (items_of answer)

-- the result with the number of its version
abbrev pub version_numbers : Result Version ScriptFault → Result ℕ ScriptFault
version_numbers (Ok version) = Ok (number_of version)
version_numbers (Err fault) = Err fault
