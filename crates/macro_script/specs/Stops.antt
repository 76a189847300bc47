-- The results of a reader that allocates.
use Rattle.std.specs.Prelude.{◌≡◌, ⊤, ℕ, List, Result, Ok, Err}
use Rattle.ed_types.specs.declared.script.Cause.{Cause}
use Rattle.macro_script.specs.declared.stop.Stop.{Stop}
use Rattle.macro_script.specs.declared.stop.Stop.TheVariants.{Fault, OutOfMemory}

-- the result is what was read, or a failed allocation
abbrev pub Answers : {T : Type 0} → Result T Cause → Result T Stop → Type 0
Answers read (Ok value) = read ≡ Ok value
Answers read (Err (Fault cause)) = read ≡ Err cause
Answers read (Err OutOfMemory) = ⊤

-- the same, with the rest of the line
abbrev pub AnswersAndLeaves : {T : Type 0} → Result (T × List ℕ) Cause → Result T Stop → List ℕ → Type 0
AnswersAndLeaves read (Ok value) rest = read ≡ Ok (value, rest)
AnswersAndLeaves read (Err (Fault cause)) rest = read ≡ Err cause
AnswersAndLeaves read (Err OutOfMemory) rest = ⊤
