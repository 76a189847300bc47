-- The result of reading a field, and the rest of the line.
use Rattle.std.specs.Prelude.{◌≡◌, ◌≤◌, ℕ, List, length, drop, Result, Ok, Err}
use Rattle.std.proofs.Common.{Bor}
use Rattle.ed_types.specs.declared.script.Cause.{Cause}
use Rattle.ed_model.specs.Spelling.{spelled}
use Rattle.ed_model.specs.Reading.{word_field}

-- the result, and the rest of the line
abbrev pub and_rest : {T : Type 0} → Result T Cause → List ℕ → Result (T × List ℕ) Cause
and_rest (Ok value) rest = Ok (value, rest)
and_rest (Err cause) rest = Err cause

-- the rest of the line alone
abbrev pub rest_of : Result (Unit {0}) Cause → List ℕ → Result (List ℕ) Cause
rest_of (Ok done) rest = Ok rest
rest_of (Err cause) rest = Err cause

-- the bytes that are lent
abbrev pub lent : Result (Bor (List ℕ)) Cause → Result (List ℕ) Cause
lent (Ok bytes) = Ok bytes.now
lent (Err cause) = Err cause

-- the number's word stands at the front after a space, and both together have so many bytes
abbrev pub IsNumberAtFront : List ℕ → ℕ → ℕ → Type 0
IsNumberAtFront line n len = (word_field line ≡ Ok (spelled n, drop len line)) × (len ≤ length line)
