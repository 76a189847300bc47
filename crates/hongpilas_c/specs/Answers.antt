-- The results of calls: 0 for a call that was done, and otherwise the number of its refusal.
use Rattle.std.specs.Prelude.{ℕ, Result, Ok, Err}
use Rattle.ed_types.specs.declared.refusal.Refusal.{Refusal}
use Rattle.ed_types.specs.declared.refusal.Refusal.TheVariants.{OutOfMemory}
use Rattle.ed_model.specs.Printed.{refusal_number}

-- the number of a result
abbrev pub answered : {A : Type 0} → Result A Refusal → ℕ
answered (Ok done) = 0
answered (Err refusal) = refusal_number refusal

-- the number with which a call is refused whose refusals are `says`; a call that is not refused by that may still run out of memory
abbrev pub refused_with : {A : Type 0} → Result A Refusal → ℕ
refused_with (Ok done) = refusal_number OutOfMemory
refused_with (Err refusal) = refusal_number refusal
