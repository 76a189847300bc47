-- A refusal as the result of a call.
use Rattle.std.proofs.Common.{Result, Err}
use Rattle.ed_types.specs.declared.refusal.Refusal.{Refusal}

-- the result of a call that is refused, and otherwise answers an `R`
abbrev pub refusing : (R : Type 0) → Refusal → Result R Refusal
refusing R refusal = Err refusal
