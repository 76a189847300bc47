-- A choice between two values has what both have.
use Rattle.run_laws.proofs.Names.{Bool, true, false, cond}

pub either : {A : Type 0} (P : A → Type 0) (b : Bool) (x y : A) → P x → P y → P (cond b x y)
either P true x y h k = h
either P false x y h k = k
