-- The numbers of refusals.
use Rattle.std.proofs.Common.{◌≡◌, ◌≢◌, ◌⊎◌, inl, inr, ap, sym, refl, arith, Result, Ok, Err, IfErr}
use Rattle.ed_types.specs.declared.refusal.Refusal.{Refusal}
use Rattle.ed_types.specs.declared.refusal.Refusal.TheVariants.{OutOfMemory, NoSuchView, UnknownMessage, NoSuchDocument, TooLong, BadArgument, TooMany}
use Rattle.ed_types.specs.proved.Refusals.{refusing}
use Rattle.ed_model.specs.Printed.{refusal_number}
use Rattle.hongpilas_c.specs.Answers.{answered, refused_with}

-- a refusal that is the one stated, or `OutOfMemory` if none is stated, has the number of such a call
pub refused_as_said : {A : Type 0} (R : Type 0) (says : Result A Refusal) (refusal : Refusal) → IfErr says (λ r. refusing R refusal ≡ Err r) → (refusal ≡ OutOfMemory) ⊎ (says ≡ Err refusal) → refusal_number refusal ≡ refused_with says
refused_as_said R says refusal exact (inr is) = sym (ap refused_with is)
refused_as_said R (Ok done) refusal exact (inl is) = ap refusal_number is
refused_as_said R (Err r) refusal exact (inl is) = ap answered exact

-- only `OutOfMemory` has its number
pub memory_alone : (refusal : Refusal) → refusal ≢ OutOfMemory → refusal_number refusal ≢ refusal_number OutOfMemory
memory_alone OutOfMemory other e = other refl
memory_alone NoSuchView other e = omega (arith, e)
memory_alone UnknownMessage other e = omega (arith, e)
memory_alone NoSuchDocument other e = omega (arith, e)
memory_alone TooLong other e = omega (arith, e)
memory_alone BadArgument other e = omega (arith, e)
memory_alone TooMany other e = omega (arith, e)
