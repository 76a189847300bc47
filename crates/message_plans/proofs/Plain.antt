-- The value of an `Answer` plan, and what a `HandOut` plan hands out.
use Rattle.std.proofs.Common.{◌≡◌, ℤ, Option, Some, None, refl, subst}
use Rattle.message_requests.specs.declared.answers.HandedOut.{HandedOut}
use Rattle.ed_model.specs.Requests.{Planned, answer, with_argument}
use Rattle.message_requests.specs.HandingOut.{handed_out, handed_or_zero}
use Rattle.message_plans.specs.Asking.{value_planned, handed_planned}

pub planned_so : (value : ℤ) (p : Planned) → answer value ≡ p → value_planned p ≡ Some value
planned_so value p is = subst (λ p. value_planned p ≡ Some value) is refl

given : (o : Option ℤ) → value_planned (with_argument o answer) ≡ o
given None = refl
given (Some value) = refl

pub planned_if : (o : Option ℤ) (p : Planned) → with_argument o answer ≡ p → value_planned p ≡ o
planned_if o p is = subst (λ p. value_planned p ≡ o) is (given o)

pub handed_so : (h : HandedOut) (p : Planned) → handed_out h ≡ p → handed_planned p ≡ Some h
handed_so h p is = subst (λ p. handed_planned p ≡ Some h) is refl

handed : (o : Option HandedOut) → handed_planned (with_argument o handed_out) ≡ o
handed None = refl
handed (Some h) = refl

pub handed_if : (o : Option HandedOut) (p : Planned) → with_argument o handed_out ≡ p → handed_planned p ≡ o
handed_if o p is = subst (λ p. handed_planned p ≡ o) is (handed o)

handed_any : (o : Option HandedOut) → handed_planned (handed_or_zero o) ≡ o
handed_any None = refl
handed_any (Some h) = refl

pub handed_if_any : (o : Option HandedOut) (p : Planned) → handed_or_zero o ≡ p → handed_planned p ≡ o
handed_if_any o p is = subst (λ p. handed_planned p ≡ o) is (handed_any o)
