-- When two numbers of 32 bits are the same integer.
use mir.Val.{SFits, to_z, of_z}
use Rattle.std.proofs.Common.{◌≡◌, true, refl, sym, ◌∙◌, ap, arith, pos, w32}
use Rattle.std.specs.Prelude.{ℤ, negsuc, int_le, ◌==◌}
use Rattle.std.proofs.lemmas.Int.{to_z-of_z}
use Rattle.std.proofs.lemmas.Bool.{and_parts, leb-true, le-leb}
use Rattle.std.proofs.lemmas.Bool.Decides.{Decides-eqb, Decides-like, same_from_decides}
use Rattle.ed_model.specs.Numbers.{is_same}

int_le_self : (a : ℤ) → int_le a a ≡ true
int_le_self (pos n) = le-leb n n (omega arith)
int_le_self (negsuc n) = le-leb n n (omega arith)

int_same : (a b : ℤ) → int_le a b ≡ true → int_le b a ≡ true → a ≡ b
int_same (pos n) (pos m) h k = let p = leb-true n m h in let q = leb-true m n k in ap pos (omega arith)
int_same (pos n) (negsuc m) h k = absurd (cc)
int_same (negsuc n) (pos m) h k = absurd (cc)
int_same (negsuc n) (negsuc m) h k = let p = leb-true m n h in let q = leb-true n m k in ap negsuc (omega arith)

-- two states of 32 bits are the same if their bits are
pub same_states : (a b : ℤ) → SFits w32 a → SFits w32 b → (of_z w32 a == of_z w32 b) ≡ is_same a b
same_states a b fits fits' =
    same_from_decides (of_z w32 a == of_z w32 b) (is_same a b)
    (Decides-like (of_z w32 a == of_z w32 b) (λ e. sym (to_z-of_z w32 a fits) ∙ ap (to_z w32) e ∙ to_z-of_z w32 b fits') (λ e. ap (of_z w32) e) (Decides-eqb (of_z w32 a) (of_z w32 b)))
    ((λ h. let p = and_parts (int_le a b) (int_le b a) h in int_same a b p.0 p.1), (λ e. rw e (let h = int_le_self b in rw h refl)))
