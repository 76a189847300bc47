-- A negative line means the selection's line.
use Rattle.std.proofs.Common.{◌≡◌, ℕ, true, ap, arith, ℤ, pos, negsuc}
use Rattle.std.proofs.lemmas.Bool.Decides.{nat_tests}
use Rattle.std.specs.Prelude.{int_lt}
use Rattle.ed_model.specs.Requests.{Request, line_at, selection_start, answer}
use Rattle.ed_model.specs.TextPlans.{line_start, start_of_line_at}

pub start_at_negative : (r : Request) (w : ℤ) (n : ℕ) → int_lt w (pos 0) ≡ true → n ≡ line_start r (line_at r (selection_start r)) → answer (pos n) ≡ answer (start_of_line_at r w)
start_at_negative r (pos k) n h e = absurd (grind (arith, nat_tests))
start_at_negative r (negsuc k) n h e = ap (λ p. answer (pos p)) e
