-- The number of transactions after seals, and save points that can be reached.
use Rattle.std.proofs.Common.{◌≡◌, ℕ, ◌<◌, ◌≤◌, ◌==◌, nat_le, cond, Bool, true, false, List, [], ◌∷◌, length, refl, ap, ◌∙◌, sym, arith, Option, Some, None}
use Rattle.std.proofs.lemmas.Bool.{leb-true, ne_eqb}
use Rattle.std.proofs.lemmas.List.{length-map}
use Rattle.ed_model.specs.Numbers.{is_number}
use Rattle.ed_model.specs.History.{History, Transaction, reachable, seal_first}
use Rattle.ed_model.specs.HistoryLaws.{SameButForSeals}

pub sealed_length : (ts : List Transaction) → length (seal_first ts) ≡ length ts
sealed_length [] = refl
sealed_length (t ∷ ts) = refl

-- histories that differ in seals alone have as many transactions
pub same_length : (h g : History) → SameButForSeals h g → length g.past ≡ length h.past
same_length h g s = sym (length-map g.past (λ (t : Transaction). t.changes)) ∙ ap length s.past ∙ length-map h.past (λ (t : Transaction). t.changes)

-- a save point that can be reached from a past of n transactions is at most n
reached_is_lower : (n k m : ℕ) (b : Bool) → (b ≡ true → k ≤ n) → n < m → is_number m (cond b (Some k) None) ≡ false
reached_is_lower n k m true within lower = ne_eqb k m (λ e. omega (arith, within refl))
reached_is_lower n k m false within lower = refl

pub lower_save_point : (n m : ℕ) (save_point : Option ℕ) → n < m → is_number m (reachable n save_point) ≡ false
lower_save_point n m None lower = refl
lower_save_point n m (Some k) lower = reached_is_lower n k m (nat_le k n) (λ e. leb-true k n e) lower

still_elsewhere : (n k : ℕ) (b : Bool) → (k == n) ≡ false → is_number n (cond b (Some k) None) ≡ false
still_elsewhere n k true e = e
still_elsewhere n k false e = refl

-- a save point that is elsewhere stays elsewhere
pub other_save_point : (n : ℕ) (save_point : Option ℕ) → is_number n save_point ≡ false → is_number n (reachable n save_point) ≡ false
other_save_point n None e = refl
other_save_point n (Some k) e = still_elsewhere n k (nat_le k n) e
