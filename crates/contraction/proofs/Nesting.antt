-- The last child of a line, and the nesting of folds.
use Rattle.contraction.proofs.Names.{◌≡◌, ℕ, zero, suc, ◌+◌, ◌-◌, ◌<◌, ◌≤◌, Bool, true, false, leb, List, length, Option, Some, None, inl, inr, arith, le_refl, cases_Bool, find, range_with_len, cases_lt, cases_eq, leb-true, leb-false, number_at, line_before, last_child}

-- the first of a range that passes, or none does
abbrev pub Found : (ℕ → Bool) → ℕ → ℕ → Option ℕ → Type 0
Found test a n None = (k : ℕ) → a ≤ k → k < a + n → test k ≡ false
Found test a n (Some j) = (a ≤ j) × (j < a + n) × (test j ≡ true) × ((k : ℕ) → a ≤ k → k < j → test k ≡ false)

pub found : (test : ℕ → Bool) (a n : ℕ) → Found test a n (find test (range_with_len a n))
found test a zero = λ k h l. absurd (omega arith)
found test a (suc n) =
    elim (cases_Bool (test a)) [
      | inl t ↦ rw t (le_refl a, omega arith, t, λ k h l. absurd (omega arith))
      | inr f ↦ rw f (later (find test (range_with_len (a + 1) n)) f (found test (a + 1) n))
    ]
  where
    behind : (k : ℕ) → a ≤ k → test a ≡ false → (a + 1 ≤ k → test k ≡ false) → test k ≡ false
    behind k h f rest = elim (cases_eq k a) [
      | inl q ↦ rw q f
      | inr ne ↦ rest (omega arith)
    ]

    later : (o : Option ℕ) → test a ≡ false → Found test (a + 1) n o → Found test a (suc n) o
    later None f none = λ k h l. behind k h f (λ b. none k b (omega arith))
    later (Some j) f some = (omega (arith, some.0), omega (arith, some.1), some.2, λ k h l. behind k h f (λ b. some.3 k b l))

-- the lines behind the line up to this one have greater numbers, and the next has not
pub record IsLastChild (levels : List ℕ) (line last : ℕ) : Type 0 where
  pub from : line ≤ last
  pub within : last < length levels
  pub above : (j : ℕ) → line < j → j ≤ last → number_at levels line < number_at levels j
  pub next : last + 1 < length levels → number_at levels (last + 1) ≤ number_at levels line

from_found : (levels : List ℕ) (line : ℕ) (o : Option ℕ) → line < length levels
    → Found (λ j. leb (number_at levels j) (number_at levels line)) (line + 1) (length levels - (line + 1)) o
    → IsLastChild levels line (line_before (length levels) o)
from_found levels line None l f = record {
  from = omega arith;
  within = omega arith;
  above = λ j a b. leb-false (number_at levels j) (number_at levels line) (f j (omega arith) (omega arith));
  next = λ h. absurd (omega arith);
}
from_found levels line (Some next) l f =
    let back : next - 1 + 1 ≡ next = omega (arith, f.0) in
    record {
      from = omega (arith, f.0);
      within = omega (arith, f.1);
      above = λ j a b. leb-false (number_at levels j) (number_at levels line) (f.3 j (omega arith) (omega (arith, f.0)));
      next = λ h. rw back (leb-true (number_at levels next) (number_at levels line) f.2);
    }

pub last_child_is : (levels : List ℕ) (line : ℕ) → line < length levels → IsLastChild levels line (last_child levels line)
last_child_is levels line l =
    let test : ℕ → Bool = λ j. leb (number_at levels j) (number_at levels line) in
    from_found levels line (find test (range_with_len (line + 1) (length levels - (line + 1)))) l (found test (line + 1) (length levels - (line + 1)))

-- the fold of a child lies in the fold
pub nested : (levels : List ℕ) (a b la lb : ℕ) → IsLastChild levels a la → IsLastChild levels b lb → a < b → b ≤ la → lb ≤ la
nested levels a b la lb one two h k =
    elim (cases_lt la lb) [
      | inr l ↦ l
      | inl l ↦ absurd (omega (arith, one.above b h k, two.above (la + 1) (omega arith) (omega arith), one.next (omega (arith, two.within))))
    ]
