-- Steps: the length of the new text; positions stay in the text, and keep their order.
use Rattle.ed_model.proofs.Names.{ℕ, ◌+◌, ◌-◌, ◌≤◌, min, Bool, true, false, cond, List, length, leb, ltb, arith, nat_tests, Step, Insert, Delete, edited, moved_back, moved_start, moved_position, length-inserted, length-deleted}

moved_back_in_range : (p n l q : ℕ) → q ≤ l → moved_back p n q ≤ min p l + (l - (p + n))
moved_back_in_range p n l q h = grind (arith, nat_tests)

moved_back_monotone : (p n q r : ℕ) → q ≤ r → moved_back p n q ≤ moved_back p n r
moved_back_monotone p n q r h = grind (arith, nat_tests)

moved_on_in_range : (t : Bool) (n l q : ℕ) → q ≤ l → cond t q (q + n) ≤ l + n
moved_on_in_range true n l q h = omega arith
moved_on_in_range false n l q h = omega arith

moved_on_monotone : (p n q r : ℕ) → q ≤ r → cond (ltb q p) q (q + n) ≤ cond (ltb r p) r (r + n)
moved_on_monotone p n q r h = grind (arith, nat_tests)

moved_past_monotone : (p n q r : ℕ) → q ≤ r → cond (leb q p) q (q + n) ≤ cond (leb r p) r (r + n)
moved_past_monotone p n q r h = grind (arith, nat_tests)

-- a line start in the text is moved to a place in the new text
pub start_stays_in_range : (step : Step) (text : List ℕ) (q : ℕ) → q ≤ length text → moved_start step q ≤ length (edited step text)
start_stays_in_range (Insert p bytes) text q h = rw (length-inserted p bytes text) (moved_on_in_range (ltb q p) (length bytes) (length text) q h)
start_stays_in_range (Delete p bytes) text q h = rw (length-deleted p bytes text) (moved_back_in_range p (length bytes) (length text) q h)

-- a position in the text is moved to a position in the new text
pub position_stays_in_range : (step : Step) (text : List ℕ) (q : ℕ) → q ≤ length text → moved_position step q ≤ length (edited step text)
position_stays_in_range (Insert p bytes) text q h = rw (length-inserted p bytes text) (moved_on_in_range (leb q p) (length bytes) (length text) q h)
position_stays_in_range (Delete p bytes) text q h = rw (length-deleted p bytes text) (moved_back_in_range p (length bytes) (length text) q h)

-- a later line start is never moved before an earlier one
pub start_keeps_order : (step : Step) (q r : ℕ) → q ≤ r → moved_start step q ≤ moved_start step r
start_keeps_order (Insert p bytes) q r h = moved_on_monotone p (length bytes) q r h
start_keeps_order (Delete p bytes) q r h = moved_back_monotone p (length bytes) q r h

-- a later position is never moved before an earlier one
pub position_keeps_order : (step : Step) (q r : ℕ) → q ≤ r → moved_position step q ≤ moved_position step r
position_keeps_order (Insert p bytes) q r h = moved_past_monotone p (length bytes) q r h
position_keeps_order (Delete p bytes) q r h = moved_back_monotone p (length bytes) q r h
