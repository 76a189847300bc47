-- Call by call.
use Rattle.split_vector.proofs.Names.{arith, ℕ, ◌+◌, ◌-◌, ◌^◌, ◌≤◌, ◌==◌, if◌then◌else◌, Bool, true, false, List, [], ◌∷◌, apart, outside, counted}
use Rattle.std.proofs.Math.Nat.{min-le_left}
use Rattle.split_vector.specs.SumLaws.{Call, PutIn, TakeOut, Moves, moves_after_call, moves_after, cost_of_call, cost_of}
use Rattle.split_vector.proofs.laws.moves_add_up.Goals as goal

-- a counter that stays at its greatest value is no higher than one that does not
counted_at_most : (moved n most : ℕ) → n ≤ most → counted moved n ≤ moved + most
counted_at_most moved n most h = let under : counted moved n ≤ moved + n = min-le_left (moved + n) (2 ^ 64 - 1) in omega (arith, under, h)

outside_at_most : (low high place : ℕ) → outside low (low + high) place ≤ apart low place + high
outside_at_most low high place = omega arith

-- a call of no items moves none
unless_none : (is_none : Bool) (moved n most : ℕ) → n ≤ most → (if is_none then moved else counted moved n) ≤ moved + most
unless_none true moved n most h = omega arith
unless_none false moved n most h = counted_at_most moved n most h

call_costs : (call : Call) (was : Moves) → (moves_after_call call was).moved ≤ was.moved + cost_of_call call was
call_costs (PutIn place count) was = unless_none (count == 0) was.moved (apart place was.gap + count) (apart place was.gap + count) (omega arith)
call_costs (TakeOut place count) was =
    unless_none (count == 0) was.moved (outside place (place + count) was.gap) (apart place was.gap + count) (outside_at_most place count was.gap)

calls_cost : (calls : List Call) (was : Moves) → (moves_after calls was).moved ≤ was.moved + cost_of calls was
calls_cost [] was = omega arith
calls_cost (call ∷ calls) was =
    let first : (moves_after_call call was).moved ≤ was.moved + cost_of_call call was = call_costs call was in
    let others : (moves_after calls (moves_after_call call was)).moved ≤ (moves_after_call call was).moved + cost_of calls (moves_after_call call was) =
    calls_cost calls (moves_after_call call was) in
    omega (arith, first, others)

pub returns : goal.returns
returns c = calls_cost
