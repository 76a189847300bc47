-- Call by call.
use Rattle.rising_numbers.proofs.Names.{arith, ℕ, ◌+◌, ◌≤◌, List, [], ◌∷◌, apart}
use Rattle.rising_numbers.specs.SumLaws.{Steps, EachKeepsTo, steps_after, sum_of_ways, sum_between}
use Rattle.rising_numbers.proofs.laws.steps_add_up.Goals as goal

-- Each call's share alone.
by_step : (was : Steps) (calls : List (ℕ × Steps)) → EachKeepsTo was calls → (steps_after was calls).stepped ≤ was.stepped + sum_of_ways was calls
by_step was [] keeps = omega arith
by_step was (call ∷ calls) keeps =
    let first : call.1.stepped + apart call.0 call.1.step_at ≤ was.stepped + (apart call.0 was.step_at + 1) = keeps.0 in
    let others : (steps_after call.1 calls).stepped ≤ call.1.stepped + sum_of_ways call.1 calls = by_step call.1 calls keeps.1 in
    omega (arith, first, others)

-- The changes so far, and the distance from the place that was named last, rise by at most each call's share.
by_names :
    (from : ℕ) (was : Steps) (calls : List (ℕ × Steps)) → EachKeepsTo was calls
    → (steps_after was calls).stepped ≤ was.stepped + apart from was.step_at + sum_between from calls
by_names from was [] keeps = omega arith
by_names from was (call ∷ calls) keeps =
    let first : call.1.stepped + apart call.0 call.1.step_at ≤ was.stepped + (apart call.0 was.step_at + 1) = keeps.0 in
    let others : (steps_after call.1 calls).stepped ≤ call.1.stepped + apart call.0 call.1.step_at + sum_between call.0 calls =
    by_names call.0 call.1 calls keeps.1 in
    omega (arith, first, others)

no_way : (place : ℕ) → apart place place ≤ 0
no_way place = omega arith

pub returns : goal.returns
returns c was calls keeps = record { by_step = by_step was calls keeps; by_names = omega (arith, by_names was.step_at was calls keeps, no_way was.step_at) }
