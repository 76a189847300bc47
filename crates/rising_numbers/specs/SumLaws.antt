-- How many stored numbers a list of calls changes in all by moving the step.
use Rattle.std.specs.Prelude.{ℕ, ◌+◌, ◌≤◌, List, [], ◌∷◌}
use Rattle.split_vector.specs.Split.{apart}
use Rattle.rising_numbers.specs.Numbers.{Numbers}

-- where the step stands, and how many stored numbers its moves have changed so far
pub record Steps : Type 0 where
  pub step_at : ℕ
  pub stepped : ℕ

abbrev pub steps_of : Numbers → Steps
steps_of r = record { step_at = r.step_at; stepped = r.stepped }

-- What each call that names a place in the list keeps to: it changes no more numbers than the step's distance from that
-- place and one. A step that stops on the way leaves the rest of the distance.
abbrev pub KeepsTo : ℕ → Steps → Steps → Type 0
KeepsTo index was now = now.stepped + apart index now.step_at ≤ was.stepped + (apart index was.step_at + 1)

-- a list of calls: the place that each names, and what it leaves
abbrev pub EachKeepsTo : Steps → List (ℕ × Steps) → Type 0
EachKeepsTo was [] = Unit {0}
EachKeepsTo was (call ∷ calls) = KeepsTo call.0 was call.1 × EachKeepsTo call.1 calls

abbrev pub steps_after : Steps → List (ℕ × Steps) → Steps
steps_after was [] = was
steps_after was (call ∷ calls) = steps_after call.1 calls

-- the sum of what each call may change: the step's distance from the place that it names, from where the step
-- stands by then, and one
abbrev pub sum_of_ways : Steps → List (ℕ × Steps) → ℕ
sum_of_ways was [] = 0
sum_of_ways was (call ∷ calls) = (apart call.0 was.step_at + 1) + sum_of_ways call.1 calls

-- the same sum with the distance from the place that the call before it named
abbrev pub sum_between : ℕ → List (ℕ × Steps) → ℕ
sum_between from [] = 0
sum_between from (call ∷ calls) = (apart call.0 from + 1) + sum_between call.0 calls

-- a list of calls changes no more than either sum
pub record IsWithinSums (was : Steps) (calls : List (ℕ × Steps)) : Type 0 where
  pub by_step : (steps_after was calls).stepped ≤ was.stepped + sum_of_ways was calls
  pub by_names : (steps_after was calls).stepped ≤ was.stepped + sum_between was.step_at calls

abbrev pub StepsAddUp : Type 0
StepsAddUp = (was : Steps) (calls : List (ℕ × Steps)) → EachKeepsTo was calls → IsWithinSums was calls
