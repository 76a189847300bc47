-- Call by call, for either gap buffer.
use Rattle.cell_buffer.proofs.Names.{arith, ℕ, ◌+◌, ◌-◌, ◌≤◌, List, [], ◌∷◌, Buffer, CostsBoth}
use Rattle.cell_buffer.specs.SumLaws.{Edited, EachCosts, buffer_after, sum_of_costs}
use Rattle.cell_buffer.proofs.laws.costs_add_up.Goals as goal

sum_of : (gap moved : Buffer → ℕ) (items : Edited → ℕ)
    → ((was : Buffer) (call : Edited) → CostsBoth call.place call.count call.styles was call.left → moved call.left ≤ moved was + ((call.place - gap was) + (gap was - call.place)) + items call)
    → (was : Buffer) (calls : List Edited) → EachCosts was calls → moved (buffer_after was calls) ≤ moved was + sum_of_costs gap items was calls
sum_of gap moved items one was [] costs = omega arith
sum_of gap moved items one was (call ∷ calls) costs = omega (arith, one was call costs.0, sum_of gap moved items one call.left calls costs.1)

pub returns : goal.returns
returns c = λ was calls costs. (
  sum_of (λ b. b.gaps.0) (λ b. b.moved.0) (λ call. call.count) (λ _ _ h. h.bytes.cost) was calls costs,
  sum_of (λ b. b.gaps.1) (λ b. b.moved.1) (λ call. call.styles) (λ _ _ h. h.styles.cost) was calls costs,
)
