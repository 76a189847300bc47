-- How many items a list of insertions and deletions of cells moves in all, in each of the two gap buffers.
use Rattle.std.specs.Prelude.{ℕ, ◌+◌, ◌-◌, ◌≤◌, List, [], ◌∷◌}
use Rattle.cell_buffer.specs.Buffer.{Buffer, CostsBoth}

-- a call that inserts so many cells and so many styles at a place, or deletes so many from there on, and what it leaves
pub record Edited : Type 0 where
  pub place : ℕ
  pub count : ℕ
  pub styles : ℕ
  pub left : Buffer

-- a list of calls, each of which keeps to its cost
abbrev pub EachCosts : Buffer → List Edited → Type 0
EachCosts was [] = Unit {0}
EachCosts was (call ∷ calls) = CostsBoth call.place call.count call.styles was call.left × EachCosts call.left calls

abbrev pub buffer_after : Buffer → List Edited → Buffer
buffer_after was [] = was
buffer_after was (call ∷ calls) = buffer_after call.left calls

-- the sum of what each call may cost in one of the gap buffers: the distance of the gap from the place, and the items
abbrev pub sum_of_costs : (Buffer → ℕ) → (Edited → ℕ) → Buffer → List Edited → ℕ
sum_of_costs gap items was [] = 0
sum_of_costs gap items was (call ∷ calls) = (((call.place - gap was) + (gap was - call.place)) + items call) + sum_of_costs gap items call.left calls

-- a list of calls moves no more bytes, and no more styles, than the sum of what each may cost
abbrev pub CostsAddUp : Type 0
CostsAddUp =
    (was : Buffer) (calls : List Edited) → EachCosts was calls
    → ((buffer_after was calls).moved.0 ≤ was.moved.0 + sum_of_costs (λ b. b.gaps.0) (λ call. call.count) was calls)
    × ((buffer_after was calls).moved.1 ≤ was.moved.1 + sum_of_costs (λ b. b.gaps.1) (λ call. call.styles) was calls)
