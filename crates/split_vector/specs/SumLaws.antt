-- How many items a list of calls of a gap buffer moves in all.
use Rattle.std.specs.Prelude.{ℕ, ◌+◌, ◌≤◌, List, [], ◌∷◌}
use Rattle.split_vector.specs.Split.{apart, gap_after, moved_after, gap_closed, moved_closed}

-- a call that inserts so many items at a place, or deletes so many from there on
pub data Call : Type 0 where
  PutIn : (place count : ℕ) → Call
  TakeOut : (place count : ℕ) → Call

-- where the gap lies and how many items were moved or written so far
pub record Moves : Type 0 where
  pub gap : ℕ
  pub moved : ℕ

abbrev pub moves_after_call : Call → Moves → Moves
moves_after_call (PutIn place count) was = record { gap = gap_after place count was.gap; moved = moved_after place count was.gap was.moved }
moves_after_call (TakeOut place count) was = record { gap = gap_closed place count was.gap; moved = moved_closed place count was.gap was.moved }

abbrev pub moves_after : List Call → Moves → Moves
moves_after [] was = was
moves_after (call ∷ calls) was = moves_after calls (moves_after_call call was)

-- what one call may cost: the distance of the gap from the place, and the items
abbrev pub cost_of_call : Call → Moves → ℕ
cost_of_call (PutIn place count) was = apart place was.gap + count
cost_of_call (TakeOut place count) was = apart place was.gap + count

-- what several calls may cost: the sum, each from where the gap lies by then
abbrev pub cost_of : List Call → Moves → ℕ
cost_of [] was = 0
cost_of (call ∷ calls) was = cost_of_call call was + cost_of calls (moves_after_call call was)

-- a list of calls moves no more than the sum of what each may cost
abbrev pub MovesAddUp : Type 0
MovesAddUp = (calls : List Call) (was : Moves) → (moves_after calls was).moved ≤ was.moved + cost_of calls was
