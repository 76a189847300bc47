use Rattle.undo_history.proofs.Names.{◌≡◌, ◌+◌, ◌-◌, ℕ, List, reverse, take, entries_in, last_count}
use Rattle.undo_history.proofs.runs.count_before.Given as goal

-- none of the steps from `i` on begins a transaction
abbrev pub invariant-loop-i : goal.invariant-loop-i
invariant-loop-i l = (bytes : List ℕ) → last_count (reverse (take l.past (entries_in l.steps bytes))) ≡ l.past - l.i + last_count (reverse (take l.i (entries_in l.steps bytes)))
