use Rattle.undo_history.proofs.Names.{◌≡◌, ◌+◌, ◌-◌, ℕ, List, drop, entries_in, next_count, joined_count}
use Rattle.undo_history.proofs.runs.count_behind.Given as goal

-- none of the steps before `i` begins another transaction
abbrev pub invariant-loop-i : goal.invariant-loop-i
invariant-loop-i l = (bytes : List ℕ) → next_count (drop l.past (entries_in l.steps bytes)) ≡ l.i - l.past + joined_count (drop l.i (entries_in l.steps bytes))
