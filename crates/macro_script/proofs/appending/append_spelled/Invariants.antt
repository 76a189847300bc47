use Rattle.macro_script.proofs.Names.{◌≡◌, ◌≤◌, ◌-◌, ◌++◌, take, length, spelled_bytes}
use Rattle.macro_script.proofs.appending.append_spelled.Given as goal

abbrev pub invariant-loop-at : goal.invariant-loop-at
invariant-loop-at l = record { within : l.at ≤ length l.text; appended : l.out.items ≡ l.fn.out.items ++ spelled_bytes (take l.at l.text) }

abbrev pub decreases-loop-at : goal.decreases-loop-at
decreases-loop-at l = length l.text - l.at
