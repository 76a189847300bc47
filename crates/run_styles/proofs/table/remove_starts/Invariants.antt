use Rattle.std.proofs.Common.{◌≡◌, ◌++◌, take, drop}
use Rattle.run_styles.proofs.table.remove_starts.Given as goal

abbrev pub invariant-loop : goal.invariant-loop
invariant-loop g l = l.starts ≡ record l.fn.starts { starts = take l.from l.fn.starts.starts ++ drop l.counter l.fn.starts.starts; step_at = l.starts.step_at }
