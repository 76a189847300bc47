use Rattle.std.proofs.Common.{◌≡◌, ◌-◌, ◌++◌, replicate}
use Rattle.split_vector.proofs.cells.Cells.push_fill.Given as goal

abbrev pub invariant-loop-i : goal.invariant-loop-i
invariant-loop-i g l = l.self ≡ record l.initial.self { left = l.initial.self.left ++ replicate l.i l.item; spare = l.initial.self.spare - l.i }
