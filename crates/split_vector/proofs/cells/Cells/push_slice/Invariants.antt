use Rattle.std.proofs.Common.{◌≡◌, ◌-◌, ◌++◌, take}
use Rattle.split_vector.proofs.cells.Cells.push_slice.Given as goal

abbrev pub invariant-loop-i : goal.invariant-loop-i
invariant-loop-i g l = l.self ≡ record l.initial.self { left = l.initial.self.left ++ take l.i l.source; spare = l.initial.self.spare - l.i }
