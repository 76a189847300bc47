use Rattle.std.proofs.Common.{◌≡◌, ◌-◌, ◌++◌, drop}
use Rattle.split_vector.proofs.cells.Cells.push_right_slice.Given as goal

abbrev pub invariant-loop-i : goal.invariant-loop-i
invariant-loop-i g l = l.self ≡ record l.initial.self { spare = l.initial.self.spare - l.i; right = drop (l.len - l.i) l.source ++ l.initial.self.right }
