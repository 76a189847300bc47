use Rattle.std.proofs.Common.{take, drop}
use Rattle.split_vector.proofs.cells.Cells.lower.Given as goal

abbrev pub ghost-move_over : goal.ghost-move_over
ghost-move_over g a = (a.self.now.left, take a.count a.self.now.right, a.self.now.spare, drop a.count a.self.now.right)
