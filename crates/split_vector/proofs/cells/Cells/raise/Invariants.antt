use Rattle.std.proofs.Common.{take, drop}
use Rattle.split_vector.proofs.cells.Cells.raise.Given as goal

abbrev pub ghost-move_over : goal.ghost-move_over
ghost-move_over g a = (take a.from a.self.now.left, drop a.from a.self.now.left, a.self.now.spare, a.self.now.right)
