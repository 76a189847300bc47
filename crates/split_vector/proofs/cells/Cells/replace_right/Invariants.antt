use Rattle.std.proofs.Common.{◌+◌, ◌-◌, length, set}
use Rattle.split_vector.proofs.cells.Cells.replace_right.Given as goal

abbrev pub ghost-write_cell : goal.ghost-write_cell
ghost-write_cell g a = (a.self.now.left, a.self.now.spare, set a.self.now.right (a.place - (length a.self.now.left + a.self.now.spare)) a.item)
