use Rattle.std.proofs.Common.{set}
use Rattle.split_vector.proofs.cells.Cells.replace_left.Given as goal

abbrev pub ghost-write_cell : goal.ghost-write_cell
ghost-write_cell g a = (set a.self.now.left a.place a.item, a.self.now.spare, a.self.now.right)
